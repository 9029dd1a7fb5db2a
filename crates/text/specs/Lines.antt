-- No line of a compressed text exceeds the width, counting the first position on line one: of what `text` leaves in its output.
-- It follows from the contract alone: an answer 0 says that no test refused, and which text stands at the front.
use Rattle.std.specs.Prelude.{◌≡◌, refl, Bool, true, false, List, [], ◌∷◌, ℕ, zero, suc, ◌≤◌, take, drop}
use Rattle.std.proofs.Math.Path.{sym, ap}
use Rattle.std.proofs.Common.{◌∙◌, arith}
use Rattle.std.proofs.Math.ListN.{length, get_or}
use Rattle.std.proofs.Math.Seq.{take-append_seam}
use Rattle.laws.specs.Tools.{over}
use Rattle.defs.specs.Check.{◌when◌, first_of, or_else, table_refusal}
use Rattle.defs.specs.Layout.{Layout, bad8, widest}
use Rattle.defs.specs.Text.{bad9, text_of}
use Rattle.defs.specs.Refusals.{bad10, bad11, bad12, bad15}
use Rattle.defs.specs.Outcome.{Outcome, answer_one, compressed_tests, length_after, out_after, one_output, text_number, text_outcome}
use Rattle.defs.specs.LineLaws.{LinesFit}
use Rattle.defs.proofs.LineLaws.{lines_fit}

-- a first answer that is 0 hands on to the next
both_zero : (k next : ℕ) → or_else k next ≡ 0 → (k ≡ 0) × (next ≡ 0)
unfolding or_else
both_zero zero next e = (refl, e)
both_zero (suc k) next e = absurd (omega arith)

-- where none of the tests refuses, 8 and 12 do not
none_refuses : (a c d p q r x : Bool) → first_of (8 when a ∷ 9 when c ∷ 14 when d ∷ 10 when p ∷ 11 when q ∷ 12 when r ∷ 13 when false ∷ 15 when x ∷ []) ≡ 0 → (a ≡ false) × (r ≡ false)
unfolding first_of
none_refuses true c d p q r x e = absurd (omega arith)
none_refuses false true d p q r x e = absurd (omega arith)
none_refuses false false true p q r x e = absurd (omega arith)
none_refuses false false false true q r x e = absurd (omega arith)
none_refuses false false false false true r x e = absurd (omega arith)
none_refuses false false false false false true x e = absurd (omega arith)
none_refuses false false false false false false x e = (refl, refl)

module _ (w b : List ℕ) (l : Layout) (work sums out : List ℕ) (len : ℕ) (works : List (List ℕ)) (out' : List ℕ)
    (answer : answer_one 0 len works out' ≡ text_outcome w b 0 l work sums out) where
  number_zero : text_number w b 0 l work sums out ≡ 0
  unfolding text_outcome one_output
  number_zero = sym (ap (λ (o : Outcome). o.number) answer)

  parts : (table_refusal w b ≡ 0) × ((bad8 l ≡ false) × (bad12 w l ≡ false))
  unfolding text_number compressed_tests
  parts =
      let z = both_zero (table_refusal w b) _ number_zero in
      (z.0, none_refuses (bad8 l) (bad9 0) _ (bad10 w) (bad11 w) (bad12 w l) (bad15 (text_of w b 0 l) out) z.1)

  -- the text stands at the front of the output
  front : take len out' ≡ text_of w b 0 l
  unfolding text_outcome one_output length_after out_after
  front =
      let long : len ≡ length (text_of w b 0 l) = ap (λ (o : Outcome). get_or o.lengths 0 0) answer ∙ rw number_zero in
      let is : out' ≡ over (text_of w b 0 l) out = ap (λ (o : Outcome). get_or o.outs 0 []) answer ∙ rw number_zero in
      rw (long, is) (take-append_seam (text_of w b 0 l) (drop (length (text_of w b 0 l)) out))

  pub text_lines : widest l.first (take len out') ≤ l.width
  unfolding LinesFit
  text_lines = rw front (lines_fit w b l parts.0 parts.1.0 parts.1.1)
