-- The answer of the whole operation, at each of its returns: the refusals before any work, and what the writer answered.
-- Each is the definition's equation, once the tests before it are known to pass.
use mathlib.Core.Path.{◌≡◌, refl, sym, ap, ◌∙◌}
use mathlib.Core.Logic.{◌≢◌}
use mathlib.Core.Bool.{true, false, not, ◌&&◌, ◌||◌}
use mathlib.Core.List.{List, [], ◌∷◌}
use Prim.Native.Nat.{ℕ, ◌≤◌}
use native.Mathlib.Omega.{arith}
use lib.Dec.{nltb→le, ltb}
use Rattle.laws.specs.Lists.{T_of, or_no}
use Rattle.laws.specs.Tools.{zeroed}
use Rattle.defs.specs.Check.{first_of, table_refusal}
use Rattle.defs.specs.Layout.{Layout, bad8}
use Rattle.defs.specs.Text.{is_compressed, bad9, text_of}
use Rattle.defs.specs.Refusals.{bad14, need32, need16}
use Rattle.defs.specs.Outcome.{answer_one, is_early, work_after, one_output, text_number, text_outcome}
use Rattle.defs.specs.OutcomeLaws.{table_refusal_most, else_refused, else_good, refused_early, one_early}
use Rattle.text.specs.Late.{late_number, WroteText}
use Rattle.text.proofs.Endings.{late_not_early}

answer_by : (n n' a a' : ℕ) (work sums work' sums' out out' : List ℕ) → n ≡ n' → a ≡ a' → work ≡ work' → sums ≡ sums' → out ≡ out'
    → answer_one n a (work ∷ sums ∷ []) out ≡ answer_one n' a' (work' ∷ sums' ∷ []) out'
answer_by n n' a a' work sums work' sums' out out' e₁ e₂ e₃ e₄ e₅ = rw (e₁, e₂, e₃, e₄, e₅)

module _ (w b : List ℕ) (style : ℕ) (l : Layout) (work sums out : List ℕ) where
  abbrev outcome : (number len : ℕ) → Type 0
  outcome number len = answer_one number len (work ∷ sums ∷ []) out ≡ text_outcome w b style l work sums out

  -- a refusal before any work, with the number that the tests give
  early : (k number len : ℕ) → text_number w b style l work sums out ≡ k → k ≢ 0 → is_early k ≡ true → number ≡ k → len ≡ 0 → outcome number len
  unfolding text_outcome
  early k number len is some e n zero =
      answer_by _ k _ 0 work sums work sums out out n zero refl refl refl
      ∙ sym (rw is (one_early k (text_of w b style l) (work ∷ sums ∷ []) out some e))

  pub table_refused : (number len : ℕ) → number ≡ table_refusal w b → table_refusal w b ≢ 0 → len ≡ 0 → outcome number len
  unfolding text_number
  table_refused number len is bad =
      early (table_refusal w b) number len (else_refused (table_refusal w b) _ bad) bad (refused_early (table_refusal w b) bad (table_refusal_most w b)) is

  module _ (ok : table_refusal w b ≡ 0) where
    pub layout_refused : (number len : ℕ) → number ≡ 8 → bad8 l ≡ true → len ≡ 0 → outcome number len
    unfolding text_number first_of is_early
    layout_refused number len is bad = early 8 number len (else_good (table_refusal w b) _ ok ∙ rw bad) (λ e. omega arith) refl is

    module _ (right : bad8 l ≡ false) where
      pub style_refused : (number len : ℕ) → number ≡ 9 → bad9 style ≡ true → len ≡ 0 → outcome number len
      unfolding text_number first_of is_early
      style_refused number len is bad = early 9 number len (else_good (table_refusal w b) _ ok ∙ rw (right, bad)) (λ e. omega arith) refl is

      module _ (known : bad9 style ≡ false) where
        pub work_short : (number len : ℕ) → number ≡ 14 → (bad14 (need32 w) work || (is_compressed style && bad14 (need16 w l) sums)) ≡ true → len ≡ 0 → outcome number len
        unfolding text_number first_of is_early
        work_short number len is bad =
            early 14 number len (else_good (table_refusal w b) _ ok ∙ rw (right, known, bad)) (λ e. omega arith) refl is

        module _ (enough : (bad14 (need32 w) work || (is_compressed style && bad14 (need16 w l) sums)) ≡ false) where
          number_late : text_number w b style l work sums out ≡ late_number w b style l out
          unfolding text_number late_number first_of
          number_late = else_good (table_refusal w b) _ ok ∙ rw (right, known, enough)

          -- what was written, and both working slices zero
          pub ended : (number len : ℕ) (work' sums' out' : List ℕ) → WroteText w b style l number len out out' → work' ≡ zeroed work → sums' ≡ zeroed sums
              → answer_one number len (work' ∷ sums' ∷ []) out' ≡ text_outcome w b style l work sums out
          unfolding text_outcome one_output work_after
          ended number len work' sums' out' wrote zero₁ zero₂ =
              rw (number_late, late_not_early w b style l out)
              (answer_by _ _ _ _ work' sums' _ _ out' _ wrote.number_is wrote.length_is zero₁ zero₂ wrote.out_is)

-- past test 14 the u32 slice is long enough, and for style 0 the u16 slice
module _ (w : List ℕ) (l : Layout) (style work sums : ℕ) where
  pub work_enough : (ltb work (need32 w) || (is_compressed style && ltb sums (need16 w l))) ≡ false → need32 w ≤ work
  work_enough h = nltb→le work (need32 w) (T_of (ap not (or_no (ltb work (need32 w)) (is_compressed style && ltb sums (need16 w l)) h).0))

  pub sums_enough : (ltb work (need32 w) || (is_compressed style && ltb sums (need16 w l))) ≡ false → is_compressed style ≡ true → need16 w l ≤ sums
  sums_enough h e =
      let second : (is_compressed style && ltb sums (need16 w l)) ≡ false = (or_no (ltb work (need32 w)) (is_compressed style && ltb sums (need16 w l)) h).1 in
      nltb→le sums (need16 w l) (T_of (ap not (rw e at second)))
