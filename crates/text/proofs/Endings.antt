-- The answer once the work has begun, at each return of a style's writer.
-- Which tests are left depends on the style; the first that refuses gives the number, and the number says what the output then holds.
use mathlib.Core.Path.{◌≡◌, refl, sym, ◌∙◌}
use mathlib.Core.Logic.{◌≢◌}
use mathlib.Core.Bool.{Bool, true, false, not, ◌&&◌}
use mathlib.Core.List.{List, [], ◌∷◌, ◌++◌}
use Prim.Native.Nat.{ℕ, ◌≤◌, ◌<◌}
use native.Mathlib.Omega.{arith}
use lib.ListN.{length}
use lib.Dec.{eqb, ltb}
use borrow.Author.Tests.{lt-ltb, le-ltb}
use Rattle.laws.specs.Tools.{pick, over}
use Rattle.laws.specs.Lists.{eqb_no}
use Rattle.defs.specs.Check.{◌when◌, first_of, or_else}
use Rattle.defs.specs.Layout.{Layout}
use Rattle.defs.specs.Graph.{graph_in, graph_of}
use Rattle.defs.specs.Table.{qed, entry_words, child_words}
use Rattle.counts.specs.Sizes.{capped_size, size_is_13}
use Rattle.defs.specs.Text.{is_compressed, is_packed, text_of}
use Rattle.defs.specs.Refusals.{max_normal_steps, bad10, bad11, bad12, bad13, bad15}
use Rattle.defs.specs.Outcome.{compressed_tests, length_after, out_after, is_early}
use Rattle.defs.specs.OutcomeLaws.{else_refused, else_good}
use Rattle.text.specs.Late.{late_number, WroteText}

-- tests 10 to 12, none of 13, then one more
then_last : (p q r x : Bool) → first_of (10 when p ∷ 11 when q ∷ 12 when r ∷ 13 when false ∷ 15 when x ∷ []) ≡ or_else (first_of (10 when p ∷ 11 when q ∷ 12 when r ∷ [])) (first_of (15 when x ∷ []))
unfolding first_of or_else
then_last true q r x = refl
then_last false true r x = refl
then_last false false true x = refl
then_last false false false x = refl

-- no number is an early one
not_early : (compressed p q r m x : Bool) → is_early (first_of (pick compressed (10 when p ∷ 11 when q ∷ 12 when r ∷ []) [] ++ 13 when m ∷ 15 when x ∷ [])) ≡ false
unfolding first_of is_early
not_early true true q r m x = refl
not_early true false true r m x = refl
not_early true false false true m x = refl
not_early true false false false true x = refl
not_early true false false false false true = refl
not_early true false false false false false = refl
not_early false p q r true x = refl
not_early false p q r false true = refl
not_early false p q r false false = refl

module _ (w b : List ℕ) (style : ℕ) (l : Layout) (out : List ℕ) where
  abbrev result : List ℕ
  result = text_of w b style l

  abbrev late : ℕ
  late = late_number w b style l out

  abbrev last : ℕ
  last = first_of (15 when bad15 result out ∷ [])

  pub late_not_early : is_early late ≡ false
  unfolding late_number compressed_tests
  late_not_early = not_early (is_compressed style) (bad10 w) (bad11 w) (bad12 w l) (not (is_packed style) && bad13 w) (bad15 result out)

  -- a refusal: length 0, the output as it was
  refusal : (number len : ℕ) (out' : List ℕ) → number ≡ late → number ≢ 0 → len ≡ 0 → out' ≡ out → WroteText w b style l number len out out'
  unfolding length_after out_after
  refusal number len out' is some zero same =
      let no : eqb late 0 ≡ false = eqb_no late 0 (λ z. some (is ∙ z)) in
      record { number_is = is; length_is = rw no zero; out_is = rw no same }

  -- test 15 is the only one left: it refuses, or the text stands at the front
  pub no_room : late ≡ last → (number len : ℕ) (out' : List ℕ) → number ≡ 15 → len ≡ 0 → out' ≡ out → length out < length result → WroteText w b style l number len out out'
  unfolding first_of
  no_room is number len out' e zero same short =
      refusal number len out' (e ∙ sym (is ∙ rw (lt-ltb (length out) (length result) short))) (λ z. omega arith) zero same

  pub fits : late ≡ last → (len : ℕ) (out' : List ℕ) → len ≡ length result → length result ≤ length out → out' ≡ over result out → WroteText w b style l 0 len out out'
  unfolding first_of length_after out_after
  fits is len out' long enough front =
      let zero-late : late ≡ 0 = is ∙ rw (le-ltb (length out) (length result) enough) in
      record { number_is = sym zero-late; length_is = rw zero-late long; out_is = rw zero-late front }

  -- styles 2 and 4 have no other test
  pub packed_late : is_compressed style ≡ false → is_packed style ≡ true → late ≡ last
  unfolding late_number first_of
  packed_late p q = rw (q, p)

  -- styles 1 and 3 have test 13
  pub too_many : is_compressed style ≡ false → is_packed style ≡ false → bad13 w ≡ true → (number len : ℕ) → number ≡ 13 → len ≡ 0 → WroteText w b style l number len out out
  unfolding late_number first_of
  too_many p q many number len e zero = refusal number len out (e ∙ sym (rw (q, p, many))) (λ z. omega arith) zero refl

  pub normal_late : is_compressed style ≡ false → is_packed style ≡ false → bad13 w ≡ false → late ≡ last
  unfolding late_number first_of
  normal_late p q few = rw (q, p, few)

-- style 0 has tests 10 to 12
module _ (w b : List ℕ) (l : Layout) (out : List ℕ) where
  late_is : late_number w b 0 l out ≡ or_else (first_of (compressed_tests w l)) (first_of (15 when bad15 (text_of w b 0 l) out ∷ []))
  unfolding late_number compressed_tests
  late_is = then_last (bad10 w) (bad11 w) (bad12 w l) (bad15 (text_of w b 0 l) out)

  pub refused_first : (number k len : ℕ) → number ≡ k → k ≡ first_of (compressed_tests w l) → k ≢ 0 → len ≡ 0 → WroteText w b 0 l number len out out
  refused_first number k len e is some zero =
      refusal w b 0 l out number len out (e ∙ is ∙ sym (late_is ∙ else_refused (first_of (compressed_tests w l)) _ (λ z. some (is ∙ z)))) (λ z. some (sym e ∙ z)) zero refl

  pub compressed_late : 0 ≡ first_of (compressed_tests w l) → late_number w b 0 l out ≡ first_of (15 when bad15 (text_of w b 0 l) out ∷ [])
  compressed_late fine = late_is ∙ else_good (first_of (compressed_tests w l)) _ (sym fine)

-- test 13, by the steps that are counted
pub steps_13 : (w es cs : List ℕ) (q steps : ℕ) → es ≡ entry_words w → cs ≡ child_words w → q ≡ qed w → steps ≡ capped_size (graph_in es cs) q → ltb max_normal_steps steps ≡ bad13 w
unfolding graph_of
steps_13 w es cs q steps e f g counted = size_is_13 w steps (rw (e, f, g) at counted)

-- a text over the front of a slice, where both are known by other names
pub over_both : (after text text' before before' : List ℕ) → after ≡ over text before → text ≡ text' → before ≡ before' → after ≡ over text' before'
over_both after text text' before before' h e f = h ∙ rw (e, f)
