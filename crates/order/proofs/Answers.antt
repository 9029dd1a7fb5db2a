-- The answer once the work has begun, at each return; and the answer of the whole operation from it.
-- The first test that refuses gives the number, and the number says what the slices then hold.
use mathlib.Core.Path.{◌≡◌, refl, sym, ap, ◌∙◌}
use mathlib.Core.Logic.{◌≢◌}
use mathlib.Core.Bool.{Bool, true, false, ◌||◌}
use mathlib.Core.List.{List, [], ◌∷◌, ◌++◌}
use Prim.Native.Nat.{ℕ, ◌≤◌, ◌<◌}
use native.Mathlib.Omega.{arith}
use lib.ListN.{length, drop}
use lib.Dec.{eqb}
use borrow.Author.Tests.{lt-ltb, le-ltb}
use Rattle.laws.specs.Tools.{over, zeroed}
use Rattle.laws.specs.Lists.{eqb_no, or_true}
use Rattle.laws.specs.Puts.{Grows}
use Rattle.defs.specs.Check.{◌when◌, first_of, or_else, table_refusal}
use Rattle.defs.specs.Layout.{Layout, bad8}
use Rattle.defs.specs.Text.{labels_of, letters_for}
use Rattle.defs.specs.Refusals.{bad10, bad11, bad12, bad14, bad15, need32, need16}
use Rattle.defs.specs.Outcome.{answer_two, compressed_tests, length_after, out_after, is_early, work_after, two_outputs, letters_number, letters_outcome}
use Rattle.defs.specs.OutcomeLaws.{table_refusal_most, else_refused, else_good, refused_early, two_early}
use Rattle.order.specs.Late.{late_number, WroteBoth}

-- ---- past test 14

-- three tests, then one more
then_last : (p q r x : Bool) → first_of (10 when p ∷ 11 when q ∷ 12 when r ∷ 15 when x ∷ []) ≡ or_else (first_of (10 when p ∷ 11 when q ∷ 12 when r ∷ [])) (first_of (15 when x ∷ []))
unfolding first_of or_else
then_last true q r x = refl
then_last false true r x = refl
then_last false false true x = refl
then_last false false false x = refl

-- none of their numbers is an early one
not_early : (p q r x : Bool) → is_early (first_of (10 when p ∷ 11 when q ∷ 12 when r ∷ 15 when x ∷ [])) ≡ false
unfolding first_of is_early
not_early true q r x = refl
not_early false true r x = refl
not_early false false true x = refl
not_early false false false true = refl
not_early false false false false = refl

module _ (w : List ℕ) (l : Layout) (list letters : List ℕ) where
  late_is : late_number w l list letters ≡ or_else (first_of (compressed_tests w l)) (first_of (15 when (bad15 (labels_of w l) list || bad15 (letters_for w l) letters) ∷ []))
  unfolding late_number compressed_tests
  late_is = then_last (bad10 w) (bad11 w) (bad12 w l) (bad15 (labels_of w l) list || bad15 (letters_for w l) letters)

  late_not_early : is_early (late_number w l list letters) ≡ false
  unfolding late_number compressed_tests
  late_not_early = not_early (bad10 w) (bad11 w) (bad12 w l) (bad15 (labels_of w l) list || bad15 (letters_for w l) letters)

  -- a refusal: lengths 0, both outputs as they were
  refusal : (number : ℕ) → number ≡ late_number w l list letters → number ≢ 0 → WroteBoth w l number 0 0 list list letters letters
  unfolding length_after out_after
  refusal number is some =
      let no : eqb (late_number w l list letters) 0 ≡ false = eqb_no (late_number w l list letters) 0 (λ z. some (is ∙ z)) in
      record { number_is = is; first_is = rw no; second_is = rw no; list_is = rw no; letters_is = rw no }

  -- one of the tests 10 to 12 refuses
  pub refused_first : (number : ℕ) → number ≡ first_of (compressed_tests w l) → number ≢ 0 → WroteBoth w l number 0 0 list list letters letters
  refused_first number is some = refusal number (is ∙ sym (late_is ∙ else_refused (first_of (compressed_tests w l)) _ (λ z. some (is ∙ z)))) some

  -- none of them refuses, and an output does not fit
  module _ (fine : 0 ≡ first_of (compressed_tests w l)) where
    last_is : late_number w l list letters ≡ first_of (15 when (bad15 (labels_of w l) list || bad15 (letters_for w l) letters) ∷ [])
    last_is = late_is ∙ else_good (first_of (compressed_tests w l)) _ (sym fine)

    pub list_short : (letters' : List ℕ) → letters' ≡ letters → length list < length (labels_of w l) → WroteBoth w l 15 0 0 list list letters letters'
    unfolding first_of
    list_short letters' same h = rw same (refusal 15 (sym (last_is ∙ rw (lt-ltb (length list) (length (labels_of w l)) h))) (λ z. omega arith))

    pub letters_short : (letters' : List ℕ) → letters' ≡ letters → length letters < length (letters_for w l) → WroteBoth w l 15 0 0 list list letters letters'
    unfolding first_of
    letters_short letters' same h =
        rw same (refusal 15 (sym (last_is ∙ rw (lt-ltb (length letters) (length (letters_for w l)) h, or_true (bad15 (labels_of w l) list)))) (λ z. omega arith))

    -- both fit
    pub both_written : (first second : ℕ) (list' letters' : List ℕ) → first ≡ length (labels_of w l) → second ≡ length (letters_for w l)
        → length (labels_of w l) ≤ length list → length (letters_for w l) ≤ length letters → list' ≡ over (labels_of w l) list → letters' ≡ over (letters_for w l) letters
        → WroteBoth w l 0 first second list list' letters letters'
    unfolding first_of length_after out_after
    both_written first second list' letters' f s fits₁ fits₂ is₁ is₂ =
        let zero-late : late_number w l list letters ≡ 0 =
        last_is ∙ rw (le-ltb (length list) (length (labels_of w l)) fits₁, le-ltb (length letters) (length (letters_for w l)) fits₂) in
        record { number_is = sym zero-late; first_is = rw zero-late f; second_is = rw zero-late s; list_is = rw zero-late is₁; letters_is = rw zero-late is₂ }

-- letters put from the front on stand over it
pub from_front : (text before after : List ℕ) (end : ℕ) → Grows text 0 end before after → end ≤ length before → after ≡ over text before
from_front text before after end g fits =
    let e : end ≡ length text = omega (arith, g.ends) in
    g.fits fits ∙ ap (λ (n : ℕ). text ++ drop n before) e

-- ---- the whole operation

answer_by : (n n' a a' c c' : ℕ) (work sums work' sums' list list' letters letters' : List ℕ) → n ≡ n' → a ≡ a' → c ≡ c' → work ≡ work' → sums ≡ sums' → list ≡ list' → letters ≡ letters'
    → answer_two n a c (work ∷ sums ∷ []) list letters ≡ answer_two n' a' c' (work' ∷ sums' ∷ []) list' letters'
answer_by n n' a a' c c' work sums work' sums' list list' letters letters' e₁ e₂ e₃ e₄ e₅ e₆ e₇ = rw (e₁, e₂, e₃, e₄, e₅, e₆, e₇)

module _ (w b : List ℕ) (l : Layout) (work sums list letters : List ℕ) where
  abbrev outcome : (number first second : ℕ) → Type 0
  outcome number first second =
      answer_two number first second (work ∷ sums ∷ []) list letters ≡ letters_outcome w b l work sums list letters

  -- a refusal before any work, with the number that the tests give
  early : (k : ℕ) → letters_number w b l work sums list letters ≡ k → k ≢ 0 → is_early k ≡ true → outcome k 0 0
  unfolding letters_outcome
  early k is some e = sym (rw is (two_early k (labels_of w l) (letters_for w l) (work ∷ sums ∷ []) list letters some e))

  pub table_refused : (number : ℕ) → number ≡ table_refusal w b → table_refusal w b ≢ 0 → outcome number 0 0
  unfolding letters_number
  table_refused number is bad = rw is (early (table_refusal w b) (else_refused (table_refusal w b) _ bad) bad (refused_early (table_refusal w b) bad (table_refusal_most w b)))

  module _ (ok : table_refusal w b ≡ 0) where
    pub layout_refused : bad8 l ≡ true → outcome 8 0 0
    unfolding letters_number first_of is_early
    layout_refused bad = early 8 (else_good (table_refusal w b) _ ok ∙ rw bad) (λ e. omega arith) refl

    module _ (right : bad8 l ≡ false) where
      pub work_short : length work < need32 w → outcome 14 0 0
      unfolding letters_number first_of is_early
      work_short short = early 14 (else_good (table_refusal w b) _ ok ∙ rw (right, lt-ltb (length work) (need32 w) short)) (λ e. omega arith) refl

      pub sums_short : length sums < need16 w l → outcome 14 0 0
      unfolding letters_number first_of is_early
      sums_short short =
          early 14 (else_good (table_refusal w b) _ ok ∙ rw (right, lt-ltb (length sums) (need16 w l) short, or_true (bad14 (need32 w) work))) (λ e. omega arith) refl

      number_late : need32 w ≤ length work → need16 w l ≤ length sums → letters_number w b l work sums list letters ≡ late_number w l list letters
      unfolding letters_number late_number first_of compressed_tests
      number_late enough₁ enough₂ =
          else_good (table_refusal w b) _ ok ∙ rw (right, le-ltb (length work) (need32 w) enough₁, le-ltb (length sums) (need16 w l) enough₂)

      -- past it: what was written, and both working slices zero
      pub ended : need32 w ≤ length work → need16 w l ≤ length sums → (number first second : ℕ) (work' sums' list' letters' : List ℕ)
          → WroteBoth w l number first second list list' letters letters' → work' ≡ zeroed work → sums' ≡ zeroed sums
          → answer_two number first second (work' ∷ sums' ∷ []) list' letters' ≡ letters_outcome w b l work sums list letters
      unfolding letters_outcome two_outputs work_after
      ended enough₁ enough₂ number first second work' sums' list' letters' wrote zero₁ zero₂ =
          let late : letters_number w b l work sums list letters ≡ late_number w l list letters = number_late enough₁ enough₂ in
          rw (late, late_not_early w l list letters)
          (answer_by _ _ _ _ _ _ work' sums' _ _ list' _ letters' _ wrote.number_is wrote.first_is wrote.second_is zero₁ zero₂ wrote.list_is wrote.letters_is)
