-- The endings of an operation. A refusal changes no output, success puts the results over the fronts of the outputs; an early refusal leaves the
-- working slices, any other ending leaves them zero. What is written is said first with no working slice at all, then these are wiped.
use Rattle.std.specs.Prelude.{◌≡◌, ◌≢◌, true, false, List, [], ◌∷◌, map, ℕ, length}
use Rattle.std.proofs.Common.{sym, ap, ◌∙◌}
use Rattle.laws.specs.Tools.{over, zeroed}
use Rattle.laws.specs.Lists.{eqb_no}
use Rattle.defs.specs.Check.{Test, first_of, or_else, table_refusal}
use Rattle.defs.specs.Outcome.{Outcome, length_after, out_after, is_early, one_output, two_outputs}
use Rattle.defs.specs.OutcomeLaws.{one_early, two_early, late_works}
use Rattle.answers.specs.declared.written.Written.{Written}
use Rattle.answers.specs.declared.written.WrittenTwo.{WrittenTwo}
use Rattle.answers.specs.Tests.{table_stops, table_early}
use Rattle.answers.specs.Left.{left_one, left_two, refusal, refusal_two, success, success_two}

-- an outcome with other working slices
abbrev with_works : List (List ℕ) → Outcome → Outcome
with_works works o = record { number = o.number; lengths = o.lengths; outs = o.outs; works = works }

-- wiped as they are now, the working slices are zero in the length in which they were lent
pub wiped_alone : (work mid work' : List ℕ) → work' ≡ zeroed mid → length mid ≡ length work → work' ∷ [] ≡ map zeroed (work ∷ [])
wiped_alone work mid work' is long = rw (is, long)

pub wiped_pair : (work mid work' sums mids sums' : List ℕ) → work' ≡ zeroed mid → length mid ≡ length work → sums' ≡ zeroed mids → length mids ≡ length sums
    → work' ∷ sums' ∷ [] ≡ map zeroed (work ∷ sums ∷ [])
wiped_pair work mid work' sums mids sums' is long is₂ long₂ = rw (is, long, is₂, long₂)

-- ---- one output

module _ (result : List ℕ) (out : List ℕ) where
  -- a refusal before any work
  pub early_one : (works : List (List ℕ)) (r : Written) (k n : ℕ) → r ≡ refusal k → n ≡ k → k ≢ 0 → is_early k ≡ true
      → left_one r works out ≡ one_output n result works out
  early_one works r k n is number some early = rw (is, number) (sym (one_early k result works out some early))

  -- a refusal of an operation that has no working slice, or whose working slices are yet to be wiped
  pub refused_one : (r : Written) (k n : ℕ) (out' : List ℕ) → r ≡ refusal k → n ≡ k → k ≢ 0 → out' ≡ out → left_one r [] out' ≡ one_output n result [] out
  unfolding one_output length_after out_after
  refused_one r k n out' is number some same = rw (is, number, eqb_no k 0 some, same)

  pub done_one : (r : Written) (len n : ℕ) (out' : List ℕ) → r ≡ success len → n ≡ 0 → len ≡ length result → out' ≡ over result out
      → left_one r [] out' ≡ one_output n result [] out
  unfolding one_output length_after out_after
  done_one r len n out' is number long wrote = rw (is, number, long, wrote)

  -- the working slices are wiped after it, whatever the late tests said
  pub wiped_one : (works works' : List (List ℕ)) (r : Written) (n late : ℕ) (out' : List ℕ) → left_one r [] out' ≡ one_output late result [] out
      → n ≡ late → is_early late ≡ false → works' ≡ map zeroed works → left_one r works' out' ≡ one_output n result works out
  unfolding one_output
  wiped_one works works' r n late out' wrote number after wiped =
      rw (number, wiped, late_works late works after) (ap (with_works (map zeroed works)) wrote)

-- a table that is refused, whatever other tests there are
pub table_one : (w b : List ℕ) (tests : List Test) (result : List ℕ) (works : List (List ℕ)) (out : List ℕ) (r : Written) (number : ℕ)
    → number ≡ table_refusal w b → number ≢ 0 → r ≡ refusal number → left_one r works out ≡ one_output (or_else (table_refusal w b) (first_of tests)) result works out
table_one w b tests result works out r number checked some is =
    let bad : table_refusal w b ≢ 0 = λ z. some (checked ∙ z) in
    early_one result out works r number _ is (table_stops w b (first_of tests) bad ∙ sym checked) some (rw checked (table_early w b bad))

-- ---- two outputs

module _ (result₁ result₂ : List ℕ) (out₁ out₂ : List ℕ) where
  pub early_two : (works : List (List ℕ)) (r : WrittenTwo) (k n : ℕ) → r ≡ refusal_two k → n ≡ k → k ≢ 0 → is_early k ≡ true
      → left_two r works out₁ out₂ ≡ two_outputs n result₁ result₂ works out₁ out₂
  early_two works r k n is number some early = rw (is, number) (sym (two_early k result₁ result₂ works out₁ out₂ some early))

  pub refused_two : (r : WrittenTwo) (k n : ℕ) (out₁' out₂' : List ℕ) → r ≡ refusal_two k → n ≡ k → k ≢ 0 → out₁' ≡ out₁ → out₂' ≡ out₂
      → left_two r [] out₁' out₂' ≡ two_outputs n result₁ result₂ [] out₁ out₂
  unfolding two_outputs length_after out_after
  refused_two r k n out₁' out₂' is number some same₁ same₂ = rw (is, number, eqb_no k 0 some, same₁, same₂)

  pub done_two : (r : WrittenTwo) (len₁ len₂ n : ℕ) (out₁' out₂' : List ℕ) → r ≡ success_two len₁ len₂ → n ≡ 0
      → len₁ ≡ length result₁ → len₂ ≡ length result₂ → out₁' ≡ over result₁ out₁ → out₂' ≡ over result₂ out₂
      → left_two r [] out₁' out₂' ≡ two_outputs n result₁ result₂ [] out₁ out₂
  unfolding two_outputs length_after out_after
  done_two r len₁ len₂ n out₁' out₂' is number long₁ long₂ wrote₁ wrote₂ = rw (is, number, long₁, long₂, wrote₁, wrote₂)

  pub wiped_two : (works works' : List (List ℕ)) (r : WrittenTwo) (n late : ℕ) (out₁' out₂' : List ℕ)
      → left_two r [] out₁' out₂' ≡ two_outputs late result₁ result₂ [] out₁ out₂ → n ≡ late → is_early late ≡ false → works' ≡ map zeroed works
      → left_two r works' out₁' out₂' ≡ two_outputs n result₁ result₂ works out₁ out₂
  unfolding two_outputs
  wiped_two works works' r n late out₁' out₂' wrote number after wiped =
      rw (number, wiped, late_works late works after) (ap (with_works (map zeroed works)) wrote)

pub table_two : (w b : List ℕ) (tests : List Test) (result₁ result₂ : List ℕ) (works : List (List ℕ)) (out₁ out₂ : List ℕ) (r : WrittenTwo) (number : ℕ)
    → number ≡ table_refusal w b → number ≢ 0 → r ≡ refusal_two number
    → left_two r works out₁ out₂ ≡ two_outputs (or_else (table_refusal w b) (first_of tests)) result₁ result₂ works out₁ out₂
table_two w b tests result₁ result₂ works out₁ out₂ r number checked some is =
    let bad : table_refusal w b ≢ 0 = λ z. some (checked ∙ z) in
    early_two result₁ result₂ out₁ out₂ works r number _ is (table_stops w b (first_of tests) bad ∙ sym checked) some (rw checked (table_early w b bad))
