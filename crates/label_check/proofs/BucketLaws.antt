-- The mark of a bucket holds the print of each label in it, or says that there are several. A label whose print the mark of its bucket
-- does not hold is therefore unlike every label before it. Assumes nothing.
use Prim.Native.Nat.{ℕ, ◌+◌, ◌≤◌, ◌<◌}
use mathlib.Core.Bool.{false}
use mathlib.Core.List.{List}
use mathlib.Core.Logic.{◌⊎◌, inl, inr, ⊎_elim}
use mathlib.Core.Path.{◌≡◌, refl, sym, ap, ◌∙◌}
use native.Mathlib.Decide.{ℕ_discrete}
use native.Mathlib.Omega.{arith}
use borrow.Author.Count.{below_none, below_more}
use lib.Dec.{eqb}
use lib.ListN.{length, get_or, set, replicate, length-set, length-replicate}
use lib.Seq.{get_or-set_same, get_or-set_other}
use Rattle.laws.specs.Lists.{boole, eqb_yes, eqb_no}
use Rattle.laws.specs.Places.{same_decides}
use Rattle.laws.specs.Tools.{same}
use Rattle.label_check.specs.Buckets.{buckets, fall_of, mixed, mark_after, first_compared}
use Rattle.label_check.specs.declared.buckets.Fall.{Fall}

-- ---- where a label falls

pub bucket_below : (label : List ℕ) → (fall_of label).bucket < buckets
unfolding fall_of
bucket_below label = omega arith

print_some : (label : List ℕ) → 1 ≤ (fall_of label).print
unfolding fall_of
print_some label = omega arith

-- ---- a mark

-- the mark holds the print, or says that there are several
abbrev pub Holds : ℕ → ℕ → Type 0
Holds mark print = (mark ≡ print) ⊎ (mark ≡ mixed)

module _ (mark print : ℕ) where
  mark_empty : mark ≡ 0 → print ≡ mark_after mark print
  unfolding mark_after
  mark_empty e = rw (eqb_yes mark 0 e)

  mark_same : mark ≡ print → print ≡ mark_after mark print
  unfolding mark_after
  mark_same e = boole (eqb mark 0) (λ t. rw t) (λ t. rw (t, eqb_yes mark print e))

  mark_mixed : ¬ (mark ≡ 0) → ¬ (mark ≡ print) → mixed ≡ mark_after mark print
  unfolding mark_after
  mark_mixed e f = rw (eqb_no mark 0 e, eqb_no mark print f)

  all_compared : (k : ℕ) → Holds mark print → 0 ≡ first_compared mark print k
  unfolding first_compared
  all_compared k (inl e) = rw (eqb_yes mark print e)
  all_compared k (inr e) = boole (eqb mark print) (λ t. rw t) (λ t. rw (t, eqb_yes mark mixed e))

  none_compared : (k : ℕ) → ¬ (mark ≡ mixed) → ¬ (mark ≡ print) → k ≡ first_compared mark print k
  unfolding first_compared
  none_compared k e f = rw (eqb_no mark mixed e, eqb_no mark print f)

  -- a mark holds the print that came last, and what it held before
  holds_new : Holds (mark_after mark print) print
  holds_new =
      elim (ℕ_discrete mark print) [
        | yes e ↦ inl (sym (mark_same e))
        | no e ↦ elim (ℕ_discrete mark 0) [
          | yes f ↦ inl (sym (mark_empty f))
          | no f ↦ inr (sym (mark_mixed f e))
        ]
      ]

  holds_old : (old : ℕ) → 1 ≤ old → Holds mark old → Holds (mark_after mark print) old
  holds_old old l h =
      elim (ℕ_discrete mark print) [
        | yes e ↦ ⊎_elim (λ f. inl (sym (mark_same e) ∙ sym e ∙ f)) (λ f. inr (sym (mark_same e) ∙ sym e ∙ f)) h
        | no e ↦ inr (sym (mark_mixed (λ z. ⊎_elim (λ f. omega arith) (λ f. omega arith) h) e))
      ]

-- ---- the marks of all buckets

-- the mark of one bucket is put, and the others stay
put_holds : (marks : List ℕ) (at mark bucket print : ℕ) → at < length marks → (bucket ≡ at → Holds mark print) → (¬ (bucket ≡ at) → Holds (get_or marks bucket 0) print)
    → Holds (get_or (set marks at mark) bucket 0) print
put_holds marks at mark bucket print l here there =
    elim (ℕ_discrete bucket at) [
      | yes e ↦ rw (e, get_or-set_same marks at mark 0 l) (here e)
      | no e ↦ rw (get_or-set_other marks at bucket mark 0 e) (there e)
    ]

-- the labels of the statements before k fell into their buckets
pub record Fallen (label : ℕ → List ℕ) (marks : List ℕ) (k : ℕ) : Type 0 where
  pub all_buckets : length marks ≡ buckets
  pub held : (i : ℕ) → i < k → Holds (get_or marks (fall_of (label i)).bucket 0) (fall_of (label i)).print

pub fallen_none : (label : ℕ → List ℕ) → Fallen label (replicate buckets 0) 0
fallen_none label = record { all_buckets = length-replicate {A = ℕ} buckets 0; held = below_none _ }

module _ (label : ℕ → List ℕ) (marks : List ℕ) (k : ℕ) (fallen : Fallen label marks k) (own : Fall) (is : own ≡ fall_of (label k)) where
  -- a label before k that is equal fell alike, so that the mark holds the print of label k
  unlike : ¬ Holds (get_or marks own.bucket 0) own.print → (i : ℕ) → i < k → same (label i) (label k) ≡ false
  unlike h i l =
      (same_decides (label i) (label k)).no
      (λ e. let f : fall_of (label i) ≡ own = ap fall_of e ∙ sym is in h (rw f at (fallen.held i l)))

  -- what need not be compared is unlike
  pub skipped : (j : ℕ) → j ≡ first_compared (get_or marks own.bucket 0) own.print k → (j ≤ k) × ((i : ℕ) → i < j → same (label i) (label k) ≡ false)
  skipped j e =
      let mark = get_or marks own.bucket 0 in
      elim (ℕ_discrete mark mixed) [
        | yes f ↦ let z : j ≡ 0 = e ∙ sym (all_compared mark own.print k (inr f)) in (omega arith, λ i l. absurd (omega arith))
        | no f ↦ elim (ℕ_discrete mark own.print) [
          | yes g ↦ let z : j ≡ 0 = e ∙ sym (all_compared mark own.print k (inl g)) in (omega arith, λ i l. absurd (omega arith))
          | no g ↦ let z : j ≡ k = e ∙ sym (none_compared mark own.print k f g) in (omega arith, λ i l. unlike (⊎_elim g f) i (omega arith))
        ]
      ]

  -- label k falls into its bucket
  pub fallen_next : (after : ℕ) → after ≡ mark_after (get_or marks own.bucket 0) own.print → Fallen label (set marks own.bucket after) (k + 1)
  fallen_next after e =
      let mark = get_or marks own.bucket 0 in
      let inside : own.bucket < length marks = omega (arith, bucket_below (label k), ap (λ (f : Fall). f.bucket) is, fallen.all_buckets) in
      record {
        all_buckets = length-set marks _ _ ∙ fallen.all_buckets;
        held = below_more (λ i. Holds (get_or (set marks own.bucket after) (fall_of (label i)).bucket 0) (fall_of (label i)).print) k
            (λ i l. put_holds marks own.bucket after _ _ inside
            (λ f. rw e (holds_old mark own.print _ (print_some (label i)) (rw f at (fallen.held i l)))) (λ f. fallen.held i l))
            (rw (← is) (put_holds marks own.bucket after _ _ inside (λ f. rw e (holds_new mark own.print)) (λ f. absurd (f refl))));
      }
