-- `label_repeated` searches pairs. Invariants: the label of k is none of those below j, no statement below k has an earlier label, and the
-- labels below k fell into their buckets. A hit decides; what is not compared is unlike. Assumes nothing.
use Prim.Native.Nat.{ℕ, ◌<◌}
use mathlib.Core.List.{List}
use mathlib.Core.Path.{◌≡◌, sym, ap, ◌∙◌}
use native.Mathlib.Omega.{arith}
use borrow.Author.Count.{below_more}
use Rattle.laws.specs.Below.{some_below_none, some_below_holds}
use Rattle.laws.specs.Tools.{same}
use Rattle.defs.specs.Check.{label_again}
use Rattle.defs.specs.Table.{label_in}
use Rattle.label_check.specs.Buckets.{buckets, fall_of}
use Rattle.label_check.proofs.BucketLaws.{fallen_next, skipped, bucket_below}
use Rattle.label_check.proofs.repeats.label_repeated.Goals.{After-fall_of-fall, After-has_label}
use Rattle.label_check.proofs.repeats.label_repeated.Goals as goal

-- the place where the label of an outer turn fell, and the labels seen from there
abbrev Place : Type 0
Place = After-fall_of-fall

abbrev L : Place → ℕ → List ℕ
L p = label_in p.args.statements.now p.args.labels.now

-- the label that was cut is that of the statement, so it fell as that does
fell : (p : Place) → p.fall_of-fall.result ≡ fall_of (L p p.search.k)
fell p = p.fall_of-fall.ensures ∙ ap fall_of p.label_of-label.ensures

inside : (p : Place) → p.fall_of-fall.result.bucket < buckets
inside p = rw (fell p) (bucket_below _)

-- what the pair's comparison says, with the label that was cut once for the outer turn
seen : (c : After-has_label) → c.has_label.result ≡ same (label_in c.args.statements.now c.args.labels.now c.loop-j.j) (label_in c.args.statements.now c.args.labels.now c.search.k)
seen c = c.has_label.ensures ∙ ap (same _) c.label_of-label.ensures

pub bounds-marks-bucket : goal.bounds-marks-bucket
bounds-marks-bucket c = inside c

pub loop-j-init : goal.loop-j-init
loop-j-init c =
    (c.search.invariant.0, (skipped (L (goal.at.loop-j-init c).After-fall_of-fall) _ _ c.search.invariant.2 _ (fell (goal.at.loop-j-init c).After-fall_of-fall) _ c.first_compared-j.ensures).1)

pub bounds-marks-bucket-in-search : goal.bounds-marks-bucket-in-search
bounds-marks-bucket-in-search c = inside (goal.at.bounds-marks-bucket-in-search c).After-fall_of-fall

pub search-preserved : goal.search-preserved
unfolding label_again
search-preserved c =
    let p = (goal.at.search-preserved c).After-fall_of-fall in
    let s = skipped (L p) _ _ c.search.invariant.2 _ (fell p) _ c.first_compared-j.ensures in
    let end : c.loop-j.j ≡ c.search.k = omega (arith, s.0) in
    (c.loop-j.invariant.0, below_more _ _ c.search.invariant.1 (some_below_none _ _ (rw end at c.loop-j.invariant.1)), fallen_next (L p) _ _ c.search.invariant.2 _ (fell p) _ c.mark_after.ensures)

pub returns-after-search : goal.returns-after-search
returns-after-search c =
    let end : c.search.k ≡ c.args.count = omega arith in
    c.search.invariant.0 ∙ sym (some_below_none _ _ (rw end at c.search.invariant.1))

pub returns-then-has_label : goal.returns-then-has_label
unfolding label_again
returns-then-has_label c =
    sym (some_below_holds _ c.search.k _ (omega arith) (some_below_holds _ c.loop-j.j _ (omega arith) (sym (seen (goal.at.returns-then-has_label c).After-has_label) ∙ c.if-has_label.true)))
