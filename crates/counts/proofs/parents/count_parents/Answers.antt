-- `counts::count_parents` meets its contract. The invariant: each count is how often the entry stands among the references passed.
-- A count is at most the references passed, so it does not wrap. Assumes nothing.
use mathlib.Core.Path.{sym, ap, ◌∙◌, ◌≡◌, refl}
use mathlib.Core.List.{[], List}
use Prim.Native.Nat.{ℕ, ◌<◌, ◌+◌}
use native.Mathlib.Omega.{arith}
use lib.Seq.{take-length}
use lib.ListN.{get_or, length-set, length}
use Rattle.counts.proofs.ParentLaws.{times_none, times_more, times_few}
use Rattle.counts.specs.Parents.{times_each}
use Rattle.counts.proofs.parents.count_parents.Goals.{At-loop-e}
use Rattle.counts.proofs.parents.count_parents.Goals as goal

-- the entry that a reference names has its place in the counts
named : (c : At-loop-e) → c.loop-e.e-index < length c.args.children.now → get_or c.args.children.now c.loop-e.e-index 0 < length c.loop-e.counts
named c l = omega (arith, c.requires.below c.loop-e.e-index l, c.fill.ensures.len, c.loop-e.invariant.1.0)

pub loop-e-init : goal.loop-e-init
loop-e-init c = (omega arith, (refl, c.fill.ensures.after (λ y e. e) ∙ times_none _ ∙ ap (times_each []) (sym c.fill.ensures.len)))

pub overflow_add-counts : goal.overflow_add-counts
overflow_add-counts c = omega (arith, times_few c.args.children.now _ c.loop-e.e-index _ (get_or c.args.children.now c.loop-e.e-index 0) (omega arith) c.loop-e.invariant.1.1 (omega (arith, named (goal.at.overflow_add-counts c).At-loop-e c.loop-e-test.true)), c.requires.few)

pub loop-e-preserved : goal.loop-e-preserved
loop-e-preserved c =
    let p = c.loop-e in
    let x : ℕ = (get_or c.args.children.now c.loop-e.e-index 0) in (
      omega arith,
      (
        length-set p.counts x (get_or p.counts x 0 + 1) ∙ p.invariant.1.0,
        times_more c.args.children.now _ p.e-index p.counts x (omega arith) p.invariant.1.1 refl (omega (arith, named (goal.at.loop-e-preserved c).At-loop-e c.loop-e-test.true)),
      ),
    )
