-- `counts::hand_down` meets its contract. The invariant: lowering the children still to come gives what lowering all of them gave at the start.
-- There are as many distances as at the start, and children lie below their parents. Assumes nothing.
use mathlib.Core.Path.{sym, ap, ◌∙◌}
use mathlib.Core.List.{List}
use Prim.Native.Nat.{ℕ, ◌<◌}
use native.Mathlib.Omega.{arith}
use lib.ListN.{length, get_or, length-set}
use Rattle.defs.specs.Counts.{lower}
use Rattle.defs.specs.Graph.{graph_in}
use Rattle.counts.proofs.DistanceLaws.{lower_next, lower_done}
use Rattle.counts.specs.Children.{kid_below}
use Rattle.counts.proofs.distances.hand_down.Goals.{At-loop-c}
use Rattle.counts.proofs.distances.hand_down.Goals as goal

-- each child has its place in the distances
named : (c : At-loop-c) → c.loop-c.c-index < length c.children_of-kids.result.now → get_or c.children_of-kids.result.now c.loop-c.c-index 0 < length c.loop-c.out
named c l =
    let kids = c.children_of-kids.ensures in
    let below = rw (← kids) at (kid_below c.args.entries.now c.args.children.now _ c.requires.entries_ok c.args.e.0 c.loop-c.c-index c.requires.e_in_bounds (rw kids at l)) in
    omega (arith, below, c.requires.e_in_bounds, c.loop-c.invariant.long)

pub bounds-out-at : goal.bounds-out-at
bounds-out-at c = named (goal.at.bounds-out-at c).At-loop-c c.loop-c-test.true

pub bounds-out-at-in-loop-c : goal.bounds-out-at-in-loop-c
bounds-out-at-in-loop-c c = named (goal.at.bounds-out-at-in-loop-c c).At-loop-c c.loop-c-test.true

pub loop-c-preserved : goal.loop-c-preserved
loop-c-preserved c =
    let p = c.loop-c in
    let kids = c.children_of-kids.result.now in
    let there = named (goal.at.loop-c-preserved c).At-loop-c c.loop-c-test.true in
    record {
      long = length-set p.out (get_or kids p.c-index 0) c.min.result ∙ p.invariant.long;
      left = rw c.min.ensures (lower_next c.args.d p.c-index kids p.out c.loop-c-test.true there) ∙ p.invariant.left;
    }

pub returns : goal.returns
unfolding graph_in
returns c =
    sym (lower_done c.args.d c.loop-c.c-index c.children_of-kids.result.now c.loop-c.out c.loop-c-test.false)
    ∙ c.loop-c.invariant.left
    ∙ ap (λ (l : List ℕ). lower c.args.d l c.args.out.now) c.children_of-kids.ensures
