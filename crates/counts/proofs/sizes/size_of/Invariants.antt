-- `counts::size_of` meets its contract. The invariant: the sum so far with the children still to come, capped, is the sum over all children, capped.
-- Both summands are at most the cap, so the sum does not wrap. Assumes nothing.
use mathlib.Core.Path.{◌≡◌}
use Prim.Native.Nat.{◌+◌, ◌≤◌, min}
use lib.ListN.{drop}
use Rattle.laws.specs.Sums.{tot}
use Rattle.defs.specs.Steps.{normal_count}
use Rattle.defs.specs.Graph.{graph_in}
use Rattle.counts.specs.Sizes.{size_cap}
use Rattle.counts.proofs.sizes.size_of.Given as goal

abbrev pub invariant-loop-c : goal.invariant-loop-c
invariant-loop-c l =
    record {
      most : l.size ≤ size_cap;
      left : min size_cap (l.size + tot (normal_count (graph_in l.entries l.children)) (drop l.c-index l.kids)) ≡ min size_cap (1 + tot (normal_count (graph_in l.entries l.children)) l.kids);
    }
