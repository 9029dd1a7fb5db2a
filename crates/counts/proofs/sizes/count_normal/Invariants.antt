-- `counts::count_normal` meets its contract. The invariant: the entries passed have their counts, the rest of the slice is as it was.
-- Children lie below their parents, so their counts are known when the parent's turn comes. Assumes nothing.
use mathlib.Core.Path.{◌≡◌}
use mathlib.Core.List.{◌++◌}
use Prim.Native.Nat.{◌≤◌}
use lib.ListN.{length, drop}
use Rattle.defs.specs.Graph.{graph_in}
use Rattle.counts.specs.Sizes.{capped_sizes}
use Rattle.counts.proofs.sizes.count_normal.Given as goal

abbrev pub invariant-loop-e : goal.invariant-loop-e
invariant-loop-e l = (l.e ≤ l.n) × ((length l.sizes ≡ length l.initial.sizes) × (l.sizes ≡ capped_sizes (graph_in l.entries l.children) l.e ++ drop l.e l.initial.sizes))
