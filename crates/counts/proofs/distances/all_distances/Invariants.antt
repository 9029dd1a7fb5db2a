-- `counts::all_distances` meets its contract. The invariant: the pass over the entries still to come gives what the whole pass gave at the start.
-- An entry that is not reached would lower nothing, so the code skips it. Assumes nothing.
use mathlib.Core.Path.{◌≡◌}
use Prim.Native.Nat.{◌≤◌}
use lib.ListN.{length}
use Rattle.defs.specs.Counts.{descend}
use Rattle.defs.specs.Graph.{graph_in}
use Rattle.counts.proofs.distances.all_distances.Given as goal

abbrev pub invariant-loop-e : goal.invariant-loop-e
invariant-loop-e l = (l.e ≤ length l.out) × ((length l.out ≡ length l.initial.out) × (descend (graph_in l.entries l.children) l.e l.out ≡ descend (graph_in l.entries l.children) l.initial.e l.initial.out))
