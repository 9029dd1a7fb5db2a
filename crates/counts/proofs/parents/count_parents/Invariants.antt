-- `counts::count_parents` meets its contract. The invariant: each count is how often the entry stands among the references passed.
-- A count is at most the references passed, so it does not wrap. Assumes nothing.
use mathlib.Core.Path.{◌≡◌}
use Prim.Native.Nat.{◌≤◌}
use lib.ListN.{length, take}
use Rattle.counts.specs.Parents.{times_each}
use Rattle.counts.proofs.parents.count_parents.Given as goal

abbrev pub invariant-loop-e : goal.invariant-loop-e
invariant-loop-e l = (l.e-index ≤ length l.children) × ((length l.counts ≡ length l.initial.counts) × (l.counts ≡ times_each (take l.e-index l.children) (length l.initial.counts)))
