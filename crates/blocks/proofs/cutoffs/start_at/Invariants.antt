-- `start_at` meets its contract. The invariant: to start from i at this cutoff is to start from the floating count at the first.
-- The last cutoff is more than there can be floatings, so the table's end is not passed.
use Prim.Native.Nat.{◌-◌}
use lib.ListN.{length}
use Rattle.defs.specs.Order.{cutoffs}
use Rattle.blocks.proofs.Counts.{Counting}
use Rattle.blocks.proofs.cutoffs.start_at.Given as goal

abbrev pub invariant-loop-i : goal.invariant-loop-i
invariant-loop-i l = Counting l.floatings l.i l.level

abbrev pub decreases-loop-i : goal.decreases-loop-i
decreases-loop-i l = length cutoffs - l.level
