-- `start_at` meets its contract. The invariant: to start from i at this cutoff is to start from the floating count at the first.
-- The last cutoff is more than there can be floatings, so the table's end is not passed.
use native.Mathlib.Omega.{arith}
use Rattle.blocks.proofs.Counts.{five, count_start, count_more, counted}
use Rattle.blocks.proofs.cutoffs.start_at.Goals as goal

pub loop-i-init : goal.loop-i-init
loop-i-init c = count_start _

pub overflow_add-level : goal.overflow_add-level
overflow_add-level c = omega (arith, five, c.loop-i.invariant.in_table)

pub loop-i-preserved : goal.loop-i-preserved
loop-i-preserved c = rw c.cutoff_at-i.ensures (count_more _ _ _ c.requires c.loop-i.invariant (omega (arith, c.cutoff_at.ensures)))

pub returns : goal.returns
returns c = counted _ _ _ c.loop-i.invariant (omega (arith, c.cutoff_at.ensures))
