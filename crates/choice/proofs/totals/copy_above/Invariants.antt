-- `copy_above` meets its contract. The invariant is the contract at the counter.
-- The cell above lies before the cells that the loop writes, so it is as it was at entry.
use Rattle.choice.specs.Rows.{Written, above}
use Rattle.choice.proofs.totals.copy_above.Given as goal

abbrev pub invariant-loop-at : goal.invariant-loop-at
invariant-loop-at l = Written (above l.initial.sums l.width) l.from l.at l.initial.sums l.sums
