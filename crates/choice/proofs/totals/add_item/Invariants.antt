-- `add_item` meets its contract. The invariant is the contract at the counter.
-- Both cells read lie before the cells that the loop writes; cells and cost are small, so their sum fits.
use Rattle.choice.specs.Rows.{Written, greater}
use Rattle.choice.proofs.totals.add_item.Given as goal

abbrev pub invariant-loop-at : goal.invariant-loop-at
invariant-loop-at l = Written (greater l.initial.sums l.width l.cost) l.from l.at l.initial.sums l.sums
