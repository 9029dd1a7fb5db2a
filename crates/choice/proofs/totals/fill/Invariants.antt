-- `fill` meets its contract. The invariant: the rows for none of the first i items to all of them hold the totals.
-- A turn adds the row of one item more (`totals_more`).
use Rattle.choice.specs.Rows.{cost_at, Totals}
use Rattle.choice.proofs.totals.fill.Given as goal

abbrev pub invariant-loop-i : goal.invariant-loop-i
invariant-loop-i l = Totals (cost_at l.costs l.block) l.i l.width l.sums
