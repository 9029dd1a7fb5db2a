-- `fill` meets its contract. The invariant: the rows for none of the first i items to all of them hold the totals.
-- A turn adds the row of one item more (`totals_more`).
use native.Mathlib.Omega.{arith}
use Rattle.choice.proofs.Rows.{totals_none, totals_low, totals_more, row_more}
use Rattle.choice.proofs.totals.fill.Goals as goal

pub loop-i-init : goal.loop-i-init
loop-i-init c = totals_none _ _ _ _ c.first_row.ensures

pub next_row-requires-clause-width_bound : goal.next_row-requires-clause-width_bound
next_row-requires-clause-width_bound c = (omega arith, totals_low _ c.loop-i.i _ _ _ (omega arith) (row_more c.args.width c.loop-i.i) c.loop-i.invariant)

pub loop-i-preserved : goal.loop-i-preserved
loop-i-preserved c = totals_more _ c.loop-i.i _ _ _ _ (row_more c.args.width c.loop-i.i) c.loop-i.invariant c.next_row.ensures
