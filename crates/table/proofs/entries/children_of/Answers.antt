-- `table::children_of`: what lies between where the record says that the list starts and where it ends is the list.
-- Assumes nothing.
use native.Mathlib.Omega.{arith}
use Rattle.defs.specs.Table.{children_in}
use Rattle.table.proofs.Lemmas.{between}
use Rattle.table.proofs.entries.children_of.Goals as goal

pub returns : goal.returns
unfolding children_in
returns c = between _ _ _ _ _ c.child_start-start.ensures (omega arith)
