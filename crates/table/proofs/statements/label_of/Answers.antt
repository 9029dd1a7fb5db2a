-- `table::label_of`: what lies between where the record says that the list starts and where it ends is the list.
-- Assumes nothing.
use native.Mathlib.Omega.{arith}
use Rattle.defs.specs.Table.{label_in}
use Rattle.table.proofs.Lemmas.{between}
use Rattle.table.proofs.statements.label_of.Goals as goal

pub returns : goal.returns
unfolding label_in
returns c = between _ _ _ _ _ c.label_start-start.ensures (omega arith)
