-- `name_statements` meets its contract: after i turns the first i indices have given way to statements (laws of module Weighing).
-- What they name stands before them, and is what it was at first.
use Rattle.labels.proofs.Weighing.{NamedTo}
use Rattle.labels.proofs.order.name_statements.Given as goal

abbrev pub invariant-loop-i : goal.invariant-loop-i
invariant-loop-i l = NamedTo l.at l.order l.many l.i l.initial.work l.work
