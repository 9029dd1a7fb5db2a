-- `name_marks` meets its contract. The marks so far have their names, and the numbers not tried yet are free just where the slice holds 0.
-- The numbers with a place cannot run out before the marks, since no name is more than s past its mark.
use Prim.Native.Nat.{◌≤◌}
use lib.ListN.{length}
use Rattle.names.specs.Taken.{statements_in}
use Rattle.names.proofs.MarkLaws.{Naming}
use Rattle.names.proofs.marks.name_marks.Given as goal

abbrev pub invariant-loop-number : goal.invariant-loop-number
invariant-loop-number l = (l.mark ≤ l.count) × Naming l.statements l.labels (statements_in l.statements) (length l.initial.names) l.mark l.number l.names
