-- `plain_children` and `plain_grandchildren` meet their contract, which is the same: whatever walk the words held, they hold it after the children.
-- The measure is the entry's number, which is less at each child. What their loops keep, and that a turn keeps it, is said once, in TurnLaws.
use mathlib.Core.Bool.{false}
use Rattle.walk.specs.Packed.{held}
use Rattle.packing.proofs.TurnLaws.{Kept}
use Rattle.packing.proofs.plain.+plain.Given as goal

abbrev pub decreases-plain_children : goal.decreases-plain_children
decreases-plain_children l = l.e.0

abbrev pub decreases-plain_grandchildren : goal.decreases-plain_grandchildren
decreases-plain_grandchildren l = l.e.0

abbrev pub invariant-plain_children-loop-i : goal.invariant-plain_children-loop-i
invariant-plain_children-loop-i l = Kept l.words.now false (held l.initial.work l.start) l.initial.i l.i-end 0 (held l.work l.end) l.i 0

abbrev pub invariant-plain_grandchildren-loop-i : goal.invariant-plain_grandchildren-loop-i
invariant-plain_grandchildren-loop-i l = Kept l.words.now false (held l.initial.work l.start) l.initial.i l.i-end 0 (held l.work l.end) l.i 0
