-- `explicit_children` and `explicit_grandchildren` meet their contract, which is the same: whatever walk the words held, they hold it after the children.
-- The measure is the entry's number, which is less at each child. What their loops keep, and that a turn keeps it, is said once, in TurnLaws.
use mathlib.Core.Bool.{true}
use Prim.Native.Nat.{◌-◌}
use Rattle.walk.specs.Packed.{held}
use Rattle.packing.proofs.TurnLaws.{Kept}
use Rattle.packing.proofs.explicit.+explicit.Given as goal

abbrev pub decreases-explicit_children : goal.decreases-explicit_children
decreases-explicit_children l = l.e.0

abbrev pub decreases-explicit_grandchildren : goal.decreases-explicit_grandchildren
decreases-explicit_grandchildren l = l.e.0

abbrev pub invariant-explicit_children-loop-i : goal.invariant-explicit_children-loop-i
invariant-explicit_children-loop-i l = Kept l.words.now true (held l.initial.work l.start) l.own.first l.own.until l.own.parent (held l.work l.end) l.i (l.i - l.own.first)

abbrev pub invariant-explicit_grandchildren-loop-i : goal.invariant-explicit_grandchildren-loop-i
invariant-explicit_grandchildren-loop-i l = Kept l.words.now true (held l.initial.work l.start) l.own.first l.own.until l.own.parent (held l.work l.end) l.i (l.i - l.own.first)
