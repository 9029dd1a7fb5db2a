-- `put_members` meets its contract. The invariant: the members at the first places, `done` of them, are put from `at` on.
-- The block lies behind all of them, so its members are read as they were.
use Prim.Native.Nat.{◌+◌}
use lib.ListN.{take, drop}
use Rattle.laws.specs.Puts.{Placed}
use Rattle.blocks.specs.Line.{members_at}
use Rattle.blocks.proofs.line.put_members.Given as goal

abbrev pub invariant-loop-done : goal.invariant-loop-done
invariant-loop-done l = Placed (members_at (drop l.start l.initial.work) (take l.done l.places)) l.at (l.at + l.done) l.initial.work l.work
