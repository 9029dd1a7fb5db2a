-- The invariant: what is left to come is as it was at the start. The measure: the entry on top, which falls with each push.
-- A turn pushes the next child (`push`), a return takes the step of the top pair (`popped`).
use mathlib.Core.Path.{◌≡◌}
use Prim.Native.Nat.{◌+◌, ◌<◌}
use lib.ListN.{length}
use Rattle.walk.specs.Entries.{size}
use Rattle.walk.specs.Normal.{entry_on, Stacked, left}
use Rattle.walk.proofs.normal.next.Given as goal

abbrev pub invariant-loop-e : goal.invariant-loop-e
invariant-loop-e l =
    (left l.entries l.children l.explicit l.stack (l.top + 1) ≡ left l.entries l.children l.explicit l.initial.stack l.depth)
    × (Stacked l.entries l.stack (l.top + 1) × ((length l.stack ≡ length l.initial.stack) × (entry_on l.stack l.top + l.top < size l.entries)))

abbrev pub decreases-loop-e : goal.decreases-loop-e
decreases-loop-e l = entry_on l.stack l.top
