-- The invariant `Listing`: some steps stand at the front of the output, and the stack has the rest to come.
-- A turn takes the next step; when none is left the output holds all.
use mathlib.Core.Path.{◌≡◌}
use Prim.Native.Nat.{◌-◌}
use lib.ListN.{length}
use Rattle.defs.specs.Steps.{flat}
use Rattle.walk.specs.Normal.{left}
use Rattle.lists.proofs.ListLaws.{Listing}
use Rattle.lists.proofs.normal.write_normal.Given as goal

-- all the steps are those to come where the loop begins
abbrev pub invariant-loop-taken : goal.invariant-loop-taken
invariant-loop-taken l =
    Listing l.entries l.children l.explicit (left l.entries l.children l.explicit l.initial.stack l.initial.depth) l.stack l.depth l.at l.initial.out l.out
    × ((length l.stack ≡ length l.initial.stack) × (length l.out ≡ length l.initial.out))

abbrev pub decreases-loop-taken : goal.decreases-loop-taken
decreases-loop-taken l = length (flat (left l.entries l.children l.explicit l.initial.stack l.initial.depth)) - l.at
