-- `normal_text` meets its contract: at each turn the steps already laid and those left in the stack are all of the walk's.
-- Each turn takes the next step and lays its word; where none is left, the last word ends the text.
use mathlib.Core.Path.{◌≡◌}
use lib.ListN.{length}
use Rattle.layout.specs.Layouts.{layout_of}
use Rattle.walk.specs.Normal.{left}
use Rattle.steptexts.proofs.NormalLaws.{Walked}
use Rattle.steptexts.proofs.normal.normal_text.Given as goal

abbrev pub invariant-loop-taken : goal.invariant-loop-taken
invariant-loop-taken l =
    Walked l.statements l.hyps l.labels l.header.theorem.0 l.explicit (layout_of l.layout) l.entries l.children l.initial.line l.line l.initial.out l.out l.initial.stack l.initial.depth l.stack l.depth
    × (length l.stack ≡ length l.initial.stack)

abbrev pub decreases-loop-taken : goal.decreases-loop-taken
decreases-loop-taken l =
    length (left l.entries l.children l.explicit l.stack l.depth)
