-- `put_before` meets its contract. The last letters of v stand from `at` on, and the leading letters of q are still to come.
-- The measure is q.
use mathlib.Core.Path.{◌≡◌}
use lib.ListN.{length}
use Rattle.letters.proofs.Turns.{Begun}
use Rattle.letters.proofs.code.put_before.Given as goal

abbrev pub invariant-loop-q : goal.invariant-loop-q
invariant-loop-q l = (length l.out ≡ length l.initial.out) × Begun l.v l.q l.at l.end l.initial.out l.out

abbrev pub decreases-loop-q : goal.decreases-loop-q
decreases-loop-q l = l.q
