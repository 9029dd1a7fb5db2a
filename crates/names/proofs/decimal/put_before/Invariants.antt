-- `put_before` meets its contract. The last digits of v stand from `at` on, and the digits of q are still to come.
-- The measure is q.
use mathlib.Core.Path.{◌≡◌}
use lib.ListN.{length}
use Rattle.names.proofs.Turns.{Begun}
use Rattle.names.proofs.decimal.put_before.Given as goal

abbrev pub invariant-loop-q : goal.invariant-loop-q
invariant-loop-q l = (length l.out ≡ length l.initial.out) × Begun l.v l.q l.at l.end l.initial.out l.out

abbrev pub decreases-loop-q : goal.decreases-loop-q
decreases-loop-q l = l.q
