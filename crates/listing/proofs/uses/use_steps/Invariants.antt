-- `use_steps` meets its contract. The invariant: the first i steps are used.
-- A turn is one step more, and the steps themselves stand apart from what it writes. Assumes nothing.
use Rattle.listing.proofs.Turns.{UpTo}
use Rattle.listing.proofs.uses.use_steps.Given as goal

abbrev pub invariant-loop-i : goal.invariant-loop-i
invariant-loop-i l = UpTo l.steps l.many l.s l.from l.i l.listed l.initial.work l.work
