-- `same` leaves at the first difference. Invariant: what is still to come is equal just where the whole is.
-- Slices of other lengths are not equal. Assumes nothing.
use mathlib.Core.Path.{◌≡◌}
use lib.ListN.{drop}
use lib.Pointwise.{pointwise}
use Rattle.slices.proofs.same.same.Given as goal

abbrev pub invariant-loop-i : goal.invariant-loop-i
invariant-loop-i g l = pointwise g.T.PartialEq.eq (drop l.i l.one) (drop l.i l.other) ≡ pointwise g.T.PartialEq.eq l.one l.other
