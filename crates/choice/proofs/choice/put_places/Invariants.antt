-- `put_places` meets its contract. The invariant `Walked`: what is chosen of the items below i, before the places that stand, is the choice.
-- A turn leaves its item out (`leave`) or puts its place in front (`put`).
use lib.ListN.{length}
use Rattle.choice.specs.Rows.{cost_at}
use Rattle.choice.proofs.Walk.{Walked}
use Rattle.choice.proofs.choice.put_places.Given as goal

abbrev pub invariant-loop-i : goal.invariant-loop-i
invariant-loop-i l = Walked (cost_at l.costs l.block) (length l.block) l.room l.i l.left l.start l.sums
