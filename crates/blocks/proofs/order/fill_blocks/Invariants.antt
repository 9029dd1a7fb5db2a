-- `fill_blocks` meets its contract. The invariant `Cutting`: what is still to be filled, filled, is the whole.
-- A label makes the block in hand grow (`cut_grows`) or closes it (`cut_closes`).
use Prim.Native.Nat.{◌+◌}
use lib.ListN.{length, get_or, take, drop}
use Rattle.blocks.specs.Emission.{filled_from}
use Rattle.blocks.proofs.Emission.{Cutting}
use Rattle.blocks.proofs.order.fill_blocks.Given as goal

abbrev pub invariant-loop-label : goal.invariant-loop-label
invariant-loop-label l =
    Cutting l.n l.width l.floatings (filled_from (λ j. get_or (take l.n l.initial.work) j 0) l.width l.floatings (drop (l.n + l.n) l.initial.work))
    l.start l.label l.position l.counter.i l.counter.level (length l.sums) l.work
