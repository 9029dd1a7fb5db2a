-- `fill_block` meets its contract. The invariant `Going`: the block, finished from here on, is the block filled whole.
-- The measure is the number of turns that suffice: a line that takes nothing is followed by an empty one.
use mathlib.Core.Path.{◌≡◌}
use Prim.Native.Nat.{◌-◌}
use lib.ListN.{length}
use Rattle.blocks.specs.State.{state}
use Rattle.blocks.proofs.Blocks.{Going}
use Rattle.blocks.proofs.Turns.{turns_left, finished}
use Rattle.blocks.proofs.block.fill_block.Given as goal

abbrev pub invariant-loop-line : goal.invariant-loop-line
invariant-loop-line l =
    Going l.n l.width l.start l.end l.initial.work (finished l.width (state l.n l.start l.initial.work l.position (l.start - l.n) (l.end - l.start)))
    l.line.position l.line.at l.line.count (length l.sums) l.work
    × ((length l.work ≡ length l.initial.work) × (length l.sums ≡ length l.initial.sums))

abbrev pub decreases-loop-line : goal.decreases-loop-line
decreases-loop-line l = turns_left l.line.position l.line.count
