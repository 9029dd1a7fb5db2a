-- `fill_block` meets its contract. The invariant `Going`: the block, finished from here on, is the block filled whole.
-- The measure is the number of turns that suffice: a line that takes nothing is followed by an empty one.
use mathlib.Core.Path.{refl, ◌∙◌}
use Prim.Native.Nat.{◌-◌}
use native.Mathlib.Omega.{arith}
use borrow.Rule.Slice.PartMut.{same_len_mid}
use lib.ListN.{length}
use Rattle.blocks.proofs.Blocks.{going_less, going_next, sorted_later, sorted_going, sorted_finished, block_done}
use Rattle.blocks.proofs.block.fill_block.Goals as goal

pub loop-line-init : goal.loop-line-init
loop-line-init c =
    let a = c.args in
    let sorted = c.sort_by_index in (
      sorted_going a.n a.width a.start a.end a.position (length a.sums.now) a.work.now sorted.new.block c.requires sorted.ensures
          (same_len_mid a.start (a.end - a.start) a.work.now sorted.new.block sorted.auto.block),
      (refl, refl),
    )

pub loop-line-smaller : goal.loop-line-smaller
loop-line-smaller c =
    let p = c.loop-line in
    going_less _ _ _ _ _ _ _ _ _ _ _ p.invariant.0 c.loop-line-test.true _ _ _ _ c.fill_line-line.auto.work c.fill_line-line.ensures

pub loop-line-preserved : goal.loop-line-preserved
loop-line-preserved c =
    let p = c.loop-line in
    let f = c.fill_line-line in (
      rw f.auto.sums (going_next _ _ _ _ _ _ _ _ _ _ _ p.invariant.0 c.loop-line-test.true _ _ _ _ f.auto.work f.ensures),
      (f.auto.work ∙ p.invariant.1.0, f.auto.sums ∙ p.invariant.1.1),
    )

pub returns : goal.returns
returns c =
    let p = c.loop-line in
    let sorted = c.sort_by_index.ensures in
    block_done _ _ _ _ _ _ _ _ _ _ _ _ _ p.invariant.0 (omega arith) (sorted_finished _ _ _ _ _ _ _ _ c.requires sorted) (sorted_later _ _ _ _ _ _ _ _ c.requires sorted)
