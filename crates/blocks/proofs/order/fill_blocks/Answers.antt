-- `fill_blocks` meets its contract. The invariant `Cutting`: what is still to be filled, filled, is the whole.
-- A label makes the block in hand grow (`cut_grows`) or closes it (`cut_closes`).
use mathlib.Core.Path.{◌≡◌, sym, ◌∙◌}
use native.Mathlib.Omega.{arith}
use lib.ListN.{length}
use Rattle.blocks.proofs.Emission.{cut_start, cut_grows, cut_closes, cut_done, block_ready}
use Rattle.blocks.proofs.Counts.{five}
use Rattle.blocks.proofs.order.fill_blocks.Goals.{then-counter-cutoff_at, else-counter-cutoff_at}
use Rattle.blocks.proofs.order.fill_blocks.Goals as goal

pub loop-label-init : goal.loop-label-init
loop-label-init c = cut_start _ _ _ _ _ _ _ c.requires.0 c.requires.1 c.start_at-counter.ensures

pub fill_block-position-requires : goal.fill_block-position-requires
fill_block-position-requires c = block_ready _ _ _ _ _ _ _ _ _ _ _ c.loop-label.invariant

pub overflow_add-counter : goal.overflow_add-counter
overflow_add-counter c = omega (arith, five, c.loop-label.invariant.in_table)

pub loop-label-preserved : goal.loop-label-preserved
loop-label-preserved c =
    let p = c.loop-label in
    elim c.if-counter-cutoff_at.branch [
      | then-counter-cutoff_at w ↦
          rw (w.work-is, w.sums-is, w.counter-is, w.position-is, w.start-is, w.fill_block-position.auto.sums)
          (cut_closes _ _ _ _ _ _ _ _ _ _ _ p.invariant _ _ w.fill_block-position.auto.work w.fill_block-position.ensures (omega (arith, p.invariant.fitting.whole, p.auto.work))
          (w.if-counter-cutoff_at.true ∙ c.cutoff_at.ensures))
      | else-counter-cutoff_at w ↦
          rw (w.work-is, w.sums-is, w.counter-is, w.position-is, w.start-is)
          (cut_grows _ _ _ _ _ _ _ _ _ _ _ p.invariant (omega (arith, p.invariant.fitting.whole, p.auto.work)) (λ e. w.if-counter-cutoff_at.false (e ∙ sym c.cutoff_at.ensures)))
    ]

pub returns : goal.returns
returns c =
    let p = c.loop-label in
    let last : c.loop-label.label ≡ length c.args.work.now = omega arith in
    cut_done _ _ _ _ _ _ _ _ _ _ _ (rw last at p.invariant) _ _ c.fill_block.auto.work c.fill_block.ensures (omega (arith, p.invariant.fitting.whole, p.auto.work))
