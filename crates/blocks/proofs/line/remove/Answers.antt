-- `remove` meets its contract. The invariant `Moved`: the members passed that stay stand at the front, the others where they were.
-- A turn moves one member by the number of places behind (`moved_more`).
use mathlib.Core.Path.{◌≡◌}
use native.Mathlib.Omega.{arith}
use lib.ListN.{length}
use Rattle.blocks.proofs.Removing.{moved_none, moved_more, moved_all}
use Rattle.blocks.proofs.line.remove.Goals as goal

pub loop-p-init : goal.loop-p-init
loop-p-init c = moved_none _ _

pub loop-p-preserved : goal.loop-p-preserved
loop-p-preserved c =
    let q = c.loop-p in
    moved_more c.args.block.now c.args.places.now q.gone q.p q.block c.requires.once c.requires.all.0 c.requires.all.1 q.invariant (omega (arith, q.invariant.long)) _ c.pass-gone.ensures

pub returns : goal.returns
returns c =
    let q = c.loop-p in
    let last : q.p ≡ length q.block = omega arith in
    rw last at (moved_all _ _ q.gone q.p q.block c.requires.all.0 q.invariant (omega (arith, q.invariant.long, q.invariant.within)))
