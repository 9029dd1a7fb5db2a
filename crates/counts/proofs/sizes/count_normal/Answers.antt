-- `counts::count_normal` meets its contract. The invariant: the entries passed have their counts, the rest of the slice is as it was.
-- Children lie below their parents, so their counts are known when the parent's turn comes. Assumes nothing.
use mathlib.Core.Path.{refl, ◌∙◌}
use native.Mathlib.Omega.{arith}
use lib.ListN.{length-set}
use Rattle.counts.proofs.SizeLaws.{sizes_none, sizes_next, sizes_known, sizes_done}
use Rattle.counts.proofs.sizes.count_normal.Goals as goal

pub loop-e-init : goal.loop-e-init
loop-e-init c = (omega arith, (refl, sizes_none _ _))

pub size_of-size-requires : goal.size_of-size-requires
size_of-size-requires c =
    let p = c.loop-e in
    record { n = c.args.n; ok = c.requires.entries_ok; there = c.loop-e-test.true; room = omega (arith, c.requires.n_in_bounds); known = sizes_known _ p.e _ p.sizes p.invariant.1.1 }

pub loop-e-preserved : goal.loop-e-preserved
loop-e-preserved c =
    let p = c.loop-e in (
      omega arith,
      (length-set p.sizes p.e c.size_of-size.result ∙ p.invariant.1.0, sizes_next _ p.e _ _ _ (omega arith) p.invariant.1.1 c.size_of-size.ensures),
    )
