-- `cutoff_at` meets its contract: the constant table is `cutoffs`.
-- There are five cutoffs.
use mathlib.Core.Path.{refl}
use native.Mathlib.Omega.{arith}
use Rattle.defs.specs.Order.{cutoffs}
use Rattle.blocks.proofs.Counts.{five}
use Rattle.blocks.proofs.cutoffs.cutoff_at.Goals as goal

pub offset_bounds-level : goal.offset_bounds-level
offset_bounds-level c = omega (arith, five)

pub bounds-level : goal.bounds-level
bounds-level c = omega (arith, five)

pub returns : goal.returns
unfolding cutoffs
returns c = refl
