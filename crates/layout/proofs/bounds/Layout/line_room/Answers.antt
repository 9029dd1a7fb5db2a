-- `Layout::line_room` meets its contract: the code is the definition.
-- The bounds keep the indent below the width, so that nothing wraps.
use mathlib.Core.Path.{refl}
use native.Mathlib.Omega.{arith}
use Rattle.defs.specs.Layout.{line_room}
use Rattle.layout.proofs.Within.{bounds}
use Rattle.layout.proofs.bounds.Layout.line_room.Goals as goal

pub overflow_sub-result : goal.overflow_sub-result
overflow_sub-result c = omega (arith, bounds _ c.requires)

pub overflow_add-result : goal.overflow_add-result
overflow_add-result c = omega (arith, bounds _ c.requires)

pub returns : goal.returns
unfolding line_room
returns c = refl
