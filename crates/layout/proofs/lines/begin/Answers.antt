-- `begin` meets its contract: the blanks are put at the front of the slice, and are fewer than the indent.
-- By the bounds of the layout neither difference wraps.
use Prim.Native.Nat.{◌-◌}
use native.Mathlib.Omega.{arith}
use lib.ListN.{length-replicate}
use Rattle.defs.specs.Bytes.{space}
use Rattle.layout.specs.Layouts.{layout_of}
use Rattle.layout.proofs.Words.{begins}
use Rattle.layout.proofs.Within.{bounds}
use Rattle.layout.proofs.lines.begin.Goals as goal

pub overflow_sub-at : goal.overflow_sub-at
overflow_sub-at c = (bounds _ c.requires).some

pub overflow_sub-at-2 : goal.overflow_sub-at-2
overflow_sub-at-2 c = omega (arith, bounds _ c.requires)

pub returns : goal.returns
returns c =
    let p = c.put_spaces-end.ensures in
    let l = layout_of c.args.layout in
    (begins l p, omega (arith, bounds l c.requires, p.ends, length-replicate (l.indent - 1 - l.first) space))
