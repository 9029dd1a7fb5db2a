-- `working_sums` meets its contract: it is the product of document 01, and nothing wraps since both factors are small.
-- The limits of the header and of the layout give that.
use Rattle.order.proofs.Tests.{line_room_most, cells_most}
use Rattle.defs.specs.Table.{statements}
use Rattle.defs.specs.Refusals.{need16}
use Prim.Native.Nat.{ℕ, ◌+◌, ◌*◌}
use mathlib.Core.Path.{refl, ap}
use native.Mathlib.Omega.{arith}
use Rattle.order.proofs.room.working_sums.Goals as goal

pub overflow_add-result-2 : goal.overflow_add-result-2
overflow_add-result-2 c = omega (arith, c.line_room.ensures, line_room_most _ c.requires.layout_value)

pub overflow_mul-result : goal.overflow_mul-result
overflow_mul-result c = omega (arith, cells_most _ _ refl c.requires.header_ok.s_most _ _ c.line_room.ensures c.requires.layout_value)

pub returns : goal.returns
unfolding need16
returns c = ap (λ (W : ℕ). (statements c.args.words.now + 1) * (W + 1)) c.line_room.ensures
