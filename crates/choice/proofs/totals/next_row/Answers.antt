-- `next_row` meets its contract: copied below the cost, the greater of two from the cost on.
-- The smaller of cost and width is the cost wherever there is a room for the item.
use mathlib.Core.Path.{◌≡◌}
use Prim.Native.Nat.{◌+◌, ◌-◌}
use native.Mathlib.Omega.{arith}
use Rattle.choice.proofs.Rows.{low_copied, row_written}
use Rattle.choice.proofs.totals.next_row.Goals as goal

pub add_item-requires : goal.add_item-requires
add_item-requires c =
    let a = c.args in
    let b = c.min-below.result in
    let e : a.row + b - (a.width + b) ≡ a.row - a.width = omega arith in
    record {
      cost_le_width = (omega arith, (omega arith, (omega arith, omega (arith, c.copy_above.auto.sums))));
      width_bound = (omega arith, rw e (low_copied a.width a.row (a.row + b) _ _ (omega arith) (omega arith) c.copy_above.ensures c.requires.width_bound.1));
    }

pub returns : goal.returns
returns c =
    let a = c.args in
    row_written a.width a.row a.cost _ _ _ (omega arith) (rw c.min-below.ensures at c.copy_above.ensures) (rw c.min-below.ensures at c.add_item.ensures)
