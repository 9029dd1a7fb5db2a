-- `add_item` meets its contract. The invariant is the contract at the counter.
-- Both cells read lie before the cells that the loop writes; cells and cost are small, so their sum fits.
use Prim.Native.Nat.{ℕ, ◌+◌, ◌-◌}
use native.Mathlib.Omega.{arith}
use Rattle.choice.specs.Rows.{Low}
use Rattle.choice.proofs.totals.add_item.Goals as goal

pub overflow_add-with_it : goal.overflow_add-with_it
unfolding Low
overflow_add-with_it c =
    let a = c.args in
    let back : ℕ = c.loop-at.at - (a.width + a.cost) in
    omega (arith, c.loop-at.invariant.kept back (omega arith), c.requires.width_bound.1 back (omega arith) (omega arith))
