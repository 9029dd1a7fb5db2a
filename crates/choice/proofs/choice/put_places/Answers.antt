-- `put_places` meets its contract. The invariant `Walked`: what is chosen of the items below i, before the places that stand, is the choice.
-- A turn leaves its item out (`leave`) or puts its place in front (`put`).
use mathlib.Core.Path.{◌≡◌}
use Prim.Native.Nat.{◌+◌, ◌-◌, ◌*◌, ◌<◌}
use native.Mathlib.Omega.{arith}
use Rattle.choice.proofs.Walk.{walked_all, leave, put, item_fits, turn_below}
use Rattle.choice.proofs.choice.put_places.Goals.{In-loop-i}
use Rattle.choice.proofs.choice.put_places.Goals as goal

-- the cells that a turn compares lie before the places
below : (c : In-loop-i) → (c.loop-i.i - 1) * (c.args.room + 1) + c.loop-i.left + (c.args.room + 1) < c.loop-i.start
below c = turn_below _ _ _ _ (c.loop-i.i - 1) _ _ _ (omega arith) c.loop-i.invariant

pub overflow_sub-left : goal.overflow_sub-left
overflow_sub-left c =
    let p = c.loop-i in
    omega (arith, item_fits _ _ _ _ (p.i - 1) _ _ _ (omega arith) p.invariant (λ e. omega (arith, e, c.if-sums-at.true)))

pub loop-i-preserved-then-sums-at : goal.loop-i-preserved-then-sums-at
loop-i-preserved-then-sums-at c =
    let p = c.loop-i in
    put _ _ _ _ (p.i - 1) _ _ _ (omega arith) p.invariant (λ e. omega (arith, e, c.if-sums-at.true))

pub loop-i-preserved : goal.loop-i-preserved
loop-i-preserved c =
    let p = c.loop-i in
    leave _ _ _ _ (p.i - 1) _ _ _ (omega arith) p.invariant (omega (arith, c.if-sums-at.false))

pub returns : goal.returns
returns c =
    let z : c.loop-i.i ≡ 0 = omega arith in
    walked_all (rw z at c.loop-i.invariant)
