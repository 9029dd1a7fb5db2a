-- `number_theorem` meets its contract. The invariant: the first i statements of the theorem's list have their places plus 1.
-- No statement occurs twice in it, so none loses its number. Assumes nothing.
use Prim.Native.Nat.{◌+◌}
use mathlib.Core.Path.{◌≡◌}
use native.Mathlib.Omega.{arith}
use Rattle.listing.proofs.NumberLaws.{none_numbered, turn_number}
use Rattle.listing.proofs.numbers.number_theorem.Goals as goal

pub loop-i-init : goal.loop-i-init
loop-i-init c = none_numbered _ _ _ _ _

pub loop-i-preserved : goal.loop-i-preserved
loop-i-preserved c =
    let e : 0 + c.loop-i.i ≡ c.loop-i.i = omega arith in
    rw e at (turn_number _ _ _ _ _ _ _ c.requires.room c.requires.inside c.requires.once c.loop-i.invariant c.loop-i-test.true)
