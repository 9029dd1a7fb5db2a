-- `number_of` meets its contract. What is kept is the number of the bytes read so far, capped.
-- A turn is one digit more.
use mathlib.Core.Path.{ap, ◌∙◌}
use Prim.Native.Nat.{ℕ, ◌+◌, ◌*◌}
use native.Mathlib.Omega.{arith}
use Rattle.names.specs.Decimals.{capped}
use Rattle.names.proofs.Numbers.{number_none, number_more}
use Rattle.names.proofs.number.number_of.Goals as goal

pub loop-byte-init : goal.loop-byte-init
loop-byte-init c = number_none c.args.bytes.now

pub loop-byte-preserved : goal.loop-byte-preserved
loop-byte-preserved c =
    let p = c.loop-byte in
    let turn = c.next_digit-number.ensures ∙ ap (λ (d : ℕ). capped (10 * p.number + d)) c.digit_of.ensures in
    number_more _ p.byte-index p.number _ (omega arith) p.invariant turn
