-- `put_too_large` meets its contract: five pieces, one behind another.
-- They are few bytes, whatever the number.
use Rattle.answers_said.specs.Bytes.{bytes}
use Rattle.names.proofs.Decimals.{digits_most}
use native.Mathlib.Omega.{arith}
use Rattle.answers_said.proofs.SaidLaws.{too_large_put, too_large_most}
use Rattle.answers_said.proofs.limits.put_too_large.Goals as goal

pub put_byte-requires : goal.put_byte-requires
put_byte-requires c = omega (
  arith,
  c.put_decimal-numbered.ensures.ends,
  c.put_byte-parted.ensures.ends,
  c.put_piece-named.ensures.ends,
  c.put_piece-begun.ensures.ends,
  digits_most c.args.most (omega arith),
)

pub returns : goal.returns
unfolding bytes
returns c =
    let g = too_large_put c.args.what.now c.args.most c.put_piece-begun.ensures c.put_piece-named.ensures c.put_byte-parted.ensures c.put_decimal-numbered.ensures c.put_byte.ensures in record { grows = g; upper_bound = omega (arith, g.ends, too_large_most c.args.what.now c.args.most (omega arith) (omega arith)) }
