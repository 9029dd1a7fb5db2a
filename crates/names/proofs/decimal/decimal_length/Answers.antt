-- `decimal_length` meets its contract. The digits of the rest and those counted are the digits of v and one more.
-- The measure is the rest.
use native.Mathlib.Omega.{arith}
use Rattle.names.proofs.Decimals.{length_one, length_more, digits_most}
use Rattle.names.proofs.decimal.decimal_length.Goals as goal

pub overflow_add-count : goal.overflow_add-count
overflow_add-count c = omega (arith, digits_most c.args.v (omega arith))

pub loop-rest-preserved : goal.loop-rest-preserved
loop-rest-preserved c = omega (arith, length_more c.loop-rest.rest (omega arith))

pub returns : goal.returns
returns c = omega (arith, length_one c.loop-rest.rest (omega arith))
