-- `put_decimal` meets its contract. The end of the digits is counted first,
-- and they are put in front of that end where it lies in the slice.
use native.Mathlib.Omega.{arith}
use Rattle.names.proofs.Decimals.{digits_most}
use Rattle.names.proofs.decimal.put_decimal.Goals as goal

pub overflow_add-end : goal.overflow_add-end
overflow_add-end c = omega (arith, digits_most c.args.v (omega arith))
