-- `decimal_of` meets its contract: the digits are put at the end of an array that has room for those of any number of 32 bits.
-- Assumes nothing.
use native.Mathlib.Omega.{arith}
use Rattle.names.proofs.Decimals.{digits_most}
use Rattle.names.proofs.decimal.decimal_of.Goals as goal

pub put_before-start-requires : goal.put_before-start-requires
put_before-start-requires c = (digits_most c.args.v (omega arith), omega arith)
