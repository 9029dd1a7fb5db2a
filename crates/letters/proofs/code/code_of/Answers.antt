-- `code_of` meets its contract: the letters are put at the end of an array that has room for those of any number of 32 bits.
-- Assumes nothing.
use native.Mathlib.Omega.{arith}
use Rattle.laws.specs.Puts.{placed_last}
use Rattle.letters.proofs.Codes.{code_length, code_most}
use Rattle.letters.proofs.code.code_of.Goals as goal

pub put_before-start-requires : goal.put_before-start-requires
put_before-start-requires c = (code_most c.args.v (omega arith), omega arith)

pub returns : goal.returns
returns c =
    let b = c.put_before-start.ensures in
    (placed_last _ _ _ _ b, omega (arith, b.ends, code_length c.args.v))
