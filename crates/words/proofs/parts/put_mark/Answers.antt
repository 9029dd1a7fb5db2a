-- `put_mark` meets its contract: the digits are put, then the colon behind them.
-- Where no mark is named, by None or by 0, the text does not grow.
use native.Mathlib.Omega.{arith}
use Rattle.names.proofs.Decimals.{digits_most}
use Rattle.words.proofs.PartLaws.{no_mark_put, mark_0_put, mark_put}
use Rattle.words.proofs.parts.put_mark.Goals as goal

pub put_byte-requires : goal.put_byte-requires
put_byte-requires c = omega (arith, c.put_decimal-colon.ensures.ends, c.requires, digits_most c.in-Some.number (omega arith))

pub returns-in-Some : goal.returns-in-Some
returns-in-Some c =
    rw c.in-Some.is (
      mark_put _ (λ z. omega arith) (omega arith) c.put_decimal-colon.ensures c.put_byte.ensures,
      omega (arith, c.put_decimal-colon.ensures.ends, c.put_byte.ensures.ends, digits_most c.in-Some.number (omega arith)),
    )

pub returns-in_default : goal.returns-in_default
returns-in_default c = rw c.in-Some.is (mark_0_put _ _ _ (omega arith), omega arith)

pub returns-in_default-2 : goal.returns-in_default-2
returns-in_default-2 c = rw c.in_default.is (no_mark_put _ _, omega arith)
