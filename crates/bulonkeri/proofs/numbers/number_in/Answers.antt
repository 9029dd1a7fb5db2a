-- A decimal of the number, or of none up to 100,000.
use Rattle.bulonkeri.proofs.Texts.{says_number, says_none}
use Rattle.bulonkeri.proofs.numbers.number_in.Goals as goal

pub returns-then-is_decimal : goal.returns-then-is_decimal
returns-then-is_decimal c = says_number _ _ c.is_decimal.ensures c.if-is_decimal.true

pub returns-else-is_decimal : goal.returns-else-is_decimal
returns-else-is_decimal c = says_none _ c.number_of-number.ensures c.is_decimal.ensures c.if-is_decimal.false
