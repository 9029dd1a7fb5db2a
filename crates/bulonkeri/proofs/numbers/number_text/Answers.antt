-- The digits and the byte after them stand at the front of the text.
use Rattle.std.proofs.Common.{arith}
use Rattle.names.proofs.Decimals.{digits_most}
use Rattle.bulonkeri.proofs.Texts.{number_text}
use Rattle.bulonkeri.proofs.numbers.number_text.Goals as goal

pub put_byte-requires : goal.put_byte-requires
put_byte-requires c = let m = digits_most c.args.number (omega arith) in omega (arith, c.put_decimal-end.ensures.ends)

pub returns-clause-prefix_len : goal.returns-clause-prefix_len
returns-clause-prefix_len c = (number_text _ _ (omega arith) (omega arith) c.put_decimal-end.ensures c.put_byte.ensures).0

pub returns-clause-text_after : goal.returns-clause-text_after
returns-clause-text_after c = (number_text _ _ (omega arith) (omega arith) c.put_decimal-end.ensures c.put_byte.ensures).1
