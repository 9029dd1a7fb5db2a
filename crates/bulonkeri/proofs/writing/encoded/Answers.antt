-- The bytes of 1,024 words fit.
use Rattle.std.proofs.Common.{arith, length}
use Rattle.table_file.specs.Words.{file_length}
use Rattle.bulonkeri.proofs.Fits.{counts}
use Rattle.bulonkeri.proofs.writing.encoded.Goals as goal

pub returns : goal.returns
returns c = counts _ _ (omega (arith, c.encode.ensures.ends, c.encode.ensures.kept, file_length c.args.words.now (length c.args.words.now)))
