-- The stored length and hash are the next two words of the data, if it has them.
use Rattle.std.proofs.Common.{arith}
use Rattle.vectors.proofs.TallyLaws.{no_answer, next_answer}
use Rattle.vectors.proofs.compare.compare.Goals as goal

pub returns-then-left-lt8 : goal.returns-then-left-lt8
returns-then-left-lt8 g c = no_answer _ _ _ (omega (arith, c.left.ensures, c.if-left-lt8.true)) c.malformed.ensures

pub returns : goal.returns
returns g c = next_answer _ _ _ (omega (arith, c.left.ensures, c.if-left-lt8.false)) c.word-length.ensures c.word-hash.ensures c.moved_to.ensures c.judge.ensures
