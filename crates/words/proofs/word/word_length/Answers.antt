-- `word_length` meets its contract: the length of a word is the sum of those of its parts.
-- Each part is short, so no sum wraps.
use Rattle.words.proofs.PartLaws.{word_length}
use Rattle.words.proofs.word.word_length.Goals as goal

pub returns : goal.returns
returns c = word_length _ _ _ _ c.mark_length.ensures.0 c.mark_length.ensures.1 c.hyp_length.ensures c.last_length.ensures
