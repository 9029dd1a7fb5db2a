-- `put_step_word` meets its contract: the word is opened with its length, and its bytes are put after that.
-- The bound on a word's length is what keeps its end near.
use Rattle.words.proofs.WordLaws.{word_laid}
use Rattle.words.proofs.word.put_step_word.Goals as goal

pub returns : goal.returns
returns c = word_laid _ _ _ c.requires.word_inside c.word_length.ensures c.open_word-opened.ensures c.put_bytes-end.ensures
