-- `put_word` meets its contract: the word is opened with its length, and its bytes are put after that.
-- The bound on the end of an opened word is what `put_piece` requires.
use mathlib.Core.Path.{refl}
use Rattle.layout.proofs.Words.{lays_word}
use Rattle.laws.specs.Puts.{grows_one}
use Rattle.layout.proofs.lines.put_word.Goals as goal

pub returns : goal.returns
returns c =
    lays_word _ refl c.open_word-opened.ensures (grows_one c.put_piece-end.ensures)
