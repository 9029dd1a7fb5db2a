-- `open_letters` meets its contract: it opens a word of no bytes.
-- So the empty word is written where the line has room for its blank alone.
use native.Mathlib.Omega.{arith}
use Rattle.layout.proofs.Wrote.{lays_as}
use Rattle.layout.proofs.Cutting.{empty_opened}
use Rattle.layout.proofs.cuts.open_letters.Goals as goal

pub returns : goal.returns
returns c = lays_as c.open_word.ensures _ _ (λ s. empty_opened _ _ s (omega arith)) (omega arith)
