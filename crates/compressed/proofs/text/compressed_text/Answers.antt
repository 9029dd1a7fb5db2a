-- `compressed_text` meets its contract: each writer begins where the one before it ended.
-- The counts of labels and steps keep every end below the farthest place.
use native.Mathlib.Omega.{arith}
use Rattle.layout.proofs.Within.{bounds}
use Rattle.compressed.proofs.TextLaws.{text_wrote}
use Rattle.compressed.proofs.text.compressed_text.Goals as goal

pub returns : goal.returns
returns c =
    text_wrote _ _ _ c.args.places _ (bounds _ c.requires.layout_value)
    c.begin-begun.ensures.0
    c.put_word-opened.ensures
    c.put_labels-listed.ensures
    c.put_word-closed.ensures
    c.open_letters-started.ensures
    c.put_steps-lettered.ensures
    c.close-ended.ensures
    (omega arith)
    (omega arith)
    (omega arith)
