-- `put_label` meets its contract: the bytes that the statement's record names are laid as a word.
-- The record says that they lie in the label bytes, and how many they are at the most.
use Rattle.compressed.proofs.LabelLaws.{lays_label}
use Rattle.compressed.proofs.labels.put_label.Goals as goal

pub returns : goal.returns
returns c = lays_label _ _ _ _ c.requires.near.1 c.label_of.ensures c.put_word.ensures
