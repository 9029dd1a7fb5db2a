-- `number_labels` meets its contract. The invariant: the first i labels have the numbers from the base on.
-- No label occurs twice, so none loses its number. Assumes nothing.
use Rattle.listing.proofs.NumberLaws.{no_labels, turn_label}
use Rattle.listing.proofs.numbers.number_labels.Goals as goal

pub loop-i-init : goal.loop-i-init
loop-i-init c = no_labels _ _ _ _ _ _

pub loop-i-preserved : goal.loop-i-preserved
loop-i-preserved c = turn_label _ _ _ _ _ _ _ _ c.requires c.loop-i.invariant c.loop-i-test.true
