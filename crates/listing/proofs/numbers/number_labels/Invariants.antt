-- `number_labels` meets its contract. The invariant: the first i labels have the numbers from the base on.
-- No label occurs twice, so none loses its number. Assumes nothing.
use Rattle.listing.proofs.NumberLaws.{LabelsTo}
use Rattle.listing.proofs.numbers.number_labels.Given as goal

abbrev pub invariant-loop-i : goal.invariant-loop-i
invariant-loop-i l = LabelsTo l.base l.at l.many l.s l.from l.i l.initial.work l.work
