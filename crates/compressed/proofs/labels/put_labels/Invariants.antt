-- `put_labels` meets its contract. The labels of the statements of the list before the turn's are laid.
-- The list is a part of the working slice.
use Rattle.layout.specs.Layouts.{layout_of}
use Rattle.compressed.proofs.LabelLaws.{LabelsTo}
use Rattle.compressed.proofs.labels.put_labels.Given as goal

abbrev pub invariant-loop-k : goal.invariant-loop-k
invariant-loop-k l = LabelsTo (layout_of l.layout) l.statements l.labels l.k-items l.k-index l.initial.laid l.laid l.initial.out l.out
