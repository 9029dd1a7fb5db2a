-- `mark_taken` meets its contract. The slice says which numbers are among the first k labels.
-- A turn is one label more.
use mathlib.Core.Path.{◌≡◌}
use lib.ListN.{length}
use Rattle.names.specs.Taken.{taken_by}
use Rattle.names.proofs.taken.mark_taken.Given as goal

abbrev pub invariant-loop-k : goal.invariant-loop-k
invariant-loop-k l = l.taken ≡ taken_by l.statements l.labels l.k (length l.initial.taken)
