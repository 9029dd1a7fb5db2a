-- `number_theorem` meets its contract. The invariant: the first i statements of the theorem's list have their places plus 1.
-- No statement occurs twice in it, so none loses its number. Assumes nothing.
use Rattle.listing.proofs.NumberLaws.{NumberedTo}
use Rattle.listing.proofs.numbers.number_theorem.Given as goal

abbrev pub invariant-loop-i : goal.invariant-loop-i
invariant-loop-i l = NumberedTo 0 l.s l.from l.list l.i l.initial.work l.work
