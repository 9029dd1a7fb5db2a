-- `keep_kind` meets its contract. The invariant: of the first i statements those that are wanted are kept, in order.
-- They go behind the list that is read, so it stays as it was. Assumes nothing.
use Rattle.listing.proofs.KindLaws.{KeptTo}
use Rattle.listing.proofs.kinds.keep_kind.Given as goal

abbrev pub invariant-loop-i : goal.invariant-loop-i
invariant-loop-i l = KeptTo l.statements l.assertions l.at l.many l.to l.i l.end l.initial.work l.work
