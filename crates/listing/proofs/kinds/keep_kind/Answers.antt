-- `keep_kind` meets its contract. The invariant: of the first i statements those that are wanted are kept, in order.
-- They go behind the list that is read, so it stays as it was. Assumes nothing.
use native.Mathlib.Omega.{arith}
use Rattle.listing.proofs.KindLaws.{none_kept, all_kept, turn_kept}
use Rattle.listing.proofs.kinds.keep_kind.Goals as goal

pub loop-i-init : goal.loop-i-init
loop-i-init c = none_kept _ _ _ _ _ _

pub loop-i-preserved : goal.loop-i-preserved
loop-i-preserved c = turn_kept _ _ _ _ _ _ _ _ _ c.loop-i.invariant c.loop-i-test.true c.requires.apart c.requires.room _ _ c.keep_one-end.ensures

pub returns : goal.returns
returns c = all_kept _ _ _ _ _ _ _ _ _ (omega arith) c.loop-i.invariant
