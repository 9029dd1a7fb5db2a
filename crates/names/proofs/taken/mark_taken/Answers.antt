-- `mark_taken` meets its contract. The slice says which numbers are among the first k labels.
-- A turn is one label more.
use Rattle.names.proofs.TakenLaws.{taken_none, taken_turn}
use Rattle.names.proofs.taken.mark_taken.Goals as goal

pub loop-k-init : goal.loop-k-init
loop-k-init c = taken_none _ _ c.args.taken.now _ (c.fill.ensures.after (λ y e. e))

pub loop-k-preserved : goal.loop-k-preserved
loop-k-preserved c = taken_turn _ _ c.loop-k.k _ _ _ _ c.loop-k.invariant c.label_of.ensures c.mark_label.ensures
