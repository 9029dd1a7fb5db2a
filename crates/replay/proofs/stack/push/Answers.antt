-- `replay::push` meets its contract: one store in the stack, and one behind the marks where the step has a mark.
-- The two regions do not meet. Assumes nothing.
use Rattle.replay.proofs.StackLaws.{push_plain, push_named}
use Rattle.replay.proofs.stack.push.Goals as goal

pub returns-then-mark-eq0 : goal.returns-then-mark-eq0
returns-then-mark-eq0 c = push_plain _ _ _ _ _ _ c.requires.0 c.requires.1.0 c.requires.1.1 c.if-mark-eq0.true

pub returns : goal.returns
returns c = push_named _ _ _ _ _ _ c.requires.0 c.requires.1.0 c.requires.1.1 c.if-mark-eq0.false
