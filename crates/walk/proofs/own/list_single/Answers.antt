-- The step put down is the definition's: the mark that the word holds, and the statement where there is none.
-- Each of its words is what a call ensures.
use Rattle.walk.proofs.OwnLaws.{one_step_lem}
use Rattle.walk.proofs.own.list_single.Goals as goal

pub returns : goal.returns
returns c = rw c.put_step.ensures (one_step_lem _ _ _ _ _ _ _ c.mark_in-mark.ensures c.statement_unless-own.ensures)
