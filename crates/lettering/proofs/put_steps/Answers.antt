-- `put_steps` meets its contract. The letters of the first i steps stand at the front, whatever list of steps the words say.
-- Each turn adds the letters of one step.
use Rattle.lettering.proofs.Lemmas.{none_written, turn, step_ready}
use Rattle.lettering.proofs.put_steps.Goals as goal

pub loop-i-init : goal.loop-i-init
loop-i-init c = none_written _ _ _ _ _ _

pub loop-i-preserved : goal.loop-i-preserved
loop-i-preserved c = turn _ _ _ _ _ _ _ _ _ _ _ c.loop-i.invariant c.loop-i-test.true c.put_step-end.auto.out c.put_step-end.ensures

pub put_step-end-requires-clause-step_ready : goal.put_step-end-requires-clause-step_ready
put_step-end-requires-clause-step_ready c = step_ready _ _ _ _ _ _ c.requires c.loop-i-test.true
