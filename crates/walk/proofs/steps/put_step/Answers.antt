-- Five stores one after another are the words of a step.
-- Each lies in the room that is asked for.
use Rattle.walk.proofs.StepLaws.{five_stores}
use Rattle.walk.proofs.steps.put_step.Goals as goal

pub returns : goal.returns
returns c = five_stores _ _ _ _ _ _ _ c.requires
