-- `step_number` meets its contract, by its two cases: a reference, and a normal step, whose statement has a number.
-- Whatever step the words say is such a step.
use Rattle.lettering.proofs.Lemmas.{number_reference, number_normal}
use Rattle.lettering.proofs.step_number.Goals as goal

pub returns-then-reference-ne0 : goal.returns-then-reference-ne0
returns-then-reference-ne0 c = number_reference _ _ _ _ c.if-reference-ne0.true

pub returns : goal.returns
returns c = (number_normal _ _ _ _ c.if-reference-ne0.false)
