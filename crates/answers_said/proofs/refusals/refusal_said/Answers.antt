-- `refusal_said` meets its contract: the line has room in the array, so it stands there.
-- The rest is found.
use native.Mathlib.Omega.{arith}
use Rattle.answers_said.proofs.SaidLaws.{said}
use Rattle.answers_said.proofs.refusals.refusal_said.Goals as goal

pub returns : goal.returns
returns c = said c.put_refusal.ensures.grows (omega arith)
