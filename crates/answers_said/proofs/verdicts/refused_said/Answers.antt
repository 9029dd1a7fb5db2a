-- `refused_said` meets its contract: the lines have room in the array, so they stand there.
-- The rest is found.
use native.Mathlib.Omega.{arith}
use Rattle.answers_said.proofs.SaidLaws.{said}
use Rattle.answers_said.proofs.verdicts.refused_said.Goals as goal

pub returns : goal.returns
returns c = said c.put_refused.ensures.grows (omega arith)
