-- `put_reason` meets its contract: the text in the code is the reasons, each with a newline, so its line is the reason.
-- Both are computed.
use mathlib.Core.Path.{refl}
use Rattle.answers_said.specs.Refusals.{reasons}
use Rattle.answers_said.specs.Lines.{joined}
use Rattle.answers_said.specs.Bytes.{bytes}
use Rattle.answers_said.proofs.SaidLaws.{reason_put}
use Rattle.answers_said.proofs.refusals.put_reason.Goals as goal

pub returns : goal.returns
unfolding joined reasons bytes
returns c = reason_put _ _ _ _ _ refl refl c.put_line.ensures
