-- `put_verdict` meets its contract: each arm is a case of the definition.
-- The lines are few bytes.
use Rattle.answers_said.specs.Verdicts.{verdict_lines}
use Rattle.answers_said.specs.Bytes.{bytes}
use Rattle.laws.specs.Puts.{grows_one}
use native.Mathlib.Omega.{arith}
use Rattle.answers_said.proofs.VerdictLaws.{differ_put, differ_ends}
use Rattle.answers_said.proofs.verdicts.put_verdict.Goals as goal

pub returns-in-Agree : goal.returns-in-Agree
unfolding verdict_lines bytes
returns-in-Agree c = record { grows = rw c.in-Agree.is (grows_one c.put_piece.ensures); upper_bound = omega (arith, c.put_piece.ensures.ends) }

pub returns-in-Refused : goal.returns-in-Refused
unfolding verdict_lines
returns-in-Refused c = record { grows = rw c.in-Refused.is c.put_refused.ensures.grows; upper_bound = c.put_refused.ensures.upper_bound }

pub returns-in-Differ : goal.returns-in-Differ
unfolding verdict_lines bytes
returns-in-Differ c =
    record {
      grows = rw c.in-Differ.is (differ_put _ c.put_piece-begun.ensures c.stage_said.ensures c.put_piece-in-Differ.ensures);
      upper_bound = differ_ends _ c.put_piece-begun.ensures c.stage_said.ensures c.put_piece-in-Differ.ensures;
    }
