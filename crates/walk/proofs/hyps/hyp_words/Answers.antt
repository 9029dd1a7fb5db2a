-- A parent hypothesis is the root or a parent with an index, and each case is a law of StepLaws.
-- The parent word has room for one more than the statement.
use Rattle.walk.proofs.StepLaws.{at_root, of_parent}
use native.Mathlib.Omega.{arith}
use Rattle.walk.proofs.hyps.hyp_words.Goals as goal

pub returns-in_default : goal.returns-in_default
returns-in_default c = at_root _ c.in_default.is

pub overflow_add-result : goal.overflow_add-result
overflow_add-result c = let h = of_parent _ _ _ c.in-Of.is in omega (arith, h.0, c.requires)

pub returns : goal.returns
returns c = of_parent _ _ _ c.in-Of.is
