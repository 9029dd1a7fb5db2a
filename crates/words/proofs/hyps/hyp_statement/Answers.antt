-- `hyp_statement` meets its contract: the enum is taken apart at once, and its two cases are those of the parent word,
-- 0 at the root and the parent's number plus 1 elsewhere.
use mathlib.Core.Path.{◌∙◌}
use native.Mathlib.Omega.{arith}
use Rattle.words.proofs.HypLaws.{root_statement, of_statement, parent_stands, list_stands}
use Rattle.words.proofs.hyps.hyp_statement.Goals as goal

pub returns-in_default : goal.returns-in_default
returns-in_default c = root_statement _ _ _ _ c.in_default.is

pub hyp_start-requires : goal.hyp_start-requires
hyp_start-requires c = parent_stands _ _ _ _ _ _ c.in-Of.is c.requires

pub overflow_add-hyp_start : goal.overflow_add-hyp_start
overflow_add-hyp_start c = omega (arith, c.hyp_start.ensures, list_stands _ _ _ _ _ _ c.in-Of.is c.requires)

pub hypothesis-requires : goal.hypothesis-requires
hypothesis-requires c = omega (arith, c.hyp_start.ensures, list_stands _ _ _ _ _ _ c.in-Of.is c.requires)

pub returns : goal.returns
returns c = rw c.hyp_start.ensures at c.hypothesis.ensures ∙ of_statement _ _ _ _ _ _ c.in-Of.is
