-- `reference_right` is `reference_ok`: the named statement is in range, and then its kind decides.
-- Assumes nothing.
use Rattle.std.proofs.Common.{◌≡◌, ◌∙◌, refl, not, eqb, rules}
use Rattle.defs.specs.Table.{kind_in}
use Rattle.table_check.proofs.HypothesisLaws.{out_of_range, of_kind}
use Rattle.table_check.proofs.hypotheses.reference_right.Goals as goal

pub returns-then-count-named : goal.returns-then-count-named
returns-then-count-named c = out_of_range _ _ _ _ _ c.hypothesis-named.ensures c.if-count-named.true

pub returns : goal.returns
returns c =
    let is : c.ne.result ≡ not (eqb (kind_in c.args.statements.now c.hypothesis-named.result.0) 0) = search rules in
    is ∙ of_kind _ _ _ _ _ c.hypothesis-named.ensures c.if-count-named.false _ refl
