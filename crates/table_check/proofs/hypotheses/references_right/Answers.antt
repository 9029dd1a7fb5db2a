-- `references_right` tests all references. Invariant: every reference passed is right.
-- One that is not decides at once. Assumes nothing.
use mathlib.Core.Path.{◌≡◌, sym, ◌∙◌}
use native.Mathlib.Omega.{arith}
use borrow.Author.Count.{below_none, below_more}
use lib.ListN.{length}
use Rattle.laws.specs.Below.{all_below_all, all_below_fails}
use Rattle.laws.specs.Lists.{T_of, of_T}
use Rattle.table_check.proofs.hypotheses.references_right.Goals as goal

pub returns-then-not-reference_right : goal.returns-then-not-reference_right
returns-then-not-reference_right c = sym (all_below_fails _ c.loop-i.i _ (omega arith) (sym c.reference_right.ensures ∙ c.if-not-reference_right.true))

pub returns : goal.returns
returns c =
    let end : c.loop-i.i ≡ length c.args.hyps.now = omega arith in
    sym (of_T _ (all_below_all _ _ (λ k l. T_of (rw end at c.loop-i.invariant.1 k l))))
