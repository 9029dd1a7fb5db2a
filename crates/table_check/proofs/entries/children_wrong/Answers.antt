-- `children_wrong` is test 6. Invariant: the children of every entry passed are below it.
-- What is lent to `all_below` is the list of the entry, since the record names its start and count. Assumes nothing.
use mathlib.Core.Bool.{not}
use mathlib.Core.Path.{◌≡◌, sym, ap, ◌∙◌}
use native.Mathlib.Omega.{arith}
use borrow.Author.Count.{below_none, below_more}
use lib.Dec.{ltb}
use Rattle.laws.specs.Below.{all_below_all, all_below_fails}
use Rattle.laws.specs.Lists.{T_of, not_no}
use Rattle.laws.specs.Tools.{all, all_below}
use Rattle.defs.specs.Check.{children_below}
use Rattle.table_check.proofs.entries.children_wrong.Goals.{After-all_below}
use Rattle.table_check.proofs.entries.children_wrong.Goals as goal

-- what the walk through one list says of its entry
seen : (c : After-all_below) → c.all_below.result ≡ children_below c.args.entries.now c.args.children.now c.loop-e.e
unfolding children_below
seen c = c.all_below.ensures ∙ ap (all (λ x. ltb x c.loop-e.e)) c.children_of.ensures

pub returns-then-not-all_below : goal.returns-then-not-all_below
returns-then-not-all_below c = ap not (sym (all_below_fails _ c.loop-e.e _ (omega arith) (sym (seen (goal.at.returns-then-not-all_below c).After-all_below) ∙ c.if-not-all_below.true)))

pub loop-e-preserved : goal.loop-e-preserved
loop-e-preserved c = (omega arith, below_more _ _ c.loop-e.invariant.1 (sym (seen (goal.at.loop-e-preserved c).After-all_below) ∙ c.if-not-all_below.false))

pub returns : goal.returns
returns c =
    let end : c.loop-e.e ≡ c.args.entry_count = omega arith in
    let test = children_below c.args.entries.now c.args.children.now in
    sym (not_no (all_below test c.args.entry_count) (all_below_all test _ (λ k l. T_of (rw end at c.loop-e.invariant.1 k l))))
