-- `lists_repeat` looks into the list of each statement. Invariant: no list passed has a word twice.
-- What is lent to `repeated` is the list, since the record names its start and count. Assumes nothing.
use mathlib.Core.Path.{◌≡◌, sym, ap, ◌∙◌}
use native.Mathlib.Omega.{arith}
use borrow.Author.Count.{below_none, below_more}
use Rattle.laws.specs.Below.{some_below_none, some_below_holds}
use Rattle.laws.specs.Tools.{repeats}
use Rattle.defs.specs.Check.{hyps_repeat}
use Rattle.table_check.proofs.hypotheses.lists_repeat.Goals.{After-repeated}
use Rattle.table_check.proofs.hypotheses.lists_repeat.Goals as goal

-- what the search in one list says of its statement
seen : (c : After-repeated) → c.repeated.result ≡ hyps_repeat c.args.statements.now c.args.hyps.now c.loop-k.k
unfolding hyps_repeat
seen c = c.repeated.ensures ∙ ap repeats c.hyps_of.ensures

pub returns-then-repeated : goal.returns-then-repeated
returns-then-repeated c = sym (some_below_holds _ c.loop-k.k _ (omega arith) (sym (seen (goal.at.returns-then-repeated c).After-repeated) ∙ c.if-repeated.true))

pub loop-k-preserved : goal.loop-k-preserved
loop-k-preserved c = (omega arith, below_more _ _ c.loop-k.invariant.1 (sym (seen (goal.at.loop-k-preserved c).After-repeated) ∙ c.if-repeated.false))

pub returns : goal.returns
returns c =
    let end : c.loop-k.k ≡ c.args.count = omega arith in
    sym (some_below_none _ _ (rw end at c.loop-k.invariant.1))
