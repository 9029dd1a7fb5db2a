-- `repeats` meets its contract. The list repeats a number where the part still to come does, once its first number was not found behind it.
-- The part still to come is what the loop has not passed.
use mathlib.Core.Path.{sym, ◌∙◌}
use Rattle.theorem.proofs.Searches.{repeats_next, repeats_end}
use Rattle.theorem.proofs.lists.repeats.Goals as goal

pub returns-then-contains : goal.returns-then-contains
returns-then-contains c =
    let e = repeats_next c.args.list.now c.loop-i.i c.contains.result c.loop-i-test.true c.contains.ensures.value in
    sym (rw c.if-contains.true at e) ∙ c.loop-i.invariant

pub loop-i-preserved : goal.loop-i-preserved
loop-i-preserved c =
    let e = repeats_next c.args.list.now c.loop-i.i c.contains.result c.loop-i-test.true c.contains.ensures.value in
    sym (rw c.if-contains.false at e) ∙ c.loop-i.invariant

pub returns : goal.returns
returns c = sym (repeats_end _ _ c.loop-i-test.false) ∙ c.loop-i.invariant
