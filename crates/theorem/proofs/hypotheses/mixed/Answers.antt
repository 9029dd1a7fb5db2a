-- `mixed` meets its contract. The answer of the whole list is that of the part still to come, with what was seen of essentials before it.
-- The part still to come is what the loop has not passed.
use mathlib.Core.Path.{sym, ◌∙◌}
use lib.ListN.{get_or}
use Rattle.laws.specs.Lists.{boole}
use Rattle.defs.specs.Table.{kind_in}
use Rattle.theorem.proofs.Searches.{mixed_next, mixed_hit, mixed_end, floating, essential}
use Rattle.theorem.proofs.hypotheses.mixed.Goals.{else-essential-via-then-essential+else-eq, else-essential-via-else-essential, then-eq-2, else-eq-2}
use Rattle.theorem.proofs.hypotheses.mixed.Goals as goal

pub returns-then-eq : goal.returns-then-eq
returns-then-eq c =
    sym (mixed_hit (kind_in c.args.statements.now) _ _ _ c.loop-k-test.true c.if-essential.true (floating _ _ _ c.kind_of-kind.ensures c.eq.ensures ∙ c.if-eq.true))
    ∙ c.loop-k.invariant

pub loop-k-preserved : goal.loop-k-preserved
loop-k-preserved c =
    let two = essential (kind_in c.args.statements.now (get_or c.args.list.now c.loop-k.k-index 0)) _ _ c.kind_of-kind.ensures c.eq-in-loop-k.ensures in
    sym (mixed_next (kind_in c.args.statements.now) _ _ c.loop-k.essential _ c.loop-k-test.true
    (elim c.else-essential.branch [
      | else-essential-via-then-essential+else-eq w ↦ rw (w.if-essential.true, floating _ _ _ c.kind_of-kind.ensures w.eq.ensures) w.if-eq.false
      | else-essential-via-else-essential w ↦ rw w.if-essential.false
    ])
    (elim c.if-eq-2.branch [
      | then-eq-2 w ↦ w.essential-is ∙ rw (two, w.if-eq-2.true) (boole c.loop-k.essential (λ t. rw t) (λ t. rw t))
      | else-eq-2 w ↦ w.essential-is ∙ rw (two, w.if-eq-2.false) (boole c.loop-k.essential (λ t. rw t) (λ t. rw t))
    ]))
    ∙ c.loop-k.invariant

pub returns : goal.returns
returns c = sym (mixed_end _ _ _ c.loop-k.essential c.loop-k-test.false) ∙ c.loop-k.invariant
