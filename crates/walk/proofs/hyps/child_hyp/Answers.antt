-- Each case of `explicit` is one case of the words that a step carries.
-- The parent is the entry's own statement.
use Rattle.walk.specs.Hyps.{parent_of, index_of}
use mathlib.Core.Path.{refl}
use Rattle.walk.proofs.hyps.child_hyp.Goals as goal

pub returns-then-explicit : goal.returns-then-explicit
unfolding parent_of index_of
returns-then-explicit c = rw c.if-explicit.true (rw c.statement_of.ensures, refl)

pub returns-else-explicit : goal.returns-else-explicit
unfolding parent_of index_of
returns-else-explicit c = rw c.if-explicit.false (refl, refl)
