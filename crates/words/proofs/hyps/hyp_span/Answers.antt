-- `hyp_span` meets its contract: the flag decides, as in the definition.
-- The record of the hypothesis stands in its section by what is required.
use Rattle.words.specs.Spelled.{hyp_span}
use Rattle.words.proofs.hyps.hyp_span.Goals as goal

pub returns-then-explicit : goal.returns-then-explicit
unfolding hyp_span
returns-then-explicit c = rw (c.if-explicit.true, ← c.hyp_statement.ensures, c.label_span.ensures)

pub returns-else-explicit : goal.returns-else-explicit
unfolding hyp_span
returns-else-explicit c = rw c.if-explicit.false
