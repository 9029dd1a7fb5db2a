-- `test_listed` meets its contract: at each return the tests before it said no.
-- Which test gives the number is a law of module Tests.
use Rattle.order.proofs.Tests.{first_test, second_test, no_test}
use mathlib.Core.Path.{sym, ◌∙◌}
use Rattle.order.proofs.arranged.test_listed.Goals as goal

pub returns-then-has_essential : goal.returns-then-has_essential
returns-then-has_essential c = first_test 11 12 _ _ (sym c.has_essential.ensures ∙ c.if-has_essential.true)

pub returns-then-has_longer : goal.returns-then-has_longer
returns-then-has_longer c = second_test 11 12 _ _ (sym c.has_essential.ensures ∙ c.if-has_essential.false) (sym c.has_longer.ensures ∙ c.if-has_longer.true)

pub returns : goal.returns
returns c = no_test 11 12 _ _ (sym c.has_essential.ensures ∙ c.if-has_essential.false) (sym c.has_longer.ensures ∙ c.if-has_longer.false)
