-- `count_floatings` meets its contract: the library's `filter` keeps the floatings of the list.
-- The list's members are statements, so each has a kind to test.
use Rattle.std.proofs.Common.{rules, tests, ap, length, ◌∙◌}
use Rattle.std.proofs.lemmas.Iterator.{YieldsList-from_slice}
use Rattle.std.proofs.lemmas.Iterator.Adapters.{serves_from_places}
use Rattle.std.proofs.lemmas.Iterator.Consumers.{YieldsList-from_filter, count_from_yields_List}
use lib.Dec.{eqb}
use Rattle.defs.specs.Table.{kind_in}
use Rattle.labels.proofs.Searches.{member_stands, filter_keep}
use Rattle.labels.proofs.floatings.count_floatings.Goals as goal

pub count-requires-clause-can : goal.count-requires-clause-can
count-requires-clause-can c = (
  tt,
  tt,
  serves_from_places (YieldsList-from_slice c.args.list.now cc) (λ x q k. search (rules, tests))
      (λ x k l e. let stands = member_stands _ _ c.requires x.now k l e in search (rules, stands)),
)

pub returns : goal.returns
returns c =
    count_from_yields_List c.filter.result _ c.count.ensures.ran
    (YieldsList-from_filter _ (λ k. eqb (kind_in c.args.statements.now k) 1) (YieldsList-from_slice c.args.list.now cc) c.filter.ensures.closure (λ x b q k. search (rules, tests)))
    ∙ ap length (filter_keep _ _)
