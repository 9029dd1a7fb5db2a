-- `has_essential` meets its contract: the library's `any` tests each statement of the list.
-- The list's members are statements, so each has a kind to test.
use Rattle.std.proofs.Common.{rules, tests, ◌∙◌}
use Rattle.std.proofs.lemmas.Iterator.{YieldsList-from_slice}
use Rattle.std.proofs.lemmas.Iterator.Adapters.{serves_from_places}
use Rattle.std.proofs.lemmas.Iterator.Search.{any_from_yields_List}
use lib.Dec.{eqb}
use Rattle.laws.specs.Library.{list_any_any}
use Rattle.defs.specs.Table.{kind_in}
use Rattle.labels.proofs.Searches.{member_stands}
use Rattle.labels.proofs.refusals.has_essential.Goals as goal

pub any-requires-clause-callable : goal.any-requires-clause-callable
any-requires-clause-callable c =
    serves_from_places (YieldsList-from_slice c.args.list.now cc) (λ x q k. search (rules, tests))
    (λ x k l e. let stands = member_stands _ _ c.requires x.now k l e in search (rules, stands))

pub returns : goal.returns
returns c =
    any_from_yields_List (λ k. eqb (kind_in c.args.statements.now k) 2) _ _ _ c.any.ensures.ran (YieldsList-from_slice c.args.list.now cc) (λ x b q k. search (rules, tests))
    ∙ list_any_any _ _
