-- `has_longer` meets its contract: the library's `any` measures each label of the list.
-- The list's members are statements, so each has a label to measure.
use Rattle.std.proofs.Common.{rules, tests, ◌∙◌}
use Rattle.std.proofs.lemmas.Iterator.{YieldsList-from_slice}
use Rattle.std.proofs.lemmas.Iterator.Adapters.{serves_from_places}
use Rattle.std.proofs.lemmas.Iterator.Search.{any_from_yields_List}
use lib.Dec.{ltb}
use Rattle.laws.specs.Library.{list_any_any}
use Rattle.defs.specs.Table.{label_length_in}
use Rattle.labels.proofs.Searches.{member_stands}
use Rattle.labels.proofs.refusals.has_longer.Goals as goal

pub any-requires-clause-callable : goal.any-requires-clause-callable
any-requires-clause-callable c =
    serves_from_places (YieldsList-from_slice c.args.list.now cc) (λ x q k. search (rules, tests))
    (λ x k l e. let stands = member_stands _ _ c.requires x.now k l e in search (rules, stands))

pub returns : goal.returns
returns c =
    any_from_yields_List (λ k. ltb c.args.most (label_length_in c.args.statements.now k)) _ _ _ c.any.ensures.ran (YieldsList-from_slice c.args.list.now cc) (λ x b q k. search (rules, tests))
    ∙ list_any_any _ _
