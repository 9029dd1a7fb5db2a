-- `mixed` meets its contract. The answer of the whole list is that of the part still to come, with what was seen of essentials before it.
-- The part still to come is what the loop has not passed.
use mathlib.Core.Path.{◌≡◌}
use mathlib.Core.List.{map}
use lib.ListN.{drop}
use Rattle.defs.specs.Refusals.{mixed}
use Rattle.defs.specs.Table.{kind_in}
use Rattle.theorem.proofs.Searches.{mixed_from}
use Rattle.theorem.proofs.hypotheses.mixed.Given as goal

abbrev pub invariant-loop-k : goal.invariant-loop-k
invariant-loop-k l = mixed_from l.essential (map (kind_in l.statements) (drop l.k-index l.list)) ≡ mixed (map (kind_in l.statements) l.list)
