-- `repeats` meets its contract. The list repeats a number where the part still to come does, once its first number was not found behind it.
-- The part still to come is what the loop has not passed.
use mathlib.Core.Path.{◌≡◌}
use lib.ListN.{drop}
use Rattle.laws.specs.Tools.{repeats}
use Rattle.theorem.proofs.lists.repeats.Given as goal

abbrev pub invariant-loop-i : goal.invariant-loop-i
invariant-loop-i l = repeats (drop l.i l.list) ≡ repeats l.list
