-- `children_wrong` is test 6. Invariant: the children of every entry passed are below it.
-- What is lent to `all_below` is the list of the entry, since the record names its start and count. Assumes nothing.
use Prim.Native.Nat.{ℕ, ◌≤◌, ◌<◌, ◌-◌}
use mathlib.Core.Bool.{true}
use mathlib.Core.Path.{◌≡◌}
use Rattle.defs.specs.Check.{children_below}
use Rattle.table_check.proofs.entries.children_wrong.Given as goal

abbrev pub invariant-loop-e : goal.invariant-loop-e
invariant-loop-e l = (l.e ≤ l.entry_count) × ((k : ℕ) → k < l.e → children_below l.entries l.children k ≡ true)

abbrev pub decreases-loop-e : goal.decreases-loop-e
decreases-loop-e l = l.entry_count - l.e
