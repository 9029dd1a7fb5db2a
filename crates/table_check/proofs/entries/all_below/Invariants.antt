-- `all_below` tests a list of children. Invariant: every child passed is below the parent.
-- One that is not decides at once. Assumes nothing.
use Prim.Native.Nat.{ℕ, ◌≤◌, ◌<◌}
use mathlib.Core.Bool.{true}
use mathlib.Core.Path.{◌≡◌}
use lib.Dec.{ltb}
use lib.ListN.{length, get_or}
use Rattle.table_check.proofs.entries.all_below.Given as goal

abbrev pub invariant-loop-c : goal.invariant-loop-c
invariant-loop-c l = (l.c-index ≤ length l.children) × ((k : ℕ) → k < l.c-index → ltb (get_or l.children k 0) l.parent.0 ≡ true)
