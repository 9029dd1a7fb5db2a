-- `repeated` looks for each word among those before it. Invariant: no word below i stands at an earlier place.
-- A hit decides at once. Assumes nothing.
use Prim.Native.Nat.{ℕ, ◌≤◌, ◌<◌}
use mathlib.Core.Path.{◌≡◌}
use lib.ListN.{length, get_or}
use Rattle.table_check.proofs.hypotheses.repeated.Given as goal

abbrev pub invariant-loop-i : goal.invariant-loop-i
invariant-loop-i l = (l.i ≤ length l.list) × ((k : ℕ) → k < l.i → (j : ℕ) → j < k → get_or l.list j 0 ≡ get_or l.list k 0 → ⊥)
