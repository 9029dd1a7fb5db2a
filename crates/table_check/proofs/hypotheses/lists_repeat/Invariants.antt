-- `lists_repeat` looks into the list of each statement. Invariant: no list passed has a word twice.
-- What is lent to `repeated` is the list, since the record names its start and count. Assumes nothing.
use Prim.Native.Nat.{ℕ, ◌≤◌, ◌<◌}
use mathlib.Core.Bool.{false}
use mathlib.Core.Path.{◌≡◌}
use Rattle.defs.specs.Check.{hyps_repeat}
use Rattle.table_check.proofs.hypotheses.lists_repeat.Given as goal

abbrev pub invariant-loop-k : goal.invariant-loop-k
invariant-loop-k l = (l.k ≤ l.count) × ((i : ℕ) → i < l.k → hyps_repeat l.statements l.hyps i ≡ false)
