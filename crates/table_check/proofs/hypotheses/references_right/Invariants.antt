-- `references_right` tests all references. Invariant: every reference passed is right.
-- One that is not decides at once. Assumes nothing.
use Prim.Native.Nat.{ℕ, ◌≤◌, ◌<◌}
use mathlib.Core.Bool.{true}
use mathlib.Core.Path.{◌≡◌}
use lib.ListN.{length}
use Rattle.defs.specs.Check.{reference_ok}
use Rattle.table_check.proofs.hypotheses.references_right.Given as goal

abbrev pub invariant-loop-i : goal.invariant-loop-i
invariant-loop-i l = (l.i ≤ length l.hyps) × ((k : ℕ) → k < l.i → reference_ok l.statements l.hyps l.count k ≡ true)
