-- `statements_wrong` is test 2. Invariant: the running sums are those of the statements passed, and each of their lines is kept.
-- A line that is not kept decides at once; after the loop the sums must be the whole places. Assumes nothing.
use Prim.Native.Nat.{ℕ, ◌≤◌, ◌<◌}
use Rattle.table_check.specs.Right.{TakenBefore, StatementRight}
use Rattle.table_check.proofs.statements.statements_wrong.Given as goal

abbrev pub invariant-loop-k : goal.invariant-loop-k
invariant-loop-k l =
    (l.k ≤ l.count) × (TakenBefore l.statements l.references l.bytes l.k l.taken.labels l.taken.hyps) × ((j : ℕ) → j < l.k → StatementRight l.statements l.references l.bytes j)
