-- `entries_wrong` is test 5. Invariant: the running sum is that of the entries passed, and each of their lines is kept.
-- A line that is not kept decides at once; after the loop the sum must be the whole place. Assumes nothing.
use Prim.Native.Nat.{ℕ, ◌≤◌, ◌<◌, ◌-◌}
use Rattle.table_check.specs.Right.{ChildrenBefore, EntryRight}
use Rattle.table_check.proofs.entries.entries_wrong.Given as goal

abbrev pub invariant-loop-e : goal.invariant-loop-e
invariant-loop-e l =
    (l.e ≤ l.entry_count) × (ChildrenBefore l.entries l.child_refs l.e l.taken) × ((k : ℕ) → k < l.e → EntryRight l.statements l.entries l.count l.child_refs k)

abbrev pub decreases-loop-e : goal.decreases-loop-e
decreases-loop-e l = l.entry_count - l.e
