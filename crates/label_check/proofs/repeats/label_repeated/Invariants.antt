-- `label_repeated` searches pairs. Invariants: the label of k is none of those below j, no statement below k has an earlier label, and the
-- labels below k fell into their buckets. A hit decides; what is not compared is unlike. Assumes nothing.
use Prim.Native.Nat.{ℕ, ◌<◌}
use mathlib.Core.Bool.{false}
use mathlib.Core.Path.{◌≡◌}
use Rattle.laws.specs.Tools.{same}
use Rattle.defs.specs.Check.{label_again}
use Rattle.defs.specs.Table.{label_in}
use Rattle.label_check.proofs.BucketLaws.{Fallen}
use Rattle.label_check.proofs.repeats.label_repeated.Given as goal

abbrev pub invariant-loop-j : goal.invariant-loop-j
invariant-loop-j l = (l.found ≡ false) × ((i : ℕ) → i < l.j → same (label_in l.statements l.labels i) (label_in l.statements l.labels l.k) ≡ false)

abbrev pub invariant-search : goal.invariant-search
invariant-search l = (l.found ≡ false) × ((i : ℕ) → i < l.k → label_again l.statements l.labels i ≡ false) × Fallen (label_in l.statements l.labels) l.marks l.k
