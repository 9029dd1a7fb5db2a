-- What the lists came to: an end, whatever would have come next, or what the packed list gave, kept in the slices.
use Rattle.std.specs.Prelude.{◌≡◌, ℕ, ◌≤◌, List, length, take, Result, Ok, Err}
use Rattle.verify.specs.Gave.{Gave}
use Rattle.verify.specs.declared.verdict.Verdict.{Verdict}
use Rattle.verify.specs.Verdicts.{told}
use Rattle.verify.specs.declared.walks.Kept.{Kept}
use Rattle.verify.specs.declared.verdict.Disagreement.{Disagreement}

-- so many words at the front of a slice
pub record Front (n : ℕ) (slice front : List ℕ) : Type 0 where
  pub fits : n ≤ length slice
  pub holds : take n slice ≡ front

-- the way so far leaves the verdict to what comes next; the packed list, its entries and their children stand in their slices
pub record Held (way : Verdict → Verdict) (list read : Gave) (packed built kids : List ℕ) (k : Kept) : Type 0 where
  pub goes_on : (next : Verdict) → way next ≡ next
  pub packed_kept : Front k.packed packed list.first
  pub built_kept : Front k.built built read.first
  pub kids_kept : Front k.kids kids read.second

unfoldable pub Came : (way : Verdict → Verdict) (list read : Gave) (packed built kids : List ℕ) → Result Kept Disagreement → Type 0
Came way list read packed built kids (Err disagreement) = (next : Verdict) → way next ≡ told disagreement
Came way list read packed built kids (Ok k) = Held way list read packed built kids k
