-- The label list numbered: the theorem's list length plus place in the label list (document 01).
use Rattle.std.specs.Prelude.{◌≡◌, false, List, ℕ, ◌+◌, ◌≤◌, ◌<◌, length}
use Rattle.laws.specs.Tools.{pick, member, place, repeats}
use Rattle.laws.specs.Lists.{All}
use Rattle.defs.specs.Table.{word, max_word}
use Rattle.listing.specs.Arrays.{OnlyIn}
use Rattle.listing.specs.Kinds.{Holds}

-- a label list of `many` statements that stands from `at` on, behind the numbers
pub record LabelsReady (base at many s from : ℕ) (ws : List ℕ) : Type 0 where
  pub apart : from + s ≤ at
  pub room : at + many ≤ length ws
  pub few : base + many < max_word
  pub list : List ℕ
  pub as_many : many ≡ length list
  pub holds : Holds at list ws
  pub inside : All (λ k. k < s) list
  pub once : repeats list ≡ false

-- whatever label list it is, its statements are numbered from `base` on, and the others keep their number
pub record LabelsNumbered (base at many s from : ℕ) (ws ws' : List ℕ) : Type 0 where
  pub number : (list : List ℕ) → many ≡ length list → Holds at list ws → All (λ k. k < s) list → repeats list ≡ false
      → (k : ℕ) → k < s → word ws' (from + k) ≡ pick (member k list) (base + place k list + 1) (word ws (from + k))
  pub only : OnlyIn from (from + s) ws ws'
