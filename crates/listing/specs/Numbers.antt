-- The number of each statement in the theorem's list, plus 1; 0 where it is not there.
use Rattle.std.specs.Prelude.{◌≡◌, false, List, ℕ, ◌+◌, ◌≤◌, ◌<◌, length}
use Rattle.laws.specs.Tools.{pick, member, place, repeats}
use Rattle.laws.specs.Lists.{All}
use Rattle.defs.specs.Table.{word, max_references}
use Rattle.listing.specs.Arrays.{OnlyIn}

-- the s words from `from` on
pub record Numbered (s from : ℕ) (thm ws ws' : List ℕ) : Type 0 where
  pub number : (k : ℕ) → k < s → word ws' (from + k) ≡ pick (member k thm) (place k thm + 1) 0
  pub only : OnlyIn from (from + s) ws ws'

-- a theorem's list that can be numbered, over words that are zero
pub record Plain (s from : ℕ) (thm ws : List ℕ) : Type 0 where
  pub room : from + s ≤ length ws
  pub inside : All (λ k. k < s) thm
  pub once : repeats thm ≡ false
  pub few : length thm ≤ max_references
  pub zero : (k : ℕ) → k < s → word ws (from + k) ≡ 0
