-- Steps in a slice of words, and the numbers of the statements: what the letters of such steps are.
use Rattle.std.specs.Prelude.{◌≡◌, List, ℕ, ◌+◌, ◌*◌, ◌≤◌, ◌<◌, length}
use Rattle.laws.specs.Tools.{pick, part, member, place}
use Rattle.laws.specs.Lists.{All}
use Rattle.laws.specs.Puts.{farthest, Grows}
use Rattle.defs.specs.Table.{word, max_word}
use Rattle.defs.specs.Steps.{Step, step_size, flat}
use Rattle.defs.specs.Letters.{step_number, step_letters, letters_of}

-- a step has fewer letters than this: its code and a `Z`
abbrev pub most_step : ℕ
most_step = 14

-- the number of a statement: place in the theorem's list; else its length plus place in the label list
unfoldable pub number_of : (thm labels : List ℕ) → ℕ → ℕ
number_of thm labels k = pick (member k thm) (place k thm) (length thm + place k labels)

-- the words say a step t: its own words at `at`, and the number of its statement plus 1
pub record Says (at numbers both : ℕ) (ws thm labels : List ℕ) (t : Step) : Type 0 where
  pub lengths : both ≡ length thm + length labels
  pub ref_is : word ws at ≡ t.ref
  pub mark_is : word ws (at + 1) ≡ t.mark
  pub stmt_is : word ws (at + 2) ≡ t.stmt
  pub number_in : t.ref ≡ 0 → numbers + t.stmt < length ws
  pub number_is : t.ref ≡ 0 → word ws (numbers + t.stmt) ≡ number_of thm labels t.stmt + 1

-- some step is said, and its number fits
pub record StepReady (at numbers both : ℕ) (ws : List ℕ) : Type 0 where
  pub step_in : at + step_size ≤ length ws
  pub thm : List ℕ
  pub labels : List ℕ
  pub t : Step
  pub says : Says at numbers both ws thm labels t
  pub few : both + t.ref ≤ max_word

-- whatever step is said, r is its number; its letters are written
abbrev pub NumberIs : (at numbers both r : ℕ) (ws : List ℕ) → Type 0
NumberIs at numbers both r ws = (thm labels : List ℕ) (t : Step) → Says at numbers both ws thm labels t → r ≡ step_number thm labels t

pub record StepWrote (at numbers both end end' : ℕ) (ws before after : List ℕ) : Type 0 where
  pub near : end' ≤ end + most_step
  pub wrote : (thm labels : List ℕ) (t : Step) → Says at numbers both ws thm labels t → Grows (step_letters thm labels t) end end' before after

-- ---- a list of steps

-- the words say each step of a list
pub record SaysAll (steps many numbers both : ℕ) (ws thm labels : List ℕ) (ts : List Step) : Type 0 where
  pub lengths : both ≡ length thm + length labels
  pub as_many : many ≡ length ts
  pub holds : part steps (step_size * many) ws ≡ flat ts
  pub named : All (λ t. t.ref ≡ 0 → (numbers + t.stmt < length ws) × (word ws (numbers + t.stmt) ≡ number_of thm labels t.stmt + 1)) ts

pub record ListReady (steps many numbers both : ℕ) (ws : List ℕ) : Type 0 where
  pub inside : steps + step_size * many ≤ length ws
  pub short : most_step * many + most_step < farthest
  pub thm : List ℕ
  pub labels : List ℕ
  pub ts : List Step
  pub says : SaysAll steps many numbers both ws thm labels ts
  pub few : All (λ t. both + t.ref ≤ max_word) ts

pub record ListWrote (steps many numbers both end : ℕ) (ws before after : List ℕ) : Type 0 where
  pub near : end ≤ most_step * many
  pub wrote : (thm labels : List ℕ) (ts : List Step) → SaysAll steps many numbers both ws thm labels ts → Grows (letters_of thm labels ts) 0 end before after
