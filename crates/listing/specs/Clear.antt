-- Words from a place to another made zero, and no others changed.
use Rattle.std.specs.Prelude.{◌≡◌, List, ℕ, ◌≤◌, ◌<◌, length}
use Rattle.defs.specs.Table.{word}
use Rattle.listing.specs.Arrays.{OnlyIn}

abbrev pub Inside : ℕ → ℕ → List ℕ → Type 0
Inside from to ws = (from ≤ to) × (to ≤ length ws)

pub record Cleared (from to : ℕ) (ws ws' : List ℕ) : Type 0 where
  pub zero : (j : ℕ) → from ≤ j → j < to → word ws' j ≡ 0
  pub only : OnlyIn from to ws ws'
