-- The names of marks in a slice: mark m's at place m.
use Rattle.std.specs.Prelude.{◌≡◌, ℕ, ◌+◌, ◌<◌, ◌≤◌, List, drop}
use Rattle.defs.specs.Table.{word}
use Rattle.defs.specs.Names.{name_number_in}
use Rattle.names.specs.Taken.{statements_in}

-- how many words the names of `count` marks are computed in: no name is more than s past its mark (law `name_most`)
abbrev pub names_length : List ℕ → ℕ → ℕ
names_length ss count = count + statements_in ss + 1

abbrev pub Named : (ss b : List ℕ) (count : ℕ) → List ℕ → Type 0
Named ss b count names = (m : ℕ) → 0 < m → m ≤ count → word names m ≡ name_number_in ss b (statements_in ss) m

-- what is left in a slice: the names, and past those words all that was there before
pub record NamesLeft (ss b : List ℕ) (count : ℕ) (before after : List ℕ) : Type 0 where
  pub named : Named ss b count after
  pub rest : drop (names_length ss count) after ≡ drop (names_length ss count) before
