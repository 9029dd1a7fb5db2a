-- A table with new entries and children, as crate roundtrip defines it: its header, and what writing it asks.
use Rattle.std.specs.Prelude.{◌≡◌, refl, List, [], ◌∷◌, ◌++◌, ℕ, ◌+◌, ◌-◌, ◌*◌, ◌/◌, ◌≤◌, length}
use Rattle.defs.specs.Table.{header_size, entry_size, statements, references, theorem, hyps_from, entries_from, statement_words, hyp_words}
use Rattle.defs.specs.Checked.{HeaderOk}
use Rattle.roundtrip.specs.Terms.{new_table}

-- three words for each of 8,192 entries
abbrev pub most_entry_words : ℕ
most_entry_words = 24576

abbrev pub most_child_words : ℕ
most_child_words = 65535

pub record Renewable (w built kids : List ℕ) : Type 0 where
  pub header : HeaderOk w
  pub few : length built ≤ most_entry_words
  pub few_children : length kids ≤ most_child_words

abbrev pub new_header : (w built kids : List ℕ) → List ℕ
new_header w built kids =
    let n : ℕ = length built / entry_size in
    statements w ∷ references w ∷ n ∷ length kids ∷ header_size ∷ hyps_from w ∷ entries_from w ∷ (entries_from w + entry_size * n) ∷ theorem w ∷ (n - 1) ∷ []

-- the new table is that header, the old statements and hypotheses, the new entries and children
pub new_table_lem : (w built kids : List ℕ) → new_table w built kids ≡ new_header w built kids ++ (statement_words w ++ (hyp_words w ++ (built ++ kids)))
unfolding new_table
new_table_lem w built kids = refl
