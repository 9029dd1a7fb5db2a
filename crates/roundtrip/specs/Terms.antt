-- The terms of demand 3: the new table that was read, and what it means that a step list is read as it and that letters decode to a list.
use Rattle.std.specs.Prelude.{◌≡◌, ℕ, ◌+◌, ◌-◌, ◌*◌, ◌/◌, ◌≤◌, List, [], ◌∷◌, ◌++◌, length, get_or, take}
use Rattle.laws.specs.Tools.{over, over_zero, zeroed}
use Rattle.defs.specs.Table.{header_size, entry_size, statements, references, entries, child_refs, theorem, hyps_from, entries_from, statement_words, hyp_words}
use Rattle.defs.specs.Steps.{Step, step_size, flat}
use Rattle.defs.specs.Outcome.{Outcome}
use Rattle.defs.specs.Replay.{replay_outcome}
use Rattle.defs.specs.Decode.{decode_outcome}

-- the new table: the statements and hypotheses of w, the entries and children read, QED the last entry
unfoldable pub new_table : (w built kids : List ℕ) → List ℕ
new_table w built kids =
    let n : ℕ = length built / entry_size in
    (statements w ∷ references w ∷ n ∷ length kids ∷ header_size ∷ hyps_from w ∷ entries_from w ∷ (entries_from w + entry_size * n) ∷ theorem w ∷ (n - 1) ∷ [])
    ++ (statement_words w ++ (hyp_words w ++ (built ++ kids)))

-- reading the step list in `words` (five to a step) gives the new entries `built` and their children `kids`, whenever there is room
-- for as many entries and children as the table has, and the working room that document 01 asks: twice the steps
unfoldable pub Reads : (w b words built kids : List ℕ) → Type 0
Reads w b words built kids =
    (work outBuilt outKids : List ℕ) → 2 * (length words / step_size) ≤ length work → entry_size * entries w ≤ length outBuilt → child_refs w ≤ length outKids
    → replay_outcome w b words work outBuilt outKids
    ≡ record {
      number = 0;
      lengths = length built ∷ length kids ∷ [];
      outs = over_zero built outBuilt ∷ over_zero kids outKids ∷ [];
      works = zeroed work ∷ [];
    }

-- the letters with their label list decode to `list`, number for number, whenever there is room for its steps
unfoldable pub Decodes : (w b labels letters : List ℕ) (list : List Step) → Type 0
Decodes w b labels letters list =
    (out : List ℕ) → length (flat list) ≤ length out
    → decode_outcome w b labels letters out
    ≡ record { number = 0; lengths = length (flat list) ∷ []; outs = over (flat list) out ∷ []; works = [] }

-- the words that an operation with one output wrote
unfoldable pub written : Outcome → List ℕ
written o = take (get_or o.lengths 0 0) (get_or o.outs 0 [])
