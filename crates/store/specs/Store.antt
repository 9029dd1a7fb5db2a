-- Entries as a replay builds them in its two outputs: what is built so far, and what finding or appending an entry makes of it.
use Rattle.std.specs.Prelude.{◌≡◌, refl, Bool, ◌&&◌, ◌||◌, List, [], ℕ, ◌+◌, ◌*◌, ◌/◌, ◌≤◌, ◌<◌, length, eqb, ltb, Option, Some, None}
use Rattle.std.proofs.Common.{arith}
use Rattle.laws.specs.Tools.{pick, same, first_from}
use Rattle.laws.specs.Below.{first_high}
use Rattle.defs.specs.Table.{entry_size, max_entries, max_child_refs, entry_stmt_in, child_start_in, child_count_in, children_in}
use Rattle.defs.specs.Graph.{graph_in}
use Rattle.defs.specs.Replay.{Replay, lookup}
use Rattle.table.specs.declared.numbers.EntryNo.{EntryNo}

-- a replay of which only the entries matter
abbrev pub holding : (built kids : List ℕ) → Replay
holding built kids = record { built = built; kids = kids; stack = []; named = [] }

-- few enough that an entry's number fits, each with its children inside
pub record BuiltOk (built kids : List ℕ) : Type 0 where
  pub few : length built ≤ entry_size * max_entries
  pub inside : (e : ℕ) → e < length built / entry_size → child_start_in built e + child_count_in built e ≤ length kids

-- entry e is the one asked for: its statement and its children
unfoldable pub is_entry : (built kids : List ℕ) (k : ℕ) (wanted : List ℕ) → ℕ → Bool
is_entry built kids k wanted e = eqb (entry_stmt_in built e) k && same (children_in built kids e) wanted

-- the entry with this number, where there is one
unfoldable pub entry_below : (n e : ℕ) → Option EntryNo
entry_below n e = pick (ltb e n) (Some (record { 0 = e })) None

-- 15: an entry to be appended, 3 words, or its children do not fit what is left of their slices, or would pass n's or c's limit
unfoldable pub full : (roomBuilt roomKids built kids count : ℕ) → Bool
full roomBuilt roomKids built kids count =
    ltb roomBuilt (built + entry_size)
    || ltb roomKids (kids + count)
    || ltb max_entries (built / entry_size + 1)
    || ltb max_child_refs (kids + count)

-- ---- the search is for the first entry that is the one asked for, and gives the number of entries at most

pub lookup_all : (built kids : List ℕ) (k : ℕ) (wanted : List ℕ)
    → first_from (is_entry built kids k wanted) 0 (length built / entry_size) ≡ lookup (holding built kids) k wanted
unfolding lookup graph_in is_entry
lookup_all built kids k wanted = refl

pub lookup_most : (built kids : List ℕ) (k : ℕ) (wanted : List ℕ) → lookup (holding built kids) k wanted ≤ length built / entry_size
lookup_most built kids k wanted = omega (arith, lookup_all built kids k wanted, first_high (is_entry built kids k wanted) 0 (length built / entry_size))
