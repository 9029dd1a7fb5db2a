-- Where an entry is put: at an exactly equal one, behind the entries built, or nowhere; and the two outputs after it.
use Rattle.std.specs.Prelude.{◌≡◌, List, [], ◌∷◌, ◌++◌, ℕ, ◌+◌, ◌*◌, ◌/◌, ◌≤◌, length, take, ltb, Option, Some, None}
use Rattle.laws.specs.Tools.{pick}
use Rattle.defs.specs.Table.{entry_size, max_child_refs}
use Rattle.defs.specs.Replay.{lookup}
use Rattle.store.specs.declared.place.Store.{Store}
use Rattle.store.specs.declared.place.Placed.{Placed}
use Rattle.store.specs.Store.{holding, BuiltOk, full}

-- no room, or the entry's number, and the entries and children as they then are
pub data Place : Type 0 where
  no_room : Place
  placed : (built kids : List ℕ) (e : ℕ) → Place

unfoldable pub place : (built kids : List ℕ) (roomBuilt roomKids k : ℕ) (wanted : List ℕ) → Place
place built kids roomBuilt roomKids k wanted =
    let e : ℕ = lookup (holding built kids) k wanted in
    pick (ltb e (length built / entry_size)) (placed built kids e)
    (pick (full roomBuilt roomKids (length built) (length kids) (length wanted)) no_room
    (placed (built ++ k ∷ length kids ∷ length wanted ∷ []) (kids ++ wanted) e))

-- what the code answers, with what the two outputs hold
unfoldable pub place_of : (es cs : List ℕ) → Option Placed → Place
place_of es cs (Some p) = placed (take p.store.built es) (take p.store.kids cs) p.entry.0
place_of es cs None = no_room

-- what is built stands at the front of the two outputs
pub record StoreOk (es cs : List ℕ) (s : Store) : Type 0 where
  pub built_room : s.built ≤ length es
  pub kids_room : s.kids ≤ length cs
  pub whole : s.built ≡ entry_size * (s.built / entry_size)
  pub few_kids : s.kids ≤ max_child_refs
  pub ok : BuiltOk (take s.built es) (take s.kids cs)

-- and still does after an entry has its place
unfoldable pub Kept : (es cs : List ℕ) → Option Placed → Type 0
Kept es cs (Some p) = StoreOk es cs p.store
Kept es cs None = Unit {0}

-- the outputs with one entry more
pub record Appended (k : ℕ) (wanted es cs : List ℕ) (s : Store) (es' cs' : List ℕ) (r : Store) : Type 0 where
  pub built_is : r.built ≡ s.built + entry_size
  pub kids_is : r.kids ≡ s.kids + length wanted
  pub entries_are : take r.built es' ≡ take s.built es ++ k ∷ s.kids ∷ length wanted ∷ []
  pub children_are : take r.kids cs' ≡ take s.kids cs ++ wanted
