-- What filling one line does to a block: the chosen members are emitted, the others stay.
use Rattle.std.specs.Prelude.{Bool, ◌&&◌, ◌||◌, not, List, map, ℕ, ◌-◌, ◌≤◌, length, get_or, eqb, leb, ltb}
use Rattle.laws.specs.Tools.{pick, keep, member, count}
use Rattle.defs.specs.Order.{chosen}

-- the members of a block at these places
abbrev pub members_at : List ℕ → List ℕ → List ℕ
members_at block places = map (λ p. get_or block p 0) places

-- the block without them, in order
abbrev pub others : List ℕ → List ℕ → List ℕ
others block choice = keep (λ j. not (member j choice)) block

-- no number stands twice
abbrev pub Once : List ℕ → Type 0
Once xs = (x : ℕ) → count x xs ≤ 1

-- the next of the places, of which `gone` are behind, is p
abbrev pub is_next : List ℕ → ℕ → ℕ → Bool
is_next places gone p = ltb gone (length places) && eqb (get_or places gone 0) p

-- where the next label goes on the line after a choice
unfoldable pub position_after : ℕ → ℕ → ℕ → ℕ
position_after W chosen position = pick (eqb chosen 0 || leb (W - 1) position) 0 position
