-- The table of greatest totals, as a list of cells, row after row.
use Rattle.std.specs.Prelude.{◌≡◌, List, ℕ, ◌+◌, ◌-◌, ◌*◌, ◌≤◌, ◌<◌, max, get_or, leb}
use Rattle.laws.specs.Tools.{pick}
use Rattle.defs.specs.Layout.{max_width}
use Rattle.defs.specs.Order.{best}

-- the cells from `from` to `to` were written, cell j with `value j`; those before them are unchanged. Later cells are not spoken of
pub record Written (value : ℕ → ℕ) (from to : ℕ) (before after : List ℕ) : Type 0 where
  pub kept : (j : ℕ) → j < from → get_or after j 0 ≡ get_or before j 0
  pub holds : (j : ℕ) → from ≤ j → j < to → get_or after j 0 ≡ value j

-- the cells from `from` to `to` are totals of a line
unfoldable pub Low : List ℕ → ℕ → ℕ → Type 0
Low sums from to = (j : ℕ) → from ≤ j → j < to → get_or sums j 0 ≤ max_width

-- no items
abbrev pub none : ℕ → ℕ
none j = 0

-- the cell of the same room in the row above
abbrev pub above : List ℕ → ℕ → ℕ → ℕ
above sums width j = get_or sums (j - width) 0

-- the greater of that and the item's cost with the total for the room that it leaves
abbrev pub greater : List ℕ → ℕ → ℕ → ℕ → ℕ
greater sums width cost j = max (above sums width j) (cost + get_or sums (j - (width + cost)) 0)

-- a row that starts at `row`: rooms below the cost, then the others
unfoldable pub next_total : List ℕ → ℕ → ℕ → ℕ → ℕ → ℕ
next_total sums width row cost j = pick (leb cost (j - row)) (greater sums width cost j) (above sums width j)

-- what the item at place p of a block costs
abbrev pub cost_at : List ℕ → List ℕ → ℕ → ℕ
cost_at costs block p = get_or costs (get_or block p 0) 0

-- every cell of the rows for none of `items` items to all of them
unfoldable pub Totals : (ℕ → ℕ) → ℕ → ℕ → List ℕ → Type 0
Totals cost items width sums = (i room : ℕ) → i ≤ items → room < width → get_or sums (i * width + room) 0 ≡ best cost i room
