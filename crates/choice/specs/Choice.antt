-- What `choose` answers.
use Rattle.std.specs.Prelude.{◌≡◌, List, map, ℕ, ◌≤◌, length, drop}
use Rattle.laws.specs.Tools.{total}
use Rattle.defs.specs.Order.{choose}
use Rattle.choice.specs.Rows.{cost_at}

-- the chosen places of a block stand in the cells from `start` on, and their items cost `sum` together
pub record Chosen (costs block : List ℕ) (room start sum : ℕ) (cells : List ℕ) : Type 0 where
  pub inside : start ≤ length cells
  pub places : drop start cells ≡ choose (cost_at costs block) (length block) room
  pub cost : sum ≡ total (map (cost_at costs block) (drop start cells))
