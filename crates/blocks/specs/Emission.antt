-- The order in which the labels are emitted, by their indices: from the cost and the use count of each.
use Rattle.std.specs.Prelude.{◌≡◌, List, [], ℕ, ◌+◌, ◌*◌, ◌≤◌, ◌<◌, length, get_or, take, drop}
use Rattle.laws.specs.Tools.{range, sort_by}
use Rattle.laws.specs.Lists.{All}
use Rattle.defs.specs.Table.{max_statements}
use Rattle.defs.specs.Layout.{max_width}
use Rattle.defs.specs.Order.{Counter, start_at, cutoffs, blocks_from, Filling, fill_blocks}
use Rattle.blocks.specs.Line.{Once}
use Rattle.sorts.specs.Sorted.{more_used}

-- the blocks of these labels filled one after the other: line position starts at 2 once
unfoldable pub filled_from : (ℕ → ℕ) → ℕ → ℕ → List ℕ → Filling
filled_from cost W floatings labels =
    let c : Counter = start_at cutoffs floatings in
    fill_blocks cost W (blocks_from c.ahead c.at [] labels) (record { position = 2; emitted = [] })

-- all indices by use count, then filled
unfoldable pub index_order : List ℕ → List ℕ → ℕ → ℕ → List ℕ
index_order costs uses floatings W = (filled_from (λ i. get_or costs i 0) W floatings (sort_by (more_used uses) (range 0 (length costs)))).emitted

-- each label fits on a line of its own, no cutoff past the table's end is needed, and there are cells for the choice
pub record Fitting (n W floatings : ℕ) (work : List ℕ) (cells : ℕ) : Type 0 where
  pub narrow : W ≤ max_width
  pub begun : 2 ≤ W
  pub few : floatings + n ≤ max_statements
  pub whole : length work ≡ n + n + n
  pub costs : All (λ c. (1 ≤ c) × (c ≤ W)) (take n work)
  pub room : (n + 1) * (W + 1) ≤ cells

-- the labels to be put into blocks: indices, each once
pub record Labels (n : ℕ) (work : List ℕ) : Type 0 where
  pub members : All (λ j. j < n) (drop (n + n) work)
  pub once : Once (drop (n + n) work)
