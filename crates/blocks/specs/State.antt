-- The working slice seen while a block is filled, and what filling a line and a block make of it.
use Rattle.std.specs.Prelude.{◌≡◌, List, [], ℕ, ◌+◌, ◌-◌, ◌*◌, ◌≤◌, ◌<◌, length, get_or, take, drop}
use Rattle.laws.specs.Tools.{part}
use Rattle.laws.specs.Lists.{All}
use Rattle.defs.specs.Table.{max_statements}
use Rattle.defs.specs.Layout.{max_width}
use Rattle.defs.specs.Order.{Filling, chosen, emit, fill_block}
use Rattle.blocks.specs.Line.{others, Once}

-- the costs, by index; the line position with the indices emitted so far; the members of the block that are not emitted yet
pub record State : Type 0 where
  pub costs : List ℕ
  pub line : Filling
  pub block : List ℕ

-- in the working slice: n costs; behind them the indices emitted, up to `at`; `count` members from `start` on
abbrev pub state : (n start : ℕ) → List ℕ → (position at count : ℕ) → State
state n start w position at count =
    record {
      costs = take n w;
      line = record { position = position; emitted = drop n (take at w) };
      block = part start count w;
    }

abbrev pub price : State → ℕ → ℕ
price s i = get_or s.costs i 0

-- the members that go on the line
abbrev pub choice_of : ℕ → State → List ℕ
choice_of W s = chosen (price s) W s.block s.line.position

-- they are emitted, and the others stay
unfoldable pub line_filled : ℕ → State → State
line_filled W s = record { costs = s.costs; line = emit (price s) W (choice_of W s) s.line; block = others s.block (choice_of W s) }

-- the block is emitted whole
unfoldable pub block_filled : ℕ → State → State
block_filled W s = record { costs = s.costs; line = fill_block (price s) W s.block s.line; block = [] }

-- what a line needs: emitted indices stand before the block, whose members are indices, none twice; there are cells for the choice
pub record Ready (n W start position at count : ℕ) (work : List ℕ) (cells : ℕ) : Type 0 where
  pub narrow : W ≤ max_width
  pub some : 0 < W
  pub on_line : position ≤ W
  pub few : count ≤ max_statements
  pub behind : n ≤ at
  pub before : at + count ≤ start
  pub inside : start + count ≤ length work
  pub members : All (λ j. j < n) (part start count work)
  pub once : Once (part start count work)
  pub room : (count + 1) * (W + 1) ≤ cells

-- what filling a line leaves
pub record LineDone (n W start position at count : ℕ) (before : List ℕ) (position' at' count' : ℕ) (after : List ℕ) : Type 0 where
  pub filled : state n start after position' at' count' ≡ line_filled W (state n start before position at count)
  pub later : drop (start + count) after ≡ drop (start + count) before
  pub moved : at' + count' ≡ at + count
  pub onward : at ≤ at'

-- what a block needs: it stands behind what is emitted so far, each of its members once, and each label fits on a line of its own
pub record BlockReady (n W start end position : ℕ) (work : List ℕ) (cells : ℕ) : Type 0 where
  pub narrow : W ≤ max_width
  pub some : 0 < W
  pub on_line : position ≤ W
  pub few : n ≤ max_statements
  pub behind : n + n ≤ start
  pub from_start : start ≤ end
  pub before : end ≤ start + n
  pub inside : end ≤ length work
  pub costs : All (λ c. (1 ≤ c) × (c ≤ W)) (take n work)
  pub members : All (λ j. j < n) (part start (end - start) work)
  pub once : Once (part start (end - start) work)
  pub room : (n + 1) * (W + 1) ≤ cells

-- what filling it leaves
pub record BlockDone (n W start end position : ℕ) (before : List ℕ) (position' : ℕ) (after : List ℕ) : Type 0 where
  pub filled : state n start after position' (end - n) 0 ≡ block_filled W (state n start before position (start - n) (end - start))
  pub later : drop end after ≡ drop end before
