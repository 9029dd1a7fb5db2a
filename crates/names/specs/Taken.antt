-- Which numbers are labels: 1 at each that is one, 0 at each that is not.
use Rattle.std.specs.Prelude.{ℕ, ◌/◌, List, map, length}
use Rattle.laws.specs.Tools.{pick, range, same}
use Rattle.defs.specs.Table.{word, stmt_size}
use Rattle.defs.specs.Names.{digits, is_label_in}

-- how many statements a statement section has
abbrev pub statements_in : List ℕ → ℕ
statements_in ss = length ss / stmt_size

-- the numbers below n
unfoldable pub taken_by : (ss b : List ℕ) (s : ℕ) → ℕ → List ℕ
taken_by ss b s n = map (λ v. pick (is_label_in ss b s (digits v)) 1 0) (range 0 n)

-- one label more
unfoldable pub with_label : List ℕ → List ℕ → List ℕ
with_label label taken = map (λ v. pick (same label (digits v)) 1 (word taken v)) (range 0 (length taken))
