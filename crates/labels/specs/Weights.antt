-- The cost and the use count of each listed statement, by index, in the working slice.
use Rattle.std.specs.Prelude.{◌≡◌, List, ℕ, ◌+◌, ◌*◌, ◌≤◌, ◌<◌, length}
use Rattle.defs.specs.Table.{word, max_label_length, label_length_in}
use Rattle.table.specs.Records.{StatementIn}
use Rattle.listing.specs.Arrays.{OnlyIn}

-- the listed statements, and the use counts of each, stand before the place where the weights go
pub record WeighReady (ss : List ℕ) (at many uses to : ℕ) (ws : List ℕ) : Type 0 where
  pub apart : at + many ≤ to
  pub room : to + 2 * many ≤ length ws
  pub inside : (i : ℕ) → i < many → StatementIn ss (word ws (at + i))
  pub short : (i : ℕ) → i < many → label_length_in ss (word ws (at + i)) ≤ max_label_length
  pub used : (i : ℕ) → i < many → uses + word ws (at + i) < to

pub record Weighed (ss : List ℕ) (at many uses to : ℕ) (ws ws' : List ℕ) : Type 0 where
  pub costs : (i : ℕ) → i < many → word ws' (to + i) ≡ label_length_in ss (word ws (at + i)) + 1
  pub counts : (i : ℕ) → i < many → word ws' (to + many + i) ≡ word ws (uses + word ws (at + i))
  pub only : OnlyIn to (to + 2 * many) ws ws'

-- indices into a list that stands before them, each replaced by the member that it names
pub record NamesReady (at order many : ℕ) (ws : List ℕ) : Type 0 where
  pub apart : at + many ≤ order
  pub room : order + many ≤ length ws
  pub inside : (i : ℕ) → i < many → word ws (order + i) < many

pub record Named (at order many : ℕ) (ws ws' : List ℕ) : Type 0 where
  pub named : (i : ℕ) → i < many → word ws' (order + i) ≡ word ws (at + word ws (order + i))
  pub only : OnlyIn order (order + many) ws ws'
