-- What tests 1 and 2 have shown of the labels, as facts: what test 3 requires.
-- Document 01's words for each stand beside the rules in module Check of crate defs.
use Rattle.std.specs.Prelude.{◌≡◌, List, ℕ, ◌+◌, ◌*◌, ◌≤◌, ◌<◌, length}
use Rattle.laws.specs.Tools.{sum_below}
use Rattle.defs.specs.Table.{stmt_size, label_start_in, label_length_in}

-- the labels of s statements follow each other and fill the label bytes
pub record LabelsRight (ss b : List ℕ) (s : ℕ) : Type 0 where
  pub records : length ss ≡ stmt_size * s
  pub start : (k : ℕ) → k < s → label_start_in ss k ≡ sum_below (label_length_in ss) k
  pub inside : (k : ℕ) → k < s → label_start_in ss k + label_length_in ss k ≤ length b
  pub fill : sum_below (label_length_in ss) s ≡ length b
