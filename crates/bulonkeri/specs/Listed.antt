-- What the printing of labels asks: the record of the statement stands in its section, and its label in the label bytes.
use Rattle.std.specs.Prelude.{◌≡◌, List, ℕ, ◌+◌, ◌<◌, ◌≤◌, length, get_or}
use Rattle.defs.specs.Table.{label_start_in, label_length_in, statements}
use Rattle.defs.specs.Check.{table_refusal}
use Rattle.table.specs.Records.{StatementIn}

abbrev pub LabelIn : (ss b : List ℕ) (k : ℕ) → Type 0
LabelIn ss b k = StatementIn ss k × (label_start_in ss k + label_length_in ss k ≤ length b)

-- a list of statements of a table that is not refused
pub record Listed (w b list : List ℕ) : Type 0 where
  pub ok : table_refusal w b ≡ 0
  pub below : (i : ℕ) → i < length list → get_or list i 0 < statements w
