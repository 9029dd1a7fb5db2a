-- Labels of the label list: what writing them asks for, and how many bytes they are at the most.
use Rattle.std.specs.Prelude.{ℕ, ◌+◌, ◌*◌, ◌≤◌, ◌<◌, List, length}
use Rattle.laws.specs.Puts.{farthest}
use Rattle.defs.specs.Table.{word, max_label_length, label_start_in, label_length_in}
use Rattle.defs.specs.Sections.{StatementsOk}
use Rattle.table.specs.Records.{StatementIn}
use Rattle.layout.specs.Laid.{most_before}
use Rattle.layout.specs.declared.lines.Line.{Line}
use Rattle.compressed.specs.declared.places.Places.{Places}

-- a label, and what stands before it
abbrev pub most_label : ℕ
most_label = most_before + max_label_length

-- so many labels end below the farthest place
abbrev pub NearLabels : ℕ → Line → Type 0
NearLabels many line = line.end + most_label * many < farthest

-- the record of statement k and its label stand inside
pub record LabelReady (ss b : List ℕ) (k : ℕ) : Type 0 where
  pub record_in : StatementIn ss k
  pub label_is_in : label_start_in ss k + label_length_in ss k ≤ length b
  pub short : label_length_in ss k ≤ max_label_length

-- a label list of statement numbers, over a statement section with its label bytes
pub record LabelsReady (ss b : List ℕ) (p : Places) (ws : List ℕ) : Type 0 where
  pub s : ℕ
  pub statements : StatementsOk ss b s
  pub list_in : p.list + p.listed ≤ length ws
  pub below : (i : ℕ) → i < p.listed → word ws (p.list + i) < s
