-- What a table must show so that the theorem's list can be read.
use Rattle.std.specs.Prelude.{◌≡◌, List, ℕ, ◌*◌, ◌<◌, length}
use Rattle.defs.specs.Table.{word, stmt_size, statements, theorem, statement_words, hyp_words}
use Rattle.defs.specs.Checked.{HeaderOk}
use Rattle.defs.specs.Sections.{HypsOk}
use Rattle.table.specs.Records.{StatementIn}

-- the theorem is a statement, and the lists of the statements stand in the hypothesis section
pub record TheoremOk (w : List ℕ) : Type 0 where
  pub header : HeaderOk w
  pub long : length (statement_words w) ≡ stmt_size * statements w
  pub below : theorem w < statements w
  pub hyps : HypsOk (statement_words w) (hyp_words w) (statements w)

-- each member of a list is a statement of the section
pub record InStatements (ss list : List ℕ) : Type 0 where
  pub inside : (i : ℕ) → i < length list → StatementIn ss (word list i)
