-- What a function that is lent a whole table has for those that are lent its statement section: what they require, and what their names are.
use Rattle.std.specs.Prelude.{◌≡◌, ℕ, ◌<◌, ◌≤◌, List}
use Rattle.std.proofs.Math.Path.{ap}
use Rattle.std.proofs.Common.{arith}
use Rattle.defs.specs.Table.{word, statements, statement_words}
use Rattle.defs.specs.Check.{table_refusal}
use Rattle.defs.specs.Sections.{StatementsOk, statements_ok}
use Rattle.defs.specs.Names.{digits, name}
use Rattle.names.specs.Taken.{statements_in}
use Rattle.names.specs.Named.{Named}

module _ (w b : List ℕ) (ok : table_refusal w b ≡ 0) where
  pub statements_in_lem : statements_in (statement_words w) ≡ statements w
  statements_in_lem = omega (arith, (statements_ok w b ok).long)

  pub section_ok : StatementsOk (statement_words w) b (statements_in (statement_words w))
  section_ok = rw statements_in_lem (statements_ok w b ok)

  -- the decimal of the word at place m is the name of mark m
  pub name_at : (count : ℕ) (names : List ℕ) → Named (statement_words w) b count names → (m : ℕ) → 0 < m → m ≤ count → digits (word names m) ≡ name w b m
  unfolding name
  name_at count names named m some most = ap digits (rw statements_in_lem at (named m some most))
