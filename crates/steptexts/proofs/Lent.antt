-- The sections that a function cuts from a table's words, and that they are the table's: those that words of steps are looked up in, and
-- those that are walked.
use mathlib.Core.Path.{◌≡◌}
use mathlib.Core.List.{List}
use Prim.Native.Nat.{ℕ}
use Rattle.defs.specs.Table.{theorem, qed, statement_words, hyp_words, entry_words, child_words}

pub record Lent (w ss hs : List ℕ) (thm : ℕ) : Type 0 where
  pub statements_are : ss ≡ statement_words w
  pub hyps_are : hs ≡ hyp_words w
  pub theorem_is : thm ≡ theorem w

pub record Entered (w es cs : List ℕ) (q : ℕ) : Type 0 where
  pub entries_are : es ≡ entry_words w
  pub children_are : cs ≡ child_words w
  pub qed_is : q ≡ qed w
