-- The tests over sections are the tests of the table that was cut into them; each test that let a table pass gives what the next ones require;
-- and the first test that refuses gives the number. Assumes nothing.
use Prim.Native.Nat.{ℕ, ◌*◌}
use mathlib.Core.Bool.{true, false, not, ◌||◌}
use mathlib.Core.List.{List, [], ◌∷◌}
use mathlib.Core.Path.{◌≡◌, refl, ap, ◌∙◌}
use native.Mathlib.Omega.{arith}
use borrow.Author.Tests.{not-false}
use lib.ListN.{length}
use Rattle.laws.specs.Tools.{all_of, all_below, some_below}
use Rattle.defs.specs.Check.{Test, first_of, statements_rules, label_wrong, label_again, reference_ok, hyps_repeat, entries_rules, children_below, bad2, bad3, bad4, bad5, bad6, bad7, ◌when◌}
use Rattle.defs.specs.Checked.{HeaderOk}
use Rattle.defs.specs.Table.{stmt_size, entry_size, statements, references, entries, child_refs, statement_words, hyp_words, entry_words, child_words}
use Rattle.label_check.specs.Right.{LabelsRight}
use Rattle.table_check.specs.Right.{HypsRight, ChildrenRight}
use Rattle.table_check.proofs.EntryLaws.{entries_decide}
use Rattle.table_check.proofs.HeaderLaws.{sections_long}
use Rattle.table_check.proofs.StatementLaws.{statements_decide}

-- the words w, cut into sections and counted
pub record Cut (w ss hs es cs : List ℕ) (s n : ℕ) : Type 0 where
  pub ok : HeaderOk w
  pub statements_cut : ss ≡ statement_words w
  pub hyps_cut : hs ≡ hyp_words w
  pub entries_cut : es ≡ entry_words w
  pub children_cut : cs ≡ child_words w
  pub statement_count : s ≡ statements w
  pub entry_count : n ≡ entries w

module _ {w ss hs es cs : List ℕ} {s n : ℕ} (cut : Cut w ss hs es cs s n) where
  pub statement_records : length ss ≡ stmt_size * s
  statement_records = omega (arith, sections_long w cut.ok, ap length cut.statements_cut)

  pub entry_records : length es ≡ entry_size * n
  entry_records = omega (arith, sections_long w cut.ok, ap length cut.entries_cut)

  hyp_words_lem : length hs ≡ references w
  hyp_words_lem = ap length cut.hyps_cut ∙ (sections_long w cut.ok).hyps_long

  child_words_lem : length cs ≡ child_refs w
  child_words_lem = ap length cut.children_cut ∙ (sections_long w cut.ok).children_long

  -- ---- the tests

  pub two_is : (b : List ℕ) → not (all_of (statements_rules ss s (length hs) (length b))) ≡ bad2 w b
  unfolding bad2
  two_is b = cc (hyp_words_lem)

  pub three_is : (b : List ℕ) → (some_below (label_wrong ss b) s || some_below (label_again ss b) s) ≡ bad3 w b
  unfolding bad3
  three_is b = cc

  pub four_is : (not (all_below (reference_ok ss hs s) (length hs)) || some_below (hyps_repeat ss hs) s) ≡ bad4 w
  unfolding bad4
  four_is = cc (hyp_words_lem)

  pub five_is : not (all_of (entries_rules ss es s n (length cs))) ≡ bad5 w
  unfolding bad5
  five_is = cc (child_words_lem)

  pub six_is : not (all_below (children_below es cs) n) ≡ bad6 w
  unfolding bad6
  six_is = cc

  -- ---- what the next tests require

  pub labels_right : (b : List ℕ) → bad2 w b ≡ false → LabelsRight ss b s
  labels_right b e =
      let right = (statements_decide ss s (length hs) (length b)).so (not-false _ (two_is b ∙ e)) in
      record {
        records = statement_records;
        start = λ k l. (right.line k l).label_start_lem;
        inside = λ k l. (right.line k l).label_inside;
        fill = right.labels_fill;
      }

  pub hyps_right : (b : List ℕ) → bad2 w b ≡ false → HypsRight ss hs s
  hyps_right b e =
      let right = (statements_decide ss s (length hs) (length b)).so (not-false _ (two_is b ∙ e)) in
      record { records = statement_records; inside = λ k l. (right.line k l).hyp_inside }

  pub children_right : bad5 w ≡ false → ChildrenRight es cs n
  children_right e =
      let right = (entries_decide ss es s n (length cs)).so (not-false _ (five_is ∙ e)) in
      record { records = entry_records; inside = λ k l. (right.line k l).inside }

-- ---- the first test that refuses

-- the tests from each number on
abbrev pub from7 : (w b : List ℕ) → List Test
from7 w b = 7 when bad7 w ∷ []

abbrev pub from6 : (w b : List ℕ) → List Test
from6 w b = 6 when bad6 w ∷ from7 w b

abbrev pub from5 : (w b : List ℕ) → List Test
from5 w b = 5 when bad5 w ∷ from6 w b

abbrev pub from4 : (w b : List ℕ) → List Test
from4 w b = 4 when bad4 w ∷ from5 w b

abbrev pub from3 : (w b : List ℕ) → List Test
from3 w b = 3 when bad3 w b ∷ from4 w b

abbrev pub from2 : (w b : List ℕ) → List Test
from2 w b = 2 when bad2 w b ∷ from3 w b

pub refuses : (t : Test) (ts : List Test) → t.fails ≡ true → t.number ≡ first_of (t ∷ ts)
unfolding first_of
refuses t ts e = rw e

pub lets_pass : (t : Test) (ts : List Test) (number : ℕ) → t.fails ≡ false → number ≡ first_of ts → number ≡ first_of (t ∷ ts)
unfolding first_of
lets_pass t ts number e f = rw e f

pub none_refuses : 0 ≡ first_of []
unfolding first_of
none_refuses = refl
