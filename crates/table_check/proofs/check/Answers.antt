-- `check` is `table_refusal`: the tests over sections are those of the table, and the first that refuses gives the number.
-- Each test that lets the table pass gives what the next ones require. Assumes nothing.
use Prim.Native.Nat.{ℕ}
use mathlib.Core.Bool.{false}
use mathlib.Core.List.{List}
use mathlib.Core.Path.{◌≡◌, sym, ◌∙◌}
use Rattle.defs.specs.Check.{table_refusal, first_of, bad1, bad2, bad3, bad4, bad5, bad6}
use Rattle.defs.specs.Checked.{header}
use Rattle.table_check.proofs.CheckLaws.{Cut, statement_records, entry_records, two_is, three_is, four_is, five_is, six_is, labels_right, hyps_right, children_right, from2, from3, from4, from5, from6, from7, refuses, lets_pass, none_refuses}
use Rattle.table_check.proofs.check.Goals.{After-child_section-children, Else-children_wrong, Else-entries_wrong, Else-goal_wrong, Else-header_wrong, Else-hypotheses_wrong, Else-labels_wrong, Else-statements_wrong}
use Rattle.table_check.proofs.check.Goals as goal

-- the header's test, and the cut that it allows
pass1 : (c : Else-header_wrong) → bad1 c.args.words.now ≡ false
pass1 c = sym c.header_wrong.ensures ∙ c.if-header_wrong.false

cut : (c : After-child_section-children) → Cut c.args.words.now c.statement_section-statements.result.now c.hyp_section-hyps.result.now c.entry_section-entries.result.now c.child_section-children.result.now c.read_header-header.result.statements c.read_header-header.result.entries
cut c =
    record {
      ok = header _ (sym c.header_wrong.ensures ∙ c.if-header_wrong.false);
      statements_cut = c.statement_section-statements.ensures;
      hyps_cut = c.hyp_section-hyps.ensures;
      entries_cut = c.entry_section-entries.ensures;
      children_cut = c.child_section-children.ensures;
      statement_count = c.read_header-header.ensures.statements_is;
      entry_count = c.read_header-header.ensures.entries_is;
    }

-- the tests that let the table pass

pass2 : (c : Else-statements_wrong) → Cut c.args.words.now c.statement_section-statements.result.now c.hyp_section-hyps.result.now c.entry_section-entries.result.now c.child_section-children.result.now c.read_header-header.result.statements c.read_header-header.result.entries → bad2 c.args.words.now c.args.labels.now ≡ false
pass2 c k = sym (two_is k _) ∙ sym c.statements_wrong.ensures ∙ c.if-statements_wrong.false

pass3 : (c : Else-labels_wrong) → Cut c.args.words.now c.statement_section-statements.result.now c.hyp_section-hyps.result.now c.entry_section-entries.result.now c.child_section-children.result.now c.read_header-header.result.statements c.read_header-header.result.entries → bad3 c.args.words.now c.args.labels.now ≡ false
pass3 c k = sym (three_is k _) ∙ sym c.labels_wrong.ensures ∙ c.if-labels_wrong.false

pass4 : (c : Else-hypotheses_wrong) → Cut c.args.words.now c.statement_section-statements.result.now c.hyp_section-hyps.result.now c.entry_section-entries.result.now c.child_section-children.result.now c.read_header-header.result.statements c.read_header-header.result.entries → bad4 c.args.words.now ≡ false
pass4 c k = sym (four_is k) ∙ sym c.hypotheses_wrong.ensures ∙ c.if-hypotheses_wrong.false

pass5 : (c : Else-entries_wrong) → Cut c.args.words.now c.statement_section-statements.result.now c.hyp_section-hyps.result.now c.entry_section-entries.result.now c.child_section-children.result.now c.read_header-header.result.statements c.read_header-header.result.entries → bad5 c.args.words.now ≡ false
pass5 c k = sym (five_is k) ∙ sym c.entries_wrong.ensures ∙ c.if-entries_wrong.false

pass6 : (c : Else-children_wrong) → Cut c.args.words.now c.statement_section-statements.result.now c.hyp_section-hyps.result.now c.entry_section-entries.result.now c.child_section-children.result.now c.read_header-header.result.statements c.read_header-header.result.entries → bad6 c.args.words.now ≡ false
pass6 c k = sym (six_is k) ∙ sym c.children_wrong.ensures ∙ c.if-children_wrong.false

-- behind them the later tests decide
module _ (w b : List ℕ) (number : ℕ) (one : bad1 w ≡ false) where
  left1 : number ≡ first_of (from2 w b) → number ≡ table_refusal w b
  unfolding table_refusal
  left1 e = lets_pass _ _ _ one e

  left2 : bad2 w b ≡ false → number ≡ first_of (from3 w b) → number ≡ table_refusal w b
  left2 two e = left1 (lets_pass _ _ _ two e)

  left3 : bad2 w b ≡ false → bad3 w b ≡ false → number ≡ first_of (from4 w b) → number ≡ table_refusal w b
  left3 two three e = left2 two (lets_pass _ _ _ three e)

  left4 : bad2 w b ≡ false → bad3 w b ≡ false → bad4 w ≡ false → number ≡ first_of (from5 w b) → number ≡ table_refusal w b
  left4 two three four e = left3 two three (lets_pass _ _ _ four e)

  left5 : bad2 w b ≡ false → bad3 w b ≡ false → bad4 w ≡ false → bad5 w ≡ false → number ≡ first_of (from6 w b) → number ≡ table_refusal w b
  left5 two three four five e = left4 two three four (lets_pass _ _ _ five e)

  left6 : bad2 w b ≡ false → bad3 w b ≡ false → bad4 w ≡ false → bad5 w ≡ false → bad6 w ≡ false → number ≡ first_of (from7 w b) → number ≡ table_refusal w b
  left6 two three four five six e = left5 two three four five (lets_pass _ _ _ six e)

pub returns-then-header_wrong : goal.returns-then-header_wrong
unfolding table_refusal
returns-then-header_wrong c = refuses _ _ (sym c.header_wrong.ensures ∙ c.if-header_wrong.true)

pub read_header-header-requires : goal.read_header-header-requires
read_header-header-requires c = (header _ (pass1 c)).ten

pub statement_section-statements-requires : goal.statement_section-statements-requires
statement_section-statements-requires c = header _ (pass1 (goal.at.statement_section-statements-requires c).Else-header_wrong)

pub hyp_section-hyps-requires : goal.hyp_section-hyps-requires
hyp_section-hyps-requires c = header _ (pass1 (goal.at.hyp_section-hyps-requires c).Else-header_wrong)

pub entry_section-entries-requires : goal.entry_section-entries-requires
entry_section-entries-requires c = header _ (pass1 (goal.at.entry_section-entries-requires c).Else-header_wrong)

pub child_section-children-requires : goal.child_section-children-requires
child_section-children-requires c = header _ (pass1 (goal.at.child_section-children-requires c).Else-header_wrong)

pub statements_wrong-requires : goal.statements_wrong-requires
statements_wrong-requires c = statement_records (cut c)

pub returns-then-statements_wrong : goal.returns-then-statements_wrong
returns-then-statements_wrong c =
    let k = cut (goal.at.returns-then-statements_wrong c).After-child_section-children in
    left1 _ _ _ (pass1 (goal.at.returns-then-statements_wrong c).Else-header_wrong) (refuses _ _ (sym (two_is k _) ∙ sym c.statements_wrong.ensures ∙ c.if-statements_wrong.true))

pub labels_wrong-requires : goal.labels_wrong-requires
labels_wrong-requires c =
    let k = cut (goal.at.labels_wrong-requires c).After-child_section-children in
    labels_right k _ (pass2 c k)

pub returns-then-labels_wrong : goal.returns-then-labels_wrong
returns-then-labels_wrong c =
    let k = cut (goal.at.returns-then-labels_wrong c).After-child_section-children in
    left2 _ _ _ (pass1 (goal.at.returns-then-labels_wrong c).Else-header_wrong) (pass2 (goal.at.returns-then-labels_wrong c).Else-statements_wrong k) (refuses _ _ (sym (three_is k _) ∙ sym c.labels_wrong.ensures ∙ c.if-labels_wrong.true))

pub hypotheses_wrong-requires : goal.hypotheses_wrong-requires
hypotheses_wrong-requires c =
    let k = cut (goal.at.hypotheses_wrong-requires c).After-child_section-children in
    hyps_right k _ (pass2 (goal.at.hypotheses_wrong-requires c).Else-statements_wrong k)

pub returns-then-hypotheses_wrong : goal.returns-then-hypotheses_wrong
returns-then-hypotheses_wrong c =
    let k = cut (goal.at.returns-then-hypotheses_wrong c).After-child_section-children in
    left3 _ _ _ (pass1 (goal.at.returns-then-hypotheses_wrong c).Else-header_wrong) (pass2 (goal.at.returns-then-hypotheses_wrong c).Else-statements_wrong k) (pass3 (goal.at.returns-then-hypotheses_wrong c).Else-labels_wrong k) (refuses _ _ (sym (four_is k) ∙ sym c.hypotheses_wrong.ensures ∙ c.if-hypotheses_wrong.true))

pub entries_wrong-requires : goal.entries_wrong-requires
entries_wrong-requires c =
    let k = cut (goal.at.entries_wrong-requires c).After-child_section-children in
    record { statements_len = statement_records k; entries_len = entry_records k }

pub returns-then-entries_wrong : goal.returns-then-entries_wrong
returns-then-entries_wrong c =
    let k = cut (goal.at.returns-then-entries_wrong c).After-child_section-children in
    left4 _ _ _ (pass1 (goal.at.returns-then-entries_wrong c).Else-header_wrong) (pass2 (goal.at.returns-then-entries_wrong c).Else-statements_wrong k) (pass3 (goal.at.returns-then-entries_wrong c).Else-labels_wrong k) (pass4 (goal.at.returns-then-entries_wrong c).Else-hypotheses_wrong k) (refuses _ _ (sym (five_is k) ∙ sym c.entries_wrong.ensures ∙ c.if-entries_wrong.true))

pub children_wrong-requires : goal.children_wrong-requires
children_wrong-requires c =
    let k = cut (goal.at.children_wrong-requires c).After-child_section-children in
    children_right k (pass5 c k)

pub returns-then-children_wrong : goal.returns-then-children_wrong
returns-then-children_wrong c =
    let k = cut (goal.at.returns-then-children_wrong c).After-child_section-children in
    left5 _ _ _ (pass1 (goal.at.returns-then-children_wrong c).Else-header_wrong) (pass2 (goal.at.returns-then-children_wrong c).Else-statements_wrong k) (pass3 (goal.at.returns-then-children_wrong c).Else-labels_wrong k) (pass4 (goal.at.returns-then-children_wrong c).Else-hypotheses_wrong k) (pass5 (goal.at.returns-then-children_wrong c).Else-entries_wrong k) (refuses _ _ (sym (six_is k) ∙ sym c.children_wrong.ensures ∙ c.if-children_wrong.true))

pub goal_wrong-requires : goal.goal_wrong-requires
goal_wrong-requires c =
    let k = cut (goal.at.goal_wrong-requires c).After-child_section-children in
    record { header_ok = k.ok; statements_value = k.statements_cut }

pub returns-then-goal_wrong : goal.returns-then-goal_wrong
returns-then-goal_wrong c =
    let k = cut (goal.at.returns-then-goal_wrong c).After-child_section-children in
    left6 _ _ _ (pass1 (goal.at.returns-then-goal_wrong c).Else-header_wrong) (pass2 (goal.at.returns-then-goal_wrong c).Else-statements_wrong k) (pass3 (goal.at.returns-then-goal_wrong c).Else-labels_wrong k) (pass4 (goal.at.returns-then-goal_wrong c).Else-hypotheses_wrong k) (pass5 (goal.at.returns-then-goal_wrong c).Else-entries_wrong k) (pass6 (goal.at.returns-then-goal_wrong c).Else-children_wrong k) (refuses _ _ (sym c.goal_wrong.ensures ∙ c.if-goal_wrong.true))

pub returns : goal.returns
returns c =
    let k = cut (goal.at.returns c).After-child_section-children in
    left6 _ _ _ (pass1 (goal.at.returns c).Else-header_wrong) (pass2 (goal.at.returns c).Else-statements_wrong k) (pass3 (goal.at.returns c).Else-labels_wrong k) (pass4 (goal.at.returns c).Else-hypotheses_wrong k) (pass5 (goal.at.returns c).Else-entries_wrong k) (pass6 (goal.at.returns c).Else-children_wrong k) (lets_pass _ _ _ (sym c.goal_wrong.ensures ∙ c.if-goal_wrong.false) none_refuses)
