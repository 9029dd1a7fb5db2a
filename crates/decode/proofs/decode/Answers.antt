-- `decode` meets its contract. Each test is that of the definition, by what the function that it calls ensures;
-- a table that is not refused has the theorem's list inside, and a list that is not refused is short.
use mathlib.Core.Path.{◌≡◌, sym, ◌∙◌}
use native.Mathlib.Omega.{arith}
use Rattle.defs.specs.Decode.{bad_labels}
use Rattle.defs.specs.Refusals.{bad10}
use Rattle.defs.specs.Check.{table_refusal}
use Rattle.std.proofs.Common.{rules}
use Rattle.std.specs.Prelude.{Err}
use Rattle.answers.specs.Refused.{passed, stopped}
use Rattle.theorem.specs.Goal.{TheoremOk}
use Rattle.theorem.proofs.Goals.{theorem_ok, list_statements, refusal_10}
use Rattle.decode.proofs.Answers.{answer_table, answer_10, answer_16, letters_left}
use Rattle.decode.proofs.LabelLaws.{refusal_16, short}
use Rattle.decode.proofs.decode.Goals.{After-list_wrong, After-mixed, In_ok-check}
use Rattle.decode.proofs.decode.Goals as goal

-- what each test that passed says of the table and the list
good : (c : In_ok-check) → table_refusal c.args.words.now c.args.labels.now ≡ 0
good c = passed _ _ c.check.ensures _ c.in_ok-check.was

right : (c : In_ok-check) → TheoremOk c.args.words.now
right c = theorem_ok _ _ (good c)

mixed-is : (c : After-mixed) → bad10 c.args.words.now ≡ c.mixed.result
mixed-is c = sym (c.mixed.ensures ∙ refusal_10 _ _ _ c.statement_section.ensures c.theorem_list-hypotheses.ensures)

list_is : (c : After-list_wrong) → bad_labels c.args.words.now c.args.list.now ≡ c.list_wrong.result
list_is c = sym (c.list_wrong.ensures ∙ refusal_16 _ _ _ _ c.read_header.ensures.statements_is c.theorem_list-hypotheses.ensures)

pub returns-in_err-check : goal.returns-in_err-check
returns-in_err-check c =
    let is : c.from_residual.result ≡ Err c.in_err-check.field-0.0 = search rules in
    rw is (answer_table _ _ _ _ _ _ (stopped _ _ c.check.ensures _ c.in_err-check.was))

pub theorem_list-hypotheses-requires : goal.theorem_list-hypotheses-requires
theorem_list-hypotheses-requires c = right c

pub statement_section-requires : goal.statement_section-requires
statement_section-requires c = (right (goal.at.statement_section-requires c).In_ok-check).header

pub mixed-requires : goal.mixed-requires
mixed-requires c = rw (c.statement_section.ensures, c.theorem_list-hypotheses.ensures) (list_statements _ (right (goal.at.mixed-requires c).In_ok-check))

pub returns-then-mixed : goal.returns-then-mixed
returns-then-mixed c = answer_10 _ _ _ _ _ (good (goal.at.returns-then-mixed c).In_ok-check) _ (omega arith) (mixed-is (goal.at.returns-then-mixed c).After-mixed ∙ c.if-mixed.true)

pub read_header-requires : goal.read_header-requires
read_header-requires c = (right (goal.at.read_header-requires c).In_ok-check).header.ten

pub returns-then-list_wrong : goal.returns-then-list_wrong
returns-then-list_wrong c =
    answer_16 _ _ _ _ _ (good (goal.at.returns-then-list_wrong c).In_ok-check)
    (mixed-is (goal.at.returns-then-list_wrong c).After-mixed ∙ c.if-mixed.false) _ (omega arith)
    (list_is (goal.at.returns-then-list_wrong c).After-list_wrong ∙ c.if-list_wrong.true)

pub write_steps-requires : goal.write_steps-requires
write_steps-requires c =
    short _ _ _ _ c.read_header.ensures.statements_is c.theorem_list-hypotheses.ensures
    (right (goal.at.write_steps-requires c).In_ok-check) (sym c.list_wrong.ensures ∙ c.if-list_wrong.false)

pub returns : goal.returns
returns c =
    c.write_steps.ensures
    ∙ rw c.theorem_list-hypotheses.ensures
    (letters_left _ _ _ _ _ (good (goal.at.returns c).In_ok-check) (mixed-is (goal.at.returns c).After-mixed ∙ c.if-mixed.false)
    (list_is (goal.at.returns c).After-list_wrong ∙ c.if-list_wrong.false))
