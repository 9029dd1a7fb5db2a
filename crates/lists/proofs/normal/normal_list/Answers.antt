-- `normal_list` meets its contract: each return is one law of AnswerLaws, at the test that it stands under.
-- The counted steps are the length of the list where they are few enough (`few`, `long`).
use mathlib.Core.Path.{◌≡◌, refl, sym, ap, ◌∙◌}
use mathlib.Core.Bool.{false}
use mathlib.Core.List.{List}
use Prim.Native.Nat.{ℕ, ◌*◌, ◌≤◌}
use native.Mathlib.Omega.{arith}
use lib.ListN.{length, replicate}
use Rattle.laws.specs.Tools.{zeroed, over}
use Rattle.defs.specs.Check.{table_refusal}
use Rattle.defs.specs.Refusals.{need32, bad13}
use Rattle.defs.specs.Steps.{step_size}
use Rattle.defs.specs.Outcome.{step_list_words}
use Rattle.defs.specs.Laws.{good as good-table}
use Rattle.defs.specs.Checked.{HeaderOk, header}
use Rattle.std.specs.Prelude.{Err}
use Rattle.std.proofs.Common.{rules}
use Rattle.answers.specs.Refused.{answer_number, answer_length, passed, stopped, stopped_some}
use Rattle.lists.proofs.AnswerLaws.{table_refused, work_short, too_many, no_room, done}
use Rattle.lists.proofs.ListLaws.{may_count, may_list, list_is, are_many, are_few, list_long}
use Rattle.lists.proofs.normal.normal_list.Goals.{After-count_steps-steps, In_ok-check, Else-steps-gt-MAX_NORMAL_STEPS, Else-work-working_words}
use Rattle.lists.proofs.normal.normal_list.Goals as goal

-- past the check the table is good
good : (c : In_ok-check) → table_refusal c.args.words.now c.args.labels.now ≡ 0
good c = passed _ _ c.check.ensures _ c.in_ok-check.was

right : (c : In_ok-check) → HeaderOk c.args.words.now
right c = header c.args.words.now (good-table _ _ (good c)).ok1

-- past test 14 the working slice is long enough
enough : (c : Else-work-working_words) → need32 c.args.words.now ≤ length c.args.work.now
enough c = omega (arith, c.working_words.ensures, c.if-work-working_words.false)

-- past test 13 the count is the number of steps
few : (c : Else-steps-gt-MAX_NORMAL_STEPS) → table_refusal c.args.words.now c.args.labels.now ≡ 0 → bad13 c.args.words.now ≡ false
few c ok = are_few _ _ ok _ _ _ c.entry_section-entries.ensures c.child_section-children.ensures c.read_header-header.ensures.qed_is _ c.count_steps-steps.ensures (omega (arith, c.if-steps-gt-MAX_NORMAL_STEPS.false))

long : (c : Else-steps-gt-MAX_NORMAL_STEPS) → table_refusal c.args.words.now c.args.labels.now ≡ 0 → length (step_list_words c.args.words.now false c.args.explicit) ≡ step_size * c.count_steps-steps.result
long c ok =
    list_long _ _ ok _ _ _ c.entry_section-entries.ensures c.child_section-children.ensures c.read_header-header.ensures.qed_is _ c.count_steps-steps.ensures c.args.explicit (omega (arith, c.if-steps-gt-MAX_NORMAL_STEPS.false))

-- what a fill leaves of the working slice
wiped : (c : After-count_steps-steps) (end : List ℕ) → end ≡ replicate (length c.count_steps-steps.new.work) 0 → end ≡ zeroed c.args.work.now
wiped c end is = is ∙ ap (λ (n : ℕ). replicate n 0) c.count_steps-steps.auto.work

pub returns-in_err-check : goal.returns-in_err-check
returns-in_err-check c =
    let is : c.from_residual.result ≡ Err c.in_err-check.field-0.0 = search rules in
    rw is (table_refused _ _ _ _ _ _ _ 0 (stopped _ _ c.check.ensures _ c.in_err-check.was) (stopped_some _ _ c.check.ensures _ c.in_err-check.was) refl)

pub working_words-requires : goal.working_words-requires
working_words-requires c = right c

pub returns-then-work-working_words : goal.returns-then-work-working_words
returns-then-work-working_words c = work_short _ _ _ _ _ _ (good (goal.at.returns-then-work-working_words c).In_ok-check) _ _ refl refl (omega (arith, c.working_words.ensures, c.if-work-working_words.true))

pub read_header-header-requires : goal.read_header-header-requires
read_header-header-requires c = (right (goal.at.read_header-header-requires c).In_ok-check).ten

pub entry_section-entries-requires : goal.entry_section-entries-requires
entry_section-entries-requires c = right (goal.at.entry_section-entries-requires c).In_ok-check

pub child_section-children-requires : goal.child_section-children-requires
child_section-children-requires c = right (goal.at.child_section-children-requires c).In_ok-check

pub count_steps-steps-requires : goal.count_steps-steps-requires
count_steps-steps-requires c =
    let may = may_count _ _ (good (goal.at.count_steps-steps-requires c).In_ok-check) _ _ _ c.entry_section-entries.ensures c.child_section-children.ensures c.read_header-header.ensures.qed_is _ _ (c.read_header-header.ensures.entries_is) (enough (goal.at.count_steps-steps-requires c).Else-work-working_words) in
    record { entries_ok = may.0; qed_lt_n = may.1 }

pub returns-then-steps-gt-MAX_NORMAL_STEPS : goal.returns-then-steps-gt-MAX_NORMAL_STEPS
returns-then-steps-gt-MAX_NORMAL_STEPS c =
    too_many _ _ _ _ _ _ (good (goal.at.returns-then-steps-gt-MAX_NORMAL_STEPS c).In_ok-check) (enough (goal.at.returns-then-steps-gt-MAX_NORMAL_STEPS c).Else-work-working_words) _ _ _ (ap answer_number c.ended.ensures.0) (ap answer_length c.ended.ensures.0) (wiped (goal.at.returns-then-steps-gt-MAX_NORMAL_STEPS c).After-count_steps-steps _ c.ended.ensures.1)
    (are_many _ _ (good (goal.at.returns-then-steps-gt-MAX_NORMAL_STEPS c).In_ok-check) _ _ _ c.entry_section-entries.ensures c.child_section-children.ensures c.read_header-header.ensures.qed_is _ c.count_steps-steps.ensures (omega (arith, c.if-steps-gt-MAX_NORMAL_STEPS.true)))

pub returns-then-out-length : goal.returns-then-out-length
returns-then-out-length c =
    no_room _ _ _ _ _ _ (good (goal.at.returns-then-out-length c).In_ok-check) (enough (goal.at.returns-then-out-length c).Else-work-working_words) (few (goal.at.returns-then-out-length c).Else-steps-gt-MAX_NORMAL_STEPS (good (goal.at.returns-then-out-length c).In_ok-check)) _ _ _ (ap answer_number c.ended-then-out-length.ensures.0) (ap answer_length c.ended-then-out-length.ensures.0) (wiped (goal.at.returns-then-out-length c).After-count_steps-steps _ c.ended-then-out-length.ensures.1) (omega (arith, long (goal.at.returns-then-out-length c).Else-steps-gt-MAX_NORMAL_STEPS (good (goal.at.returns-then-out-length c).In_ok-check), c.if-out-length.true))

pub write_normal-requires : goal.write_normal-requires
write_normal-requires c =
    let list = list_is _ _ (good (goal.at.write_normal-requires c).In_ok-check) _ _ _ c.entry_section-entries.ensures c.child_section-children.ensures c.read_header-header.ensures.qed_is c.args.explicit in
    let may = may_list _ _ (good (goal.at.write_normal-requires c).In_ok-check) _ _ _ c.entry_section-entries.ensures c.child_section-children.ensures c.read_header-header.ensures.qed_is (length c.count_steps-steps.new.work) (omega (arith, enough (goal.at.write_normal-requires c).Else-work-working_words, c.count_steps-steps.auto.work)) in record { entries = may.0; qed_bound = may.1; explicit_in_bounds = rw list (omega (arith, long (goal.at.write_normal-requires c).Else-steps-gt-MAX_NORMAL_STEPS (good (goal.at.write_normal-requires c).In_ok-check), c.if-out-length.false)) }

pub returns : goal.returns
returns c =
    let list = list_is _ _ (good (goal.at.returns c).In_ok-check) _ _ _ c.entry_section-entries.ensures c.child_section-children.ensures c.read_header-header.ensures.qed_is c.args.explicit in
    done _ _ _ _ _ _ (good (goal.at.returns c).In_ok-check) (enough (goal.at.returns c).Else-work-working_words) (few (goal.at.returns c).Else-steps-gt-MAX_NORMAL_STEPS (good (goal.at.returns c).In_ok-check)) _ _ _ _ (ap answer_number c.ended-2.ensures.0) (ap answer_length c.ended-2.ensures.0 ∙ sym (long (goal.at.returns c).Else-steps-gt-MAX_NORMAL_STEPS (good (goal.at.returns c).In_ok-check)))
    (wiped (goal.at.returns c).After-count_steps-steps _ (c.ended-2.ensures.1 ∙ ap (λ (n : ℕ). replicate n 0) c.write_normal.auto.stack))
    (c.write_normal.ensures ∙ ap (λ (l : List ℕ). over l c.args.out.now) list) (omega (arith, long (goal.at.returns c).Else-steps-gt-MAX_NORMAL_STEPS (good (goal.at.returns c).In_ok-check), c.if-out-length.false))
