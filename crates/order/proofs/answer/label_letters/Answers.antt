-- `label_letters` meets its contract: module Answers says the answer at each return.
-- Past test 14 the answer is that of `write_both`, with both working slices zero.
use Rattle.std.proofs.Common.{rules, Err}
use Rattle.answers.specs.Refused.{passed, stopped, stopped_some}
use Rattle.order.proofs.Answers.{table_refused, layout_refused, work_short, sums_short, ended}
use Rattle.layout.specs.Layouts.{layout_of}
use Rattle.defs.specs.Laws.{good as good-table}
use Rattle.defs.specs.Checked.{HeaderOk, header}
use Rattle.defs.specs.Layout.{bad8}
use Rattle.defs.specs.Check.{table_refusal}
use lib.ListN.{replicate}
use native.Mathlib.Omega.{arith}
use Prim.Native.Nat.{ℕ}
use mathlib.Core.Bool.{false}
use mathlib.Core.Path.{◌≡◌, sym, ap, ◌∙◌}
use Rattle.order.proofs.answer.label_letters.Goals.{Else-is_bad, In_ok-check}
use Rattle.order.proofs.answer.label_letters.Goals.{then-work-working_words-via-then-work-working_words, then-work-working_words-via-else-work-working_words+then-sums-working_sums}
use Rattle.order.proofs.answer.label_letters.Goals as goal

-- past the check the table is good, past test 8 the layout is right
good : (c : In_ok-check) → table_refusal c.args.words.now c.args.labels.now ≡ 0
good c = passed _ _ c.check.ensures _ c.in_ok-check.was

head : (c : In_ok-check) → HeaderOk c.args.words.now
head c = header _ (good-table _ _ (good c)).ok1

right : (c : Else-is_bad) → bad8 (layout_of c.args.layout) ≡ false
right c = sym c.is_bad.ensures ∙ c.if-is_bad.false

pub returns-in_err-check : goal.returns-in_err-check
returns-in_err-check c =
    let is : c.from_residual.result ≡ Err c.in_err-check.field-0.0 = search rules in
    rw is (table_refused _ _ _ _ _ _ _ _ (stopped _ _ c.check.ensures _ c.in_err-check.was) (stopped_some _ _ c.check.ensures _ c.in_err-check.was))

pub returns-then-is_bad : goal.returns-then-is_bad
returns-then-is_bad c = layout_refused _ _ _ _ _ _ _ (good (goal.at.returns-then-is_bad c).In_ok-check) (sym c.is_bad.ensures ∙ c.if-is_bad.true)

pub working_words-requires : goal.working_words-requires
working_words-requires c = head (goal.at.working_words-requires c).In_ok-check

pub working_sums-requires-clause-header_ok : goal.working_sums-requires-clause-header_ok
working_sums-requires-clause-header_ok c = head (goal.at.working_sums-requires-clause-header_ok c).In_ok-check

pub returns-then-work-working_words : goal.returns-then-work-working_words
returns-then-work-working_words c =
    let ok = good (goal.at.returns-then-work-working_words c).In_ok-check in
    let fits = right (goal.at.returns-then-work-working_words c).Else-is_bad in
    elim c.then-work-working_words.branch [
      | then-work-working_words-via-then-work-working_words w ↦ work_short _ _ _ _ _ _ _ ok fits (omega (arith, c.working_words.ensures, w.if-work-working_words.true))
      | then-work-working_words-via-else-work-working_words+then-sums-working_sums w ↦
          sums_short _ _ _ _ _ _ _ ok fits (omega (arith, w.working_sums.ensures, w.if-sums-working_sums.true))
    ]

pub returns : goal.returns
returns c =
    ended _ _ _ _ _ _ _ (good (goal.at.returns c).In_ok-check) (right (goal.at.returns c).Else-is_bad)
    (omega (arith, c.working_words.ensures, c.if-work-working_words.false)) (omega (arith, c.working_sums.ensures, c.if-sums-working_sums.false))
    _ _ _ _ _ _ _ c.write_both-answer.ensures
    (c.wipe_both.ensures.0 ∙ ap (λ (n : ℕ). replicate n 0) c.write_both-answer.auto.work)
    (c.wipe_both.ensures.1 ∙ ap (λ (n : ℕ). replicate n 0) c.write_both-answer.auto.sums)
