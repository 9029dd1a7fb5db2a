-- `text` meets its contract: module Answers says the answer at each return.
-- Past test 14 the answer is that of `write_text`, with both working slices zero.
use Rattle.text.proofs.Answers.{table_refused, layout_refused, style_refused, work_short, ended, work_enough, sums_enough}
use Rattle.text.specs.Styles.{number_of, read_known, number_known}
use Rattle.layout.specs.Layouts.{layout_of}
use Rattle.defs.specs.Refusals.{need32, need16}
use Rattle.defs.specs.Text.{is_compressed, bad9}
use Rattle.defs.specs.Layout.{bad8}
use Rattle.defs.specs.Laws.{good as good-table}
use Rattle.defs.specs.Checked.{header}
use Rattle.defs.specs.Check.{table_refusal}
use lib.Dec.{ltb}
use lib.ListN.{length, replicate}
use Prim.Native.Nat.{ℕ}
use mathlib.Core.Bool.{false, ◌&&◌, ◌||◌}
use mathlib.Core.Path.{◌≡◌, refl, sym, ap, ◌∙◌}
use Rattle.std.specs.Prelude.{Err}
use Rattle.std.proofs.Common.{rules}
use Rattle.answers.specs.Refused.{passed, stopped, stopped_some}
use Rattle.text.proofs.answer.text.Goals.{After-is_short, Else-is_bad, In_ok-check, In_ok-known}
use Rattle.text.proofs.answer.text.Goals as goal

-- past the check the table is good, past test 8 the layout is right
good : (c : In_ok-check) → table_refusal c.args.words.now c.args.labels.now ≡ 0
good c = passed _ _ c.check.ensures _ c.in_ok-check.was

right : (c : Else-is_bad) → bad8 (layout_of c.args.layout) ≡ false
right c = sym c.is_bad.ensures ∙ c.if-is_bad.false

-- past test 9 the number is a style's
style-is : (c : In_ok-known) → c.args.style ≡ number_of c.in_ok-known.known
style-is c = read_known _ _ _ c.try_from.ensures c.in_ok-known.was

known : (c : In_ok-known) → bad9 c.args.style ≡ false
known c = rw (style-is c) (number_known c.in_ok-known.known)

-- test 14
short : (c : After-is_short) → let a = c.args in (ltb (length a.work.now) (need32 a.words.now) || (is_compressed a.style && ltb (length a.sums.now) (need16 a.words.now (layout_of a.layout)))) ≡ c.is_short.result
short c = rw (read_known _ _ _ c.try_from.ensures c.in_ok-known.was) (sym c.is_short.ensures)

pub returns-in_err-check : goal.returns-in_err-check
returns-in_err-check c =
    let is : c.from_residual.result ≡ Err c.in_err-check.field-0.0 = search rules in
    rw is (table_refused _ _ _ _ _ _ _ _ 0 (stopped _ _ c.check.ensures _ c.in_err-check.was) (stopped_some _ _ c.check.ensures _ c.in_err-check.was) refl)

pub returns-then-is_bad : goal.returns-then-is_bad
returns-then-is_bad c = layout_refused _ _ _ _ _ _ _ (good (goal.at.returns-then-is_bad c).In_ok-check) _ _ refl (sym c.is_bad.ensures ∙ c.if-is_bad.true) refl

pub returns-in_err-known : goal.returns-in_err-known
returns-in_err-known c =
    let is : c.from_residual-in_err-known.result ≡ Err c.in_err-known.field-0.0 = search rules in
    let none = c.in_err-known.ensures in
    rw (is, none.1) (style_refused _ _ _ _ _ _ _ (good (goal.at.returns-in_err-known c).In_ok-check) (right (goal.at.returns-in_err-known c).Else-is_bad) _ 0 refl none.0 refl)

pub is_short-requires : goal.is_short-requires
is_short-requires c = (header _ (good-table _ _ (good (goal.at.is_short-requires c).In_ok-check)).ok1, right (goal.at.is_short-requires c).Else-is_bad)

pub returns-then-is_short : goal.returns-then-is_short
returns-then-is_short c = work_short _ _ _ _ _ _ _ (good (goal.at.returns-then-is_short c).In_ok-check) (right (goal.at.returns-then-is_short c).Else-is_bad) (known (goal.at.returns-then-is_short c).In_ok-known) _ _ refl (short (goal.at.returns-then-is_short c).After-is_short ∙ c.if-is_short.true) refl

pub write_text-answer-requires : goal.write_text-answer-requires
write_text-answer-requires c = record {
  writable = record {
    ok = good (goal.at.write_text-answer-requires c).In_ok-check;
    right = right (goal.at.write_text-answer-requires c).Else-is_bad;
    enough = work_enough c.args.words.now (layout_of c.args.layout) (number_of c.in_ok-known.known) (length c.args.work.now) (length c.args.sums.now) (sym c.is_short.ensures ∙ c.if-is_short.false);
  };
  writable_sums = sums_enough c.args.words.now (layout_of c.args.layout) (number_of c.in_ok-known.known) (length c.args.work.now) (length c.args.sums.now) (sym c.is_short.ensures ∙ c.if-is_short.false);
}

pub returns : goal.returns
returns c =
    ended _ _ _ _ _ _ _ (good (goal.at.returns c).In_ok-check) (right (goal.at.returns c).Else-is_bad) (known (goal.at.returns c).In_ok-known) (short (goal.at.returns c).After-is_short ∙ c.if-is_short.false) _ _ _ _ _
    (rw (style-is (goal.at.returns c).In_ok-known) c.write_text-answer.ensures)
    (c.wipe_both.ensures.0 ∙ ap (λ (n : ℕ). replicate n 0) c.write_text-answer.auto.work)
    (c.wipe_both.ensures.1 ∙ ap (λ (n : ℕ). replicate n 0) c.write_text-answer.auto.sums)
