-- `replay::replay` meets its contract: each return is one ending of the definition.
-- The facts of a good table come from what the check answered. Assumes nothing.
use mathlib.Core.Path.{◌≡◌, ap, ◌∙◌}
use Prim.Native.Nat.{ℕ, ◌/◌}
use native.Mathlib.Omega.{arith}
use lib.ListN.{length, replicate}
use Rattle.std.specs.Prelude.{Err}
use Rattle.std.proofs.Common.{rules}
use Rattle.laws.specs.Tools.{zeroed}
use Rattle.defs.specs.Check.{table_refusal}
use Rattle.answers.specs.Refused.{passed, stopped}
use Rattle.replay.proofs.AnswerLaws.{refused_table, readable, refused_16, refused_14, after_steps}
use Rattle.replay.proofs.answer.replay.Goals.{In_ok-check}
use Rattle.replay.proofs.answer.replay.Goals as goal

-- the table is good
fine : (c : In_ok-check) → table_refusal c.args.words.now c.args.labels.now ≡ 0
fine c = passed _ _ c.check.ensures _ c.in_ok-check.was

pub returns-in_err-check : goal.returns-in_err-check
returns-in_err-check c =
    let is : c.from_residual.result ≡ Err c.in_err-check.field-0.0 = search rules in
    rw is (refused_table _ _ _ _ _ _ _ (stopped _ _ c.check.ensures _ c.in_err-check.was))

pub returns-then-steps-ne0 : goal.returns-then-steps-ne0
returns-then-steps-ne0 c = refused_16 _ _ _ _ _ _ (fine (goal.at.returns-then-steps-ne0 c).In_ok-check) c.if-steps-ne0.true

pub returns-then-work-count : goal.returns-then-work-count
returns-then-work-count c = refused_14 _ _ _ _ _ _ (fine (goal.at.returns-then-work-count c).In_ok-check) c.if-steps-ne0.false c.if-work-count.true

pub all_steps-turn-requires : goal.all_steps-turn-requires
all_steps-turn-requires c =
    record { readable = readable _ _ (fine (goal.at.all_steps-turn-requires c).In_ok-check); half_value = (omega (arith, c.if-steps-ne0.false), omega arith) }

pub returns : goal.returns
returns c =
    let a = c.args in
    let ran = c.all_steps-turn in
    let zero : c.fill.new.self ≡ zeroed a.work.now = c.fill.ensures.after (λ y e. e) ∙ ap (λ (n : ℕ). replicate n 0) ran.auto.work in
    after_steps a.words.now a.labels.now a.steps.now a.work.now a.entries.now a.children.now (fine (goal.at.returns c).In_ok-check) c.if-steps-ne0.false c.if-work-count.false
    (length a.steps.now / 5) ran.new.work ran.new.entries ran.new.children ran.result ran.ensures.0
    ran.auto.entries ran.auto.children _ _ _ _ _ _ zero (c.settle.ensures _ _ _)
