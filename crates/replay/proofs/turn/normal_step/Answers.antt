-- `replay::normal_step` meets its contract: each return is one case of `normal_turn`. What is popped is lent to the store as it lies.
-- Assumes nothing.
use mathlib.Core.Path.{◌≡◌, ap, ◌∙◌}
use native.Mathlib.Omega.{arith}
use Rattle.std.proofs.Common.{rules}
use Rattle.answers.specs.declared.refusals.Refusal.TheVariants.{ShortOutput}
use Rattle.std.specs.Prelude.{None, Err}
use Rattle.std.specs.Result.{result_ok}
use Rattle.replay.proofs.TurnLaws.{turn_18, turn_15, turn_going}
use Rattle.replay.proofs.turn.normal_step.Goals as goal

pub returns-then-height-count : goal.returns-then-height-count
returns-then-height-count c = turn_18 _ _ _ _ _ c.args.state _ _ _ c.hypotheses_of-count.ensures.0 (omega arith) c.if-height-count.true

pub returns-in_err-placed : goal.returns-in_err-placed
returns-in_err-placed c =
    let f = c.find_or_append-place in
    let none : f.result ≡ None = c.ok_or.ensures.ok_part ∙ ap result_ok c.in_err-placed.was in
    let short : c.from_residual.result ≡ Err ShortOutput = search rules in
    rw short
    (turn_15 _ _ _ _ _ c.args.state _ _ _ c.hypotheses_of-count.ensures.0 (omega (arith, c.requires.height_lt_half)) c.if-height-count.false _ _ f.result f.ensures.0 none)

pub overflow_add-result : goal.overflow_add-result
overflow_add-result c = omega (arith, c.if-height-count.false, c.requires.height_lt_half)

pub returns : goal.returns
returns c =
    let f = c.find_or_append-place in
    turn_going _ _ _ _ _ c.args.state _ _ _ c.hypotheses_of-count.ensures.0 (omega (arith, c.requires.height_lt_half)) c.if-height-count.false _ _ f.result f.ensures.0
    _ _ _ (c.ok_or.ensures.ok_part ∙ ap result_ok c.in_ok-placed.was) f.ensures.1 c.push-marks.ensures
