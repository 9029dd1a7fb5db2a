-- `replay::one_step` meets its contract: a broken rule, a reference, or a normal step, each one case of the step of the definition.
-- Assumes nothing.
use mathlib.Core.Bool.{true}
use mathlib.Core.Path.{◌≡◌, sym, ◌∙◌}
use native.Mathlib.Omega.{arith}
use Rattle.defs.specs.Table.{statements}
use Rattle.replay.proofs.OneStepLaws.{one_16, one_refer, one_normal}
use Rattle.replay.proofs.KindLaws.{right_reference, right_statement}
use Rattle.replay.specs.Steps.{step_of, step_right}
use Rattle.replay.proofs.turn.one_step.Goals.{Else-not-step_right}
use Rattle.replay.proofs.turn.one_step.Goals as goal

-- its rules hold
right : (c : Else-not-step_right) → step_right (statements c.args.words.now) c.args.state.marks (step_of c.read_step-step.result) ≡ true
right c = sym c.step_right.ensures ∙ c.if-not-step_right.false

pub returns-then-not-step_right : goal.returns-then-not-step_right
returns-then-not-step_right c =
    let lent = c.requires.height_lt_half.1 in
    one_16 _ _ _ _ _ c.args.state lent.1 lent.0 (step_of c.read_step-step.result) _ c.read_step-step.ensures _ c.step_right.ensures c.if-not-step_right.true

pub refer-requires : goal.refer-requires
refer-requires c =
    record {
      height_lt_half = c.requires.height_lt_half;
      le_reference = (omega arith, right_reference _ _ (step_of c.read_step-step.result) (right (goal.at.refer-requires c).Else-not-step_right) c.if-reference-ne0.true);
    }

pub returns-then-reference-ne0 : goal.returns-then-reference-ne0
returns-then-reference-ne0 c =
    let lent = c.requires.height_lt_half.1 in
    one_refer _ _ _ _ _ c.args.state lent.1 lent.0 (step_of c.read_step-step.result) _ c.read_step-step.ensures _ c.step_right.ensures c.if-not-step_right.false
    c.if-reference-ne0.true _ c.refer.result c.refer.ensures c.requires.store_ok

pub normal_step-requires : goal.normal_step-requires
normal_step-requires c =
    record {
      readable = c.requires.readable;
      statement_bound = right_statement _ _ (step_of c.read_step-step.result) (right (goal.at.normal_step-requires c).Else-not-step_right) c.if-reference-ne0.false;
      height_lt_half = c.requires.height_lt_half;
      store_ok = c.requires.store_ok;
    }

pub returns : goal.returns
returns c =
    let a = c.args in
    let lent = c.requires.height_lt_half.1 in (
      one_normal a.words.now a.work.now a.entries.now a.children.now a.half a.state lent.1 lent.0 (step_of c.read_step-step.result) _ c.read_step-step.ensures
          _ c.step_right.ensures c.if-not-step_right.false c.if-reference-ne0.false _ c.normal_step.ensures.0,
      c.normal_step.ensures.1,
    )
