-- `replay::all_steps` meets its contract. The invariant: the steps still to come, from where the replay stands, give what all steps gave at the start.
-- Assumes nothing.
use mathlib.Core.Path.{◌≡◌}
use Rattle.std.specs.Prelude.{Err}
use Rattle.std.proofs.Common.{rules}
use native.Mathlib.Omega.{arith}
use Rattle.replay.proofs.RunLaws.{run_starts, run_goes, run_refused, run_18, run_done}
use Rattle.replay.proofs.run.all_steps.Goals as goal

pub loop-k-init : goal.loop-k-init
loop-k-init c = run_starts _ _ _ _ _ _

pub one_step-requires : goal.one_step-requires
one_step-requires c =
    let run = c.loop-k.invariant in
    record {
      readable = c.requires.readable;
      step_size_in_bounds = omega (arith, c.requires.half_value.0);
      height_lt_half = (omega (arith, run.low), (omega (arith, run.few), omega (arith, run.same_work, c.requires.half_value.1)));
      store_ok = run.store_ok;
    }

pub returns-in_err-state : goal.returns-in_err-state
returns-in_err-state c =
    let o = c.one_step in
    let is : c.from_residual.result ≡ Err c.in_err-state.field-0.0 = search rules in
    rw is
    (run_refused _ _ _ _ _ _ _ _ _ _ c.loop-k.k c.loop-k.invariant c.requires.half_value.0 c.loop-k-test.true _ _ _ o.result o.ensures.0 o.ensures.1 _ c.in_err-state.was)

pub loop-k-preserved : goal.loop-k-preserved
loop-k-preserved c =
    let o = c.one_step in
    run_goes _ _ _ _ _ _ _ _ _ _ c.loop-k.k c.loop-k.invariant c.requires.half_value.0 c.loop-k-test.true _ _ _ o.result o.ensures.0 o.ensures.1 _ c.in_ok-state.was
    o.auto.work o.auto.entries o.auto.children

pub returns-then-state-ne1 : goal.returns-then-state-ne1
returns-then-state-ne1 c = run_18 _ _ _ _ _ _ _ _ _ _ c.loop-k.k c.loop-k.invariant c.requires.half_value.0 c.requires.half_value.1 c.loop-k-test.false c.if-state-ne1.true

pub returns : goal.returns
returns c = run_done _ _ _ _ _ _ _ _ _ _ c.loop-k.k c.loop-k.invariant c.requires.half_value.0 c.requires.half_value.1 c.loop-k-test.false c.if-state-ne1.false
