-- `put_steps` meets its contract. The letters of the first i steps are laid, whatever list of steps the words say.
-- Some list is said, so that the end is known to be near.
use native.Mathlib.Omega.{arith}
use Rattle.lettering.proofs.Lemmas.{step_ready}
use Rattle.compressed.proofs.StepLaws.{steps_none, steps_more}
use Rattle.compressed.proofs.steps.put_steps.Goals as goal

pub loop-i-init : goal.loop-i-init
loop-i-init c = steps_none _ _ _ _ _ _ (omega arith)

pub put_step-laid-requires : goal.put_step-laid-requires
put_step-laid-requires c =
    let pre = c.requires in
    let r = pre.near_steps.1 in record {
      layout_value = pre.layout_value;
      near_steps = (
        omega (
          arith,
          pre.near_steps.0,
          (c.loop-i.invariant.laid r.thm r.labels r.ts r.says).near,
        ),
        step_ready _ _ _ _ _ _ r (omega arith),
      );
    }

pub loop-i-preserved : goal.loop-i-preserved
loop-i-preserved c = steps_more _ _ _ (omega arith) (omega arith) c.loop-i.invariant c.put_step-laid.ensures
