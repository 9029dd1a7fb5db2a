-- `use_steps` meets its contract. The invariant: the first i steps are used.
-- A turn is one step more, and the steps themselves stand apart from what it writes. Assumes nothing.
use native.Mathlib.Omega.{arith}
use Rattle.listing.proofs.Turns.{none_yet, all_done, turn, step_ready}
use Rattle.listing.proofs.uses.use_steps.Goals as goal

pub loop-i-init : goal.loop-i-init
loop-i-init c = none_yet _ _ _ _ _

pub use_step-listed-requires : goal.use_step-listed-requires
use_step-listed-requires c =
    record {
      step_in = omega (arith, c.loop-i.invariant.same_length, c.requires.apart, c.requires.room);
      ready = step_ready _ _ _ _ _ _ _ _ c.requires c.loop-i.invariant c.loop-i-test.true;
    }

pub loop-i-preserved : goal.loop-i-preserved
loop-i-preserved c = turn _ _ _ _ _ _ _ _ c.loop-i.invariant c.loop-i-test.true c.requires.apart _ _ c.use_step-listed.auto.work c.use_step-listed.ensures

pub returns : goal.returns
returns c = all_done _ _ _ _ _ _ _ _ (omega arith) c.loop-i.invariant
