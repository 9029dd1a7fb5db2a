-- What was written stands inside the output, as a law of the outcome says.
use Rattle.defs.specs.Inside.{list_inside}
use Rattle.bulonkeri.proofs.Fits.{one_counts}
use Rattle.bulonkeri.proofs.list.step_list.Goals as goal

pub returns-then-kind : goal.returns-then-kind
returns-then-kind c = one_counts _ c.packed_list.ensures (list_inside _ _ _ _ _ _)

pub returns : goal.returns
returns c = one_counts _ c.normal_list.ensures (list_inside _ _ _ _ _ _)
