-- What was written stands inside the output, as a law of the outcome says.
use Rattle.defs.specs.Inside.{parents_inside}
use Rattle.bulonkeri.proofs.Fits.{one_counts}
use Rattle.bulonkeri.proofs.parents.count.Goals as goal

pub returns : goal.returns
returns c = one_counts _ c.parents.ensures (parents_inside _ _ _)
