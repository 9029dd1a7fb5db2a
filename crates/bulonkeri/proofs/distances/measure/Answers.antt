-- What was written stands inside the output, as a law of the outcome says.
use Rattle.defs.specs.Inside.{distances_inside}
use Rattle.bulonkeri.proofs.Fits.{one_counts}
use Rattle.bulonkeri.proofs.distances.measure.Goals as goal

pub returns : goal.returns
returns c = one_counts _ c.distances.ensures (distances_inside _ _ _)
