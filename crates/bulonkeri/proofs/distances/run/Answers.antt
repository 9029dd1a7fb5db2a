-- The lengths of the arrays are given by a law.
use Rattle.bulonkeri.proofs.Arrays.{long}
use Rattle.bulonkeri.proofs.distances.run.Goals as goal

pub slice_bounds-show-end : goal.slice_bounds-show-end
slice_bounds-show-end g c = long 8192
