-- The lengths of the arrays are given by a law.
use Rattle.bulonkeri.proofs.Arrays.{long}
use Rattle.bulonkeri.proofs.clean.run.Goals as goal

pub slice_bounds-renew-end : goal.slice_bounds-renew-end
slice_bounds-renew-end g c = long 622592

pub slice_bounds-renew-end-2 : goal.slice_bounds-renew-end-2
slice_bounds-renew-end-2 g c = long 327680

pub slice_bounds-renew-end-3 : goal.slice_bounds-renew-end-3
slice_bounds-renew-end-3 g c = long 24576

pub slice_bounds-renew-end-4 : goal.slice_bounds-renew-end-4
slice_bounds-renew-end-4 g c = long 65535
