-- The lengths of the arrays are given by a law.
use Rattle.bulonkeri.proofs.Arrays.{long}
use Rattle.bulonkeri.proofs.spelling.run.Goals as goal

pub slice_bounds-show-end : goal.slice_bounds-show-end
slice_bounds-show-end g c = long 622592

pub slice_bounds-show-end-2 : goal.slice_bounds-show-end-2
slice_bounds-show-end-2 g c = long 1048832

pub slice_bounds-show-end-3 : goal.slice_bounds-show-end-3
slice_bounds-show-end-3 g c = long 4096

pub slice_bounds-show-end-4 : goal.slice_bounds-show-end-4
slice_bounds-show-end-4 g c = long 393216
