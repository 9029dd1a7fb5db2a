-- The lengths of the arrays are given by a law.
use Rattle.bulonkeri.proofs.Arrays.{long}
use Rattle.bulonkeri.proofs.verifying.run.Goals as goal

pub slice_bounds-show-end : goal.slice_bounds-show-end
slice_bounds-show-end g c = long 622592

pub slice_bounds-show-end-2 : goal.slice_bounds-show-end-2
slice_bounds-show-end-2 g c = long 196608

pub slice_bounds-show-end-3 : goal.slice_bounds-show-end-3
slice_bounds-show-end-3 g c = long 48000

pub slice_bounds-show-end-4 : goal.slice_bounds-show-end-4
slice_bounds-show-end-4 g c = long 500000

pub slice_bounds-show-end-5 : goal.slice_bounds-show-end-5
slice_bounds-show-end-5 g c = long 4096

pub slice_bounds-show-end-6 : goal.slice_bounds-show-end-6
slice_bounds-show-end-6 g c = long 57600

pub slice_bounds-show-end-7 : goal.slice_bounds-show-end-7
slice_bounds-show-end-7 g c = long 24576

pub slice_bounds-show-end-8 : goal.slice_bounds-show-end-8
slice_bounds-show-end-8 g c = long 9600

pub slice_bounds-show-end-9 : goal.slice_bounds-show-end-9
slice_bounds-show-end-9 g c = long 24576

pub slice_bounds-show-end-10 : goal.slice_bounds-show-end-10
slice_bounds-show-end-10 g c = long 9600
