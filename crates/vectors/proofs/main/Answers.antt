-- The length of the array is given by a law.
use Rattle.vectors.proofs.Arrays.{long}
use Rattle.vectors.proofs.main.Goals as goal

pub slice_bounds-compare_input-end : goal.slice_bounds-compare_input-end
slice_bounds-compare_input-end c = long 1600000
