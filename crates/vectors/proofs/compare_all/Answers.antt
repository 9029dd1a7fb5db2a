-- The lengths of the arrays are given by a law.
use Rattle.vectors.proofs.Arrays.{long}
use Rattle.vectors.proofs.compare_all.Goals as goal

pub slice_bounds-compare_tables-end : goal.slice_bounds-compare_tables-end
slice_bounds-compare_tables-end g c = long 65536

pub slice_bounds-compare_tables-end-2 : goal.slice_bounds-compare_tables-end-2
slice_bounds-compare_tables-end-2 g c = long 262144

pub slice_bounds-compare_tables-end-3 : goal.slice_bounds-compare_tables-end-3
slice_bounds-compare_tables-end-3 g c = long 262144

pub slice_bounds-compare_tables-end-4 : goal.slice_bounds-compare_tables-end-4
slice_bounds-compare_tables-end-4 g c = long 131072

pub slice_bounds-compare_tables-end-5 : goal.slice_bounds-compare_tables-end-5
slice_bounds-compare_tables-end-5 g c = long 524288
