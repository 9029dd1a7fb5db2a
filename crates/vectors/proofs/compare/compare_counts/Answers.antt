-- Parents and distances are asked for and compared, in that order.
use Rattle.vectors.specs.Asked.{counts_compared}
use Rattle.vectors.proofs.compare.compare_counts.Goals as goal

pub returns : goal.returns
unfolding counts_compared
returns g c = rw (c.compare-between.ensures, c.parents-parents.ensures, c.distances-distances.ensures) at c.compare.ensures
