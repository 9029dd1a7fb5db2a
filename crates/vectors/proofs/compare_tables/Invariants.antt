-- The measure is how much of the data is left.
use Rattle.std.proofs.Common.{◌-◌, length}
use Rattle.vectors.proofs.compare_tables.Given as goal

abbrev pub decreases-loop-tally : goal.decreases-loop-tally
decreases-loop-tally g l = length l.stored - l.tally.at
