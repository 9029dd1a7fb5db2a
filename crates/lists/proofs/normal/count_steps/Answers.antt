-- The word of QED among the counted sizes is its size.
-- It lies within them, since QED is an entry.
use Rattle.counts.specs.Sizes.{size_in}
use Rattle.lists.proofs.normal.count_steps.Goals as goal

pub returns : goal.returns
returns c = size_in _ _ _ _ _ c.count_normal.ensures c.requires.qed_lt_n.0
