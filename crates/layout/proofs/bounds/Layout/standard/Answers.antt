-- `Layout::standard` meets its contract: its three constants are those of the definition.
-- Nothing else is asked: the code computes nothing.
use mathlib.Core.Path.{refl}
use Rattle.defs.specs.Layout.{standard}
use Rattle.layout.proofs.bounds.Layout.standard.Goals as goal

pub returns : goal.returns
unfolding standard
returns c = refl
