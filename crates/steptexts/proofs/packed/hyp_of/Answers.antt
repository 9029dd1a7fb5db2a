-- `hyp_of` meets its contract: parent word 0 is the root's, whose index word is 0 too.
-- Any other is the parent's number plus 1.
use mathlib.Core.Path.{refl}
use native.Mathlib.Omega.{arith}
use Rattle.walk.specs.Hyps.{parent_of, index_of}
use Rattle.steptexts.proofs.packed.hyp_of.Goals as goal

pub returns-then-parent-eq0 : goal.returns-then-parent-eq0
unfolding parent_of index_of
returns-then-parent-eq0 c = (omega (arith, c.if-parent-eq0.true), omega (arith, c.requires (omega (arith, c.if-parent-eq0.true))))

pub returns : goal.returns
unfolding parent_of index_of
returns c = (omega (arith, c.if-parent-eq0.false), refl)
