-- `put_letters` meets its contract. The letters before the turn's are laid from the line where the loop began.
-- The slice of letters says how many turns there are.
use native.Mathlib.Omega.{arith}
use Rattle.layout.proofs.Cutting.{laid_none, laid_more}
use Rattle.layout.proofs.cuts.put_letters.Goals as goal

pub loop-letter-init : goal.loop-letter-init
loop-letter-init c = laid_none _ _ _ _

pub loop-letter-preserved : goal.loop-letter-preserved
loop-letter-preserved c = laid_more _ _ c.loop-letter.invariant (omega arith) c.put_letter-laid.ensures
