-- The words asked for are the definition's, and their number does not overflow.
-- The header's limits bound each term.
use Rattle.defs.specs.Refusals.{need32}
use native.Mathlib.Omega.{arith}
use Rattle.walk.proofs.room.working_words.Goals as goal

pub returns : goal.returns
unfolding need32
returns c = omega arith
