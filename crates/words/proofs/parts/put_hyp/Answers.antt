-- `put_hyp` meets its contract: the label is put, then the equals sign behind it; nothing of a label of no bytes.
-- The span lies inside the label bytes by what is required.
use native.Mathlib.Omega.{arith}
use Rattle.words.proofs.PartLaws.{no_hyp_put, hyp_0_put, hyp_put}
use Rattle.words.proofs.parts.put_hyp.Goals as goal

pub returns-in-Some : goal.returns-in-Some
returns-in-Some c = rw c.in-Some.is (hyp_put _ _ (λ z. omega arith) (omega arith) (omega arith) c.put_piece-equals.ensures c.put_byte.ensures)

pub returns-in_default : goal.returns-in_default
returns-in_default c = rw c.in-Some.is (hyp_0_put _ _ _ _ (omega arith))

pub returns-in_default-2 : goal.returns-in_default-2
returns-in_default-2 c = rw c.in_default.is (no_hyp_put _ _ _)
