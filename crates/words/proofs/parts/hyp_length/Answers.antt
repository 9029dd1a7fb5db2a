-- `hyp_length` meets its contract: a hypothesis' label has an equals sign behind it, and a label of no bytes is none.
-- What lies in it does not matter for its length.
use native.Mathlib.Omega.{arith}
use Rattle.words.proofs.PartLaws.{no_hyp_length, hyp_0_length, hyp_length}
use Rattle.words.proofs.parts.hyp_length.Goals as goal

pub returns-in-Some : goal.returns-in-Some
returns-in-Some c = rw c.in-Some.is (hyp_length _ (rw c.in-Some.is at c.requires) (λ z. omega arith))

pub returns-in_default : goal.returns-in_default
returns-in_default c = rw c.in-Some.is (hyp_0_length _ (omega arith))

pub returns-in_default-2 : goal.returns-in_default-2
returns-in_default-2 c = rw c.in_default.is no_hyp_length
