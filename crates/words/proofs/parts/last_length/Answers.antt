-- `last_length` meets its contract: the referred name stands in place of the label, which stands where there is none, by None or by 0.
-- Either is no longer than a label may be.
use native.Mathlib.Omega.{arith}
use Rattle.words.proofs.PartLaws.{label_length, label_0_length, name_length}
use Rattle.words.proofs.parts.last_length.Goals as goal

pub returns-in-Some : goal.returns-in-Some
returns-in-Some c = rw c.in-Some.is (name_length _ _ _ (omega arith) (λ z. omega arith) c.decimal_length.ensures)

pub returns-in_default : goal.returns-in_default
returns-in_default c = rw c.in-Some.is (label_0_length _ _ c.requires (omega arith))

pub returns-in_default-2 : goal.returns-in_default-2
returns-in_default-2 c = rw c.in_default.is (label_length _ c.requires)
