-- `put_last` meets its contract: one piece is put, the label or the referred name.
-- The span lies inside the label bytes by what is required.
use native.Mathlib.Omega.{arith}
use Rattle.words.proofs.PartLaws.{label_put, label_0_put, name_put}
use Rattle.words.proofs.parts.put_last.Goals.{in_default-via-in-Some+else-number-ne0, in_default-via-in_default}
use Rattle.words.proofs.parts.put_last.Goals as goal

pub returns-in-Some : goal.returns-in-Some
returns-in-Some c = rw c.in-Some.is (name_put _ _ _ (λ z. omega arith) c.put_decimal.ensures)

pub returns-in_default : goal.returns-in_default
returns-in_default c =
    elim c.in_default.branch [
      | in_default-via-in-Some+else-number-ne0 w ↦ rw w.in-Some.is (label_0_put _ _ _ (omega arith) (omega arith) c.put_piece.ensures)
      | in_default-via-in_default w ↦ rw w.in_default.is (label_put _ _ (omega arith) c.put_piece.ensures)
    ]
