-- `put_step` meets its contract: the code of the step's number is put, and a `Z` after it where the step is marked.
-- A code has few letters, so that the place after it is near.
use native.Mathlib.Omega.{arith}
use Rattle.lettering.proofs.Lemmas.{wrote_plain, wrote_marked, near_next}
use Rattle.lettering.proofs.put_step.Goals as goal

pub returns-then-work-at-eq0 : goal.returns-then-work-at-eq0
returns-then-work-at-eq0 c = wrote_plain _ _ _ _ _ _ _ _ _ (omega arith) c.step_number-number.ensures c.put_code-next.ensures (omega (arith, c.if-work-at-eq0.true))

pub put_letter-requires : goal.put_letter-requires
put_letter-requires c = omega (arith, c.requires.most_step_bound, near_next _ _ _ _ _ _ _ _ _ (omega arith) c.step_number-number.ensures c.put_code-next.ensures)

pub returns : goal.returns
returns c = wrote_marked _ _ _ _ _ _ _ _ _ (omega arith) c.step_number-number.ensures c.put_code-next.ensures _ _ (λ e. omega (arith, c.if-work-at-eq0.false)) c.put_letter.ensures
