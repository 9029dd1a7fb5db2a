-- `mark_label` meets its contract. The label can be the decimal of one number only, the one that it says;
-- it is not, or that number has no place, where nothing is stored.
use mathlib.Core.Path.{sym, ◌∙◌}
use native.Mathlib.Omega.{arith}
use Rattle.names.proofs.TakenLaws.{not_marked, is_marked}
use Rattle.names.proofs.taken.mark_label.Goals.{else-at-taken-via-then-at-taken+else-is_decimal, else-at-taken-via-else-at-taken}
use Rattle.names.proofs.taken.mark_label.Goals as goal

pub returns-then-is_decimal : goal.returns-then-is_decimal
returns-then-is_decimal c = is_marked _ _ _ c.number_of-number.ensures c.requires c.if-at-taken.true (sym c.is_decimal.ensures ∙ c.if-is_decimal.true)

pub returns-else-at-taken : goal.returns-else-at-taken
returns-else-at-taken c =
    not_marked _ _ _ c.number_of-number.ensures c.requires
    (λ l. elim c.else-at-taken.branch [
      | else-at-taken-via-then-at-taken+else-is_decimal w ↦ sym w.is_decimal.ensures ∙ w.if-is_decimal.false
      | else-at-taken-via-else-at-taken w ↦ absurd (omega arith)
    ])
