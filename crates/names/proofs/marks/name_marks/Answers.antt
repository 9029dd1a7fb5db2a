-- `name_marks` meets its contract. The marks so far have their names, and the numbers not tried yet are free just where the slice holds 0.
-- The numbers with a place cannot run out before the marks, since no name is more than s past its mark.
use native.Mathlib.Omega.{arith}
use Rattle.names.proofs.MarkLaws.{naming_first, try_most, naming_free, naming_label, all_named}
use Rattle.names.proofs.marks.name_marks.Goals.{then-names-number-eq0, else-names-number-eq0}
use Rattle.names.proofs.marks.name_marks.Goals as goal

pub loop-number-init : goal.loop-number-init
loop-number-init c = (omega arith, naming_first _ _ _ _ _ c.mark_taken.ensures)

pub loop-number-preserved : goal.loop-number-preserved
loop-number-preserved c =
    let p = c.loop-number in
    elim c.if-names-number-eq0.branch [
      | then-names-number-eq0 w ↦ (omega arith, rw (w.names-is, w.mark-is) (naming_free p.invariant.1 (omega arith) (omega arith) (omega arith)))
      | else-names-number-eq0 w ↦ (omega arith, rw (w.names-is, w.mark-is) (naming_label p.invariant.1 (omega arith) w.if-names-number-eq0.false))
    ]

pub returns : goal.returns
returns c = let p = c.loop-number.invariant.1 in all_named _ p (omega (arith, try_most p))
