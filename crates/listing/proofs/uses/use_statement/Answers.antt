-- `use_statement` meets its contract: a statement of the theorem's list is passed over, any other is used once more.
-- Its first use puts it behind the statements listed so far. Assumes nothing.
use lib.ListN.{length-set}
use native.Mathlib.Omega.{arith}
use Rattle.listing.proofs.Lemmas.{uses_fit, new_fits, more_listed, more_known, more_new}
use Rattle.listing.proofs.uses.use_statement.Goals as goal

pub returns-then-work-from-ne0 : goal.returns-then-work-from-ne0
returns-then-work-from-ne0 c = more_listed _ _ _ _ _ c.requires.room c.requires.inside c.if-work-from-ne0.true

pub overflow_add-work : goal.overflow_add-work
overflow_add-work c = omega (arith, uses_fit _ _ _ _ _ c.requires)

pub returns-then-uses-ne0 : goal.returns-then-uses-ne0
returns-then-uses-ne0 c = more_known _ _ _ _ _ c.requires.room c.requires.inside c.if-work-from-ne0.false (λ e. omega (arith, c.if-uses-ne0.true))

pub overflow_add-work-3 : goal.overflow_add-work-3
overflow_add-work-3 c = omega (arith, new_fits _ _ _ _ _ c.requires c.if-work-from-ne0.false (omega (arith, c.if-uses-ne0.false)))

pub offset_bounds-work-from-2 : goal.offset_bounds-work-from-2
offset_bounds-work-from-2 c = omega (arith, new_fits _ _ _ _ _ c.requires c.if-work-from-ne0.false (omega (arith, c.if-uses-ne0.false)))

pub bounds-work-from-2 : goal.bounds-work-from-2
bounds-work-from-2 c = simp length-set (omega (arith, new_fits _ _ _ _ _ c.requires c.if-work-from-ne0.false (omega (arith, c.if-uses-ne0.false)), c.requires.room))

pub overflow_add-result : goal.overflow_add-result
overflow_add-result c = omega (arith, new_fits _ _ _ _ _ c.requires c.if-work-from-ne0.false (omega (arith, c.if-uses-ne0.false)))

pub returns : goal.returns
returns c =
    more_new _ _ _ _ _ c.requires.room c.requires.inside (new_fits _ _ _ _ _ c.requires c.if-work-from-ne0.false (omega (arith, c.if-uses-ne0.false)))
    c.if-work-from-ne0.false (omega (arith, c.if-uses-ne0.false))
