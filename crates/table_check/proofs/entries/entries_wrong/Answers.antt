-- `entries_wrong` is test 5. Invariant: the running sum is that of the entries passed, and each of their lines is kept.
-- A line that is not kept decides at once; after the loop the sum must be the whole place. Assumes nothing.
use mathlib.Core.Bool.{not}
use mathlib.Core.Path.{◌≡◌, sym, ap, ◌∙◌}
use native.Mathlib.Omega.{arith}
use borrow.Author.Count.{below_none, below_more}
use Rattle.table_check.specs.Right.{EntryRight}
use Rattle.laws.specs.Decides.{last_differs}
use Rattle.table_check.proofs.EntryLaws.{entry_decides, entries_decide, children_none, children_next, entry_wrong}
use Rattle.table_check.proofs.entries.entries_wrong.Goals.{Else-not-entry_right}
use Rattle.table_check.proofs.entries.entries_wrong.Goals as goal

-- the line of the entry that was just looked at
here : (c : Else-not-entry_right) → EntryRight c.args.statements.now c.args.entries.now c.args.count c.args.child_refs c.loop-e.e
here c = (entry_decides _ _ _ _ _).so (sym c.entry_right.ensures ∙ c.if-not-entry_right.false)

pub loop-e-init : goal.loop-e-init
loop-e-init c = (omega arith, children_none _ _, below_none _)

pub returns-then-not-entry_right : goal.returns-then-not-entry_right
returns-then-not-entry_right c = ap not (sym (entry_wrong _ _ _ _ _ c.loop-e.e (omega arith) (sym c.entry_right.ensures ∙ c.if-not-entry_right.true)))

pub overflow_add-taken : goal.overflow_add-taken
overflow_add-taken c = omega (arith, here (goal.at.overflow_add-taken c).Else-not-entry_right)

pub loop-e-preserved : goal.loop-e-preserved
loop-e-preserved c =
    let e = c.loop-e.e in
    let next = children_next _ _ _ _ e _ c.loop-e.invariant.1 (here (goal.at.loop-e-preserved c).Else-not-entry_right) in
    (omega arith, rw c.child_count-taken.ensures next, below_more _ e c.loop-e.invariant.2 (here (goal.at.loop-e-preserved c).Else-not-entry_right))

pub returns : goal.returns
returns c =
    let all : c.loop-e.e ≡ c.args.entry_count = omega arith in
    let taken = rw all at c.loop-e.invariant.1 in
    last_differs (entries_decide _ _ _ _ _) c.loop-e.taken c.args.child_refs
    (λ f. record { line = rw all at c.loop-e.invariant.2; fill = omega (arith, taken) })
    (λ right. omega (arith, taken, right.fill))
