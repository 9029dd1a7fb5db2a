-- `entry_right` decides the line of an entry: each early return lacks one of its facts, the last test has the others.
-- A difference is taken, not a sum, so that nothing wraps. Assumes nothing.
use Prim.Native.Nat.{◌-◌}
use mathlib.Core.Path.{sym, ap}
use native.Mathlib.Omega.{arith}
use Rattle.defs.specs.Table.{hyp_count_in}
use Rattle.laws.specs.Decides.{last_most}
use Rattle.table_check.proofs.EntryLaws.{entry_decides}
use Rattle.table_check.proofs.entries.entry_right.Goals as goal

pub returns-then-count-statement : goal.returns-then-count-statement
returns-then-count-statement c = sym ((entry_decides _ _ _ _ _).no (λ right. omega arith))

pub returns-then-child_start-taken : goal.returns-then-child_start-taken
returns-then-child_start-taken c = sym ((entry_decides _ _ _ _ _).no (λ right. omega arith))

pub returns-then-children-hyp_count : goal.returns-then-children-hyp_count
returns-then-children-hyp_count c = sym ((entry_decides _ _ _ _ _).no (λ right. omega (arith, ap (hyp_count_in c.args.statements.now) c.statement_of-statement.ensures)))

pub returns : goal.returns
returns c =
    let named = ap (hyp_count_in c.args.statements.now) c.statement_of-statement.ensures in
    last_most (entry_decides _ _ _ _ _) c.child_count-children.result (c.args.child_refs - c.args.taken)
    (λ l. record { stmt_below = omega arith; start = omega arith; as_many = omega (arith, named); inside = omega arith })
    (λ right. omega arith)
