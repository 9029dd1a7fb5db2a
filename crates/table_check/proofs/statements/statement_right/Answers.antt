-- `statement_right` decides the line of a statement: each early return lacks one of its facts, the last tests have the others.
-- Differences are taken, not sums, so that nothing wraps. Assumes nothing.
use Prim.Native.Nat.{◌-◌}
use mathlib.Core.Logic.{inl, inr, ⊎_elim}
use Rattle.std.specs.Prelude.{◌≢◌}
use mathlib.Core.Path.{◌≡◌, sym, ◌∙◌}
use native.Mathlib.Omega.{arith}
use Rattle.std.proofs.Common.{rules}
use Rattle.defs.specs.Table.{kind_in}
use Rattle.laws.specs.Decides.{last_equal, last_most}
use Rattle.table.specs.Kinds.{says_most, says_none}
use Rattle.table_check.proofs.StatementLaws.{statement_decides}
use Rattle.table_check.proofs.statements.statement_right.Goals as goal

pub returns-in_default : goal.returns-in_default
returns-in_default c =
    let past = says_none _ (sym c.kind_of.ensures ∙ c.in_default.is) in
    sym ((statement_decides _ _ _ _).no (λ right. omega arith))

pub returns-then-label_start-taken : goal.returns-then-label_start-taken
returns-then-label_start-taken c = sym ((statement_decides _ _ _ _).no (λ right. omega arith))

pub returns-then-length-lt1 : goal.returns-then-length-lt1
returns-then-length-lt1 c = sym ((statement_decides _ _ _ _).no (λ right. omega arith))

pub returns-then-length-gt-MAX_LABEL_LENGTH : goal.returns-then-length-gt-MAX_LABEL_LENGTH
returns-then-length-gt-MAX_LABEL_LENGTH c = sym ((statement_decides _ _ _ _).no (λ right. omega arith))

pub returns-then-bytes-taken : goal.returns-then-bytes-taken
returns-then-bytes-taken c = sym ((statement_decides _ _ _ _).no (λ right. omega arith))

pub returns-then-hyp_start-taken : goal.returns-then-hyp_start-taken
returns-then-hyp_start-taken c = sym ((statement_decides _ _ _ _).no (λ right. omega arith))

pub returns-then-ne : goal.returns-then-ne
returns-then-ne c =
    let said = says_most _ _ (sym c.kind_of.ensures ∙ c.in-Some.is) in
    let some : kind_in c.args.statements.now c.args.k.0 ≢ 0 = search rules in
    last_equal (statement_decides _ _ _ _) c.hyp_count-count.result 0
    (λ none. record { kind_most = omega arith; label_start_lem = omega arith; label_some = omega arith; label_most = omega arith; hyp_start_lem = omega arith; hyp_none = inr (omega arith); label_inside = omega arith; hyp_inside = omega arith })
    (λ right. ⊎_elim (λ e. absurd (omega arith)) (λ e. omega arith) right.hyp_none)

pub returns : goal.returns
returns c =
    let none : kind_in c.args.statements.now c.args.k.0 ≡ 0 = search rules in
    last_most (statement_decides _ _ _ _) c.hyp_count-count.result (c.args.references - c.args.taken.hyps)
    (λ inside. record { kind_most = omega arith; label_start_lem = omega arith; label_some = omega arith; label_most = omega arith; hyp_start_lem = omega arith; hyp_none = inl (omega arith); label_inside = omega arith; hyp_inside = omega arith })
    (λ right. omega arith)
