-- `statements_wrong` is test 2. Invariant: the running sums are those of the statements passed, and each of their lines is kept.
-- A line that is not kept decides at once; after the loop the sums must be the whole places. Assumes nothing.
use mathlib.Core.Bool.{not}
use mathlib.Core.Path.{◌≡◌, sym, ap, ◌∙◌}
use native.Mathlib.Omega.{arith}
use borrow.Author.Count.{below_none, below_more}
use Rattle.table_check.specs.Right.{TakenBefore, StatementRight}
use Rattle.laws.specs.Decides.{last_differs}
use Rattle.table_check.proofs.StatementLaws.{statement_decides, statements_decide, taken_none, taken_next, line_wrong}
use Rattle.table_check.proofs.statements.statements_wrong.Goals.{After-loop-k, Else-not-statement_right}
use Rattle.table_check.proofs.statements.statements_wrong.Goals as goal

-- the line of the statement that was just looked at
here : (c : Else-not-statement_right) → StatementRight c.args.statements.now c.args.references c.args.bytes c.loop-k.k
here c = (statement_decides _ _ _ _).so (sym c.statement_right.ensures ∙ c.if-not-statement_right.false)

-- after the loop the sums are those of all statements
done : (c : After-loop-k) → TakenBefore c.args.statements.now c.args.references c.args.bytes c.args.count c.loop-k.taken.labels c.loop-k.taken.hyps
done c = let all : c.loop-k.k ≡ c.args.count = omega arith in rw all at c.loop-k.invariant.1

pub loop-k-init : goal.loop-k-init
loop-k-init c = (omega arith, taken_none _ _ _, below_none _)

pub returns-then-not-statement_right : goal.returns-then-not-statement_right
returns-then-not-statement_right c = ap not (sym (line_wrong _ _ _ _ c.loop-k.k (omega arith) (sym c.statement_right.ensures ∙ c.if-not-statement_right.true)))

pub overflow_add-taken : goal.overflow_add-taken
overflow_add-taken c = omega (arith, here (goal.at.overflow_add-taken c).Else-not-statement_right)

pub overflow_add-taken-in-loop-k : goal.overflow_add-taken-in-loop-k
overflow_add-taken-in-loop-k c = omega (arith, here (goal.at.overflow_add-taken-in-loop-k c).Else-not-statement_right)

pub loop-k-preserved : goal.loop-k-preserved
loop-k-preserved c =
    let k = c.loop-k.k in
    let next = taken_next _ _ _ k _ _ c.loop-k.invariant.1 (here (goal.at.loop-k-preserved c).Else-not-statement_right) in
    (omega arith, rw (c.label_length.ensures, c.hyp_count.ensures) next, below_more _ k c.loop-k.invariant.2 (here (goal.at.loop-k-preserved c).Else-not-statement_right))

pub returns-then-taken-bytes : goal.returns-then-taken-bytes
returns-then-taken-bytes c = let taken = done (goal.at.returns-then-taken-bytes c).After-loop-k in ap not (sym ((statements_decide _ _ _ _).no (λ right. omega (arith, taken, right.labels_fill))))

pub returns : goal.returns
returns c =
    let taken = done (goal.at.returns c).After-loop-k in
    let all : c.loop-k.k ≡ c.args.count = omega arith in
    last_differs (statements_decide _ _ _ _) c.loop-k.taken.hyps c.args.references
    (λ e. record { line = rw all at c.loop-k.invariant.2; labels_fill = omega (arith, taken); hyps_fill = omega (arith, taken) })
    (λ right. omega (arith, taken, right.hyps_fill))
