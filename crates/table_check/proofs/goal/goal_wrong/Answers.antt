-- `goal_wrong` is test 7: each early return lacks one fact of the goal, the last test has the others.
-- The header by value is the header, and the section is the table's. Assumes nothing.
use mathlib.Core.Bool.{not}
use Rattle.std.specs.Prelude.{◌≢◌}
use mathlib.Core.Path.{◌≡◌, sym, ap}
use native.Mathlib.Omega.{arith}
use Rattle.std.proofs.Common.{rules}
use Rattle.defs.specs.Table.{kind_in}
use Rattle.defs.specs.Check.{bad7}
use Rattle.laws.specs.Decides.{last_reaches}
use Rattle.table_check.proofs.GoalLaws.{goal_decides, theorem_in, theorem_kind}
use Rattle.table_check.proofs.goal.goal_wrong.Goals as goal

pub returns-then-header-theorem : goal.returns-then-header-theorem
unfolding bad7
returns-then-header-theorem c = ap not (sym ((goal_decides _).no (λ right. omega arith)))

pub kind_of-requires : goal.kind_of-requires
kind_of-requires c = theorem_in _ _ _ c.requires.header_ok c.requires.statements_value c.read_header-header.ensures.theorem_is (omega arith)

pub returns-then-ne : goal.returns-then-ne
unfolding bad7
returns-then-ne c =
    let some : kind_in c.args.statements.now c.read_header-header.result.theorem.0 ≢ 0 = search rules in
    ap not (sym ((goal_decides _).no (λ right. omega (arith, right.kind_is_assertion, theorem_kind _ _ _ c.requires.statements_value c.read_header-header.ensures.theorem_is))))

pub returns : goal.returns
unfolding bad7
returns c =
    let is = theorem_kind _ _ _ c.requires.statements_value c.read_header-header.ensures.theorem_is in
    let none : kind_in c.args.statements.now c.read_header-header.result.theorem.0 ≡ 0 = search rules in
    last_reaches (goal_decides _) c.read_header-header.result.entries c.read_header-header.result.qed.0
    (λ l. record { theorem_below = omega arith; kind_is_assertion = omega (arith, is); qed_below = omega arith })
    (λ right. omega arith)
