-- `list_packed` meets its contract: the walk leaves the packed list, and listing leaves its arrays behind it (laws of module Listed).
-- What is left is that the code's numbers are the header's.
use Rattle.order.proofs.Listed.{steps_are, can_list, now_listed}
use Rattle.theorem.proofs.Goals.{theorem_ok}
use Rattle.lists.proofs.ListLaws.{Stored, may_pack, stored}
use Rattle.walk.specs.Packed.{held}
use Rattle.defs.specs.Checked.{header}
use Rattle.defs.specs.Laws.{good}
use Rattle.defs.specs.Table.{entries}
use native.Mathlib.Omega.{arith}
use Prim.Native.Nat.{ℕ, ◌+◌}
use mathlib.Core.Bool.{false}
use mathlib.Core.Path.{◌≡◌, ap}
use Rattle.order.proofs.arranged.list_packed.Goals.{After-pack-end}
use Rattle.order.proofs.arranged.list_packed.Goals as goal

-- where the steps start, and that the packed list stands there
start_is : (c : After-pack-end) → c.read_header-header.result.entries + 1 ≡ entries c.args.words.now + 1
start_is c = ap (λ (n : ℕ). n + 1) c.read_header-header.ensures.entries_is

packed : (c : After-pack-end) → Stored c.args.words.now false (c.read_header-header.result.entries + 1) (held c.pack-end.new.work c.pack-end.result)
packed c = stored _ _ c.requires.ok _ _ c.read_header-header.ensures.qed_is _ (start_is c) _ c.pack-end.ensures

pub read_header-header-requires : goal.read_header-header-requires
read_header-header-requires c = (header _ (good _ _ c.requires.ok).ok1).ten

pub pack-end-requires : goal.pack-end-requires
pack-end-requires c = record { header_ok = header _ (good _ _ c.requires.ok).ok1; packable = may_pack _ _ c.requires.ok _ _ c.read_header-header.ensures.qed_is _ c.requires.enough }

pub overflow_sub-steps : goal.overflow_sub-steps
overflow_sub-steps c = (packed (goal.at.overflow_sub-steps c).After-pack-end).begins

pub statement_section-statements-requires : goal.statement_section-statements-requires
statement_section-statements-requires c = header _ (good _ _ c.requires.ok).ok1

pub theorem_list-theorem-requires : goal.theorem_list-theorem-requires
theorem_list-theorem-requires c = theorem_ok _ _ c.requires.ok

pub list_statements-count-requires : goal.list_statements-count-requires
list_statements-count-requires c =
    let at = (goal.at.list_statements-count-requires c).After-pack-end in
    can_list _ _ c.requires.ok _ _ _ (start_is at) (packed at) _ _ _ _ c.statement_section-statements.ensures c.theorem_list-theorem.ensures c.read_header-header.ensures.statements_is
    (steps_are _ _ c.requires.ok _ _ _ (start_is at) (packed at)) (omega (arith, c.requires.enough, c.pack-end.auto.work))

pub returns : goal.returns
returns c =
    let at = (goal.at.returns c).After-pack-end in
    now_listed _ _ c.requires.ok _ _ _ (start_is at) (packed at) _ _ _ _ c.statement_section-statements.ensures c.theorem_list-theorem.ensures c.read_header-header.ensures.statements_is
    (steps_are _ _ c.requires.ok _ _ _ (start_is at) (packed at)) _ _ c.list_statements-count.auto.work
    (omega (arith, (packed at).ends, c.requires.enough, c.pack-end.auto.work)) c.list_statements-count.ensures
