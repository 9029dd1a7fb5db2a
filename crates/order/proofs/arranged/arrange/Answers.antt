-- `arrange` meets its contract: a refusal is the first test that fails (module Tests), else all stands in the working slice (module Arranging).
-- The helpers say what is known once the statements are listed.
use Rattle.std.proofs.Common.{rules, Err}
use Rattle.order.proofs.Arranging.{arrays_in, count_few, listed_part, listed_statements, can_order, arrangement}
use Rattle.order.proofs.Tests.{mixed_first, by_listed, none_long, line_room_least}
use Rattle.theorem.proofs.Goals.{theorem_ok, list_statements, list_short, refusal_10}
use Rattle.layout.specs.Layouts.{layout_of}
use Rattle.defs.specs.Refusals.{need32, bad10}
use Rattle.defs.specs.Checked.{header}
use Rattle.defs.specs.Text.{packed_of}
use Rattle.defs.specs.Order.{listed}
use Rattle.defs.specs.Laws.{good}
use Rattle.defs.specs.Table.{statements, entries}
use Rattle.laws.specs.Tools.{part}
use lib.ListN.{length}
use native.Mathlib.Omega.{arith}
use Prim.Native.Nat.{ℕ, ◌+◌, ◌-◌, ◌*◌, ◌≤◌}
use mathlib.Core.Bool.{false}
use mathlib.Core.Path.{◌≡◌, refl, sym, ap, ◌∙◌}
use Rattle.order.proofs.arranged.arrange.Goals.{After-mixed, After-list_packed-packed}
use Rattle.order.proofs.arranged.arrange.Goals as goal

-- refusal 10
is-mixed : (c : After-mixed) → c.mixed.result ≡ bad10 c.args.words.now
is-mixed c = c.mixed.ensures ∙ refusal_10 _ _ _ c.statement_section-statements.ensures c.theorem_list-theorem.ensures

-- once the statements are listed: the slice is as long as it was, the arrays end inside, and there are few
s-is : (c : After-list_packed-packed) → c.read_header-header.result.statements ≡ statements c.args.words.now
s-is c = c.read_header-header.ensures.statements_is

enough : (c : After-list_packed-packed) → need32 c.args.words.now ≤ length c.list_packed-packed.new.work
enough c = omega (arith, c.requires.listable.enough, c.list_packed-packed.auto.work)

ends : (c : After-list_packed-packed) → c.list_packed-packed.result.end + 8 * c.read_header-header.result.statements ≤ length c.list_packed-packed.new.work
ends c = omega (arith, s-is c, arrays_in _ _ c.requires.listable.ok (layout_of c.args.layout) c.requires.right _ _ c.list_packed-packed.ensures (enough c))

few : (c : After-list_packed-packed) → c.list_packed-packed.result.count ≤ c.read_header-header.result.statements
few c = omega (arith, s-is c, count_few _ _ c.requires.listable.ok (layout_of c.args.layout) c.requires.right _ _ c.list_packed-packed.ensures (enough c))

-- the part that is tested is document 01's list
listed_is : (c : After-list_packed-packed) →
    let from = c.list_packed-packed.result.end + 3 * c.read_header-header.result.statements in
    part from (from + c.list_packed-packed.result.count - from) c.list_packed-packed.new.work ≡ listed c.args.words.now (packed_of c.args.words.now false)
listed_is c =
    listed_part _ _ c.requires.listable.ok (layout_of c.args.layout) c.requires.right _ _ c.list_packed-packed.ensures (enough c) _ _ (omega (arith, s-is c)) refl

unmixed : (c : After-list_packed-packed) → bad10 c.args.words.now ≡ false
unmixed c = sym (c.mixed.ensures ∙ refusal_10 _ _ _ c.statement_section-statements.ensures c.theorem_list-theorem.ensures) ∙ c.if-mixed.false

pub statement_section-statements-requires : goal.statement_section-statements-requires
statement_section-statements-requires c = header _ (good _ _ c.requires.listable.ok).ok1

pub theorem_list-theorem-requires : goal.theorem_list-theorem-requires
theorem_list-theorem-requires c = theorem_ok _ _ c.requires.listable.ok

pub mixed-requires : goal.mixed-requires
mixed-requires c = rw (c.statement_section-statements.ensures, c.theorem_list-theorem.ensures) (list_statements _ (theorem_ok _ _ c.requires.listable.ok))

pub returns-then-mixed : goal.returns-then-mixed
returns-then-mixed c = record { number_is = mixed_first _ _ _ c.requires.listable.ok (sym (is-mixed (goal.at.returns-then-mixed c).After-mixed) ∙ c.if-mixed.true); done = tt }

pub read_header-header-requires : goal.read_header-header-requires
read_header-header-requires c = (header _ (good _ _ c.requires.listable.ok).ok1).ten

pub overflow_add-from : goal.overflow_add-from
overflow_add-from c = omega (arith, ends (goal.at.overflow_add-from c).After-list_packed-packed)

pub overflow_add-to : goal.overflow_add-to
overflow_add-to c = omega (arith, ends (goal.at.overflow_add-to c).After-list_packed-packed, few (goal.at.overflow_add-to c).After-list_packed-packed)

pub offset_bounds-work-from : goal.offset_bounds-work-from
offset_bounds-work-from c = omega (arith, ends (goal.at.offset_bounds-work-from c).After-list_packed-packed, few (goal.at.offset_bounds-work-from c).After-list_packed-packed)

pub slice_bounds-test_listed-end : goal.slice_bounds-test_listed-end
slice_bounds-test_listed-end c = omega (arith, ends (goal.at.slice_bounds-test_listed-end c).After-list_packed-packed, few (goal.at.slice_bounds-test_listed-end c).After-list_packed-packed)

pub overflow_sub-width : goal.overflow_sub-width
overflow_sub-width c = omega (arith, c.line_room-width.ensures, line_room_least _ c.requires.right)

pub test_listed-requires : goal.test_listed-requires
test_listed-requires c =
    listed_statements _ _ c.requires.listable.ok (layout_of c.args.layout) c.requires.right _ _ c.statement_section-statements.ensures
    (listed_is (goal.at.test_listed-requires c).After-list_packed-packed)

pub returns-in_err-test_listed : goal.returns-in_err-test_listed
returns-in_err-test_listed c =
    let is : c.from_residual.result ≡ Err c.in_err-test_listed.field-0.0 = search rules in
    let at = (goal.at.returns-in_err-test_listed c).After-list_packed-packed in
    rw is (record {
      number_is = by_listed _ _ _ c.requires.listable.ok _ _ _ c.statement_section-statements.ensures c.line_room-width.ensures (listed_is at) _ (unmixed at) c.in_err-test_listed.ensures;
      done = tt;
    })

pub order_labels-labels-requires : goal.order_labels-labels-requires
order_labels-labels-requires c =
    let at = (goal.at.order_labels-labels-requires c).After-list_packed-packed in
    can_order _ _ c.requires.listable.ok (layout_of c.args.layout) c.requires.right _ _ _ _ c.list_packed-packed.ensures (enough at) c.requires.cells_enough c.line_room-width.ensures
    (none_long _ _ _ c.requires.listable.ok _ _ _ c.statement_section-statements.ensures c.line_room-width.ensures (listed_is at) c.in_ok-test_listed.ensures)

pub overflow_cast-result : goal.overflow_cast-result
overflow_cast-result c =
    let at = (goal.at.overflow_cast-result c).After-list_packed-packed in
    omega (arith, ap length c.theorem_list-theorem.ensures, list_short _ (theorem_ok _ _ c.requires.listable.ok), few at, s-is at, (header _ (good _ _ c.requires.listable.ok).ok1).s_most)

pub returns : goal.returns
returns c =
    let at = (goal.at.returns c).After-list_packed-packed in
    let start_is : c.read_header-header.result.entries + 1 ≡ entries c.args.words.now + 1 = ap (λ (n : ℕ). n + 1) c.read_header-header.ensures.entries_is in
    record {
      number_is = by_listed _ _ _ c.requires.listable.ok _ _ _ c.statement_section-statements.ensures c.line_room-width.ensures (listed_is at) 0 (unmixed at) c.in_ok-test_listed.ensures;
      done = arrangement _ _ c.requires.listable.ok (layout_of c.args.layout) c.requires.right _ c.line_room-width.ensures
          (none_long _ _ _ c.requires.listable.ok _ _ _ c.statement_section-statements.ensures c.line_room-width.ensures (listed_is at) c.in_ok-test_listed.ensures) _ _ _ _
          c.list_packed-packed.ensures c.order_labels-labels.ensures c.order_labels-labels.auto.work (enough at) _
          start_is (omega (arith, c.list_packed-packed.ensures.end_is, start_is)) refl refl refl (omega (arith, ap length c.theorem_list-theorem.ensures));
    }
