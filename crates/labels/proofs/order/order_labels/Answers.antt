-- `order_labels` meets its contract: each call leaves what the next one asks for, which the laws of module Ordering say.
-- What is left is that the code's s, section, list and floating count are the table's.
use Rattle.labels.proofs.Ordering.{few, room, weigh_ready, ends_in, fitting, names_ready, labels_ready, list_ordered}
use Rattle.labels.proofs.Listed.{floatings_are}
use Rattle.theorem.proofs.Goals.{theorem_ok, list_statements, list_short}
use Rattle.defs.specs.Checked.{header}
use Rattle.defs.specs.Laws.{good}
use Rattle.defs.specs.Order.{floatings}
use Rattle.defs.specs.Table.{statements, statement_words, mandatory}
use lib.ListN.{length}
use borrow.Rule.Slice.PartMut.{put_mid, same_len_mid}
use native.Mathlib.Omega.{arith}
use Prim.Native.Nat.{◌+◌, ◌-◌, ◌*◌, ◌≤◌}
use mathlib.Core.Path.{◌≡◌, ap, ◌∙◌}
use Rattle.labels.proofs.order.order_labels.Goals.{After-count_floatings-floatings, After-label_order}
use Rattle.labels.proofs.order.order_labels.Goals as goal

-- the statements, the theorem's list and its floatings, as the code has them
ss_is : (c : After-count_floatings-floatings) → c.statement_section-statements.result.now ≡ statement_words c.args.words.now
ss_is c = c.statement_section-statements.ensures

s_is : (c : After-count_floatings-floatings) → c.read_header-s.result.statements ≡ statements c.args.words.now
s_is c = c.read_header-s.ensures.statements_is

floating_is : (c : After-count_floatings-floatings) → c.count_floatings-floatings.result ≡ floatings c.args.words.now
floating_is c = floatings_are _ _ _ _ (ss_is c) c.theorem_list-theorem.ensures c.count_floatings-floatings.ensures

base_is : (c : After-count_floatings-floatings) → length c.theorem_list-theorem.result.now ≡ length (mandatory c.args.words.now)
base_is c = ap length c.theorem_list-theorem.ensures

-- the arrays end inside the slice
bound : (c : After-count_floatings-floatings) → (c.args.from + 8 * c.read_header-s.result.statements) ≤ length c.args.work.now
bound c = room _ _ _ _ _ _ c.requires _ _ _ _ (ss_is c) (s_is c) (floating_is c) (base_is c)

-- no more statements are listed than there are
little : (c : After-count_floatings-floatings) → c.count_floatings-floatings.result + c.args.many ≤ c.read_header-s.result.statements
little c = few _ _ _ _ _ _ c.requires _ _ _ _ (ss_is c) (s_is c) (floating_is c) (base_is c)

-- the slice with the order in it is as long as it was
ordered_long : (c : After-label_order) →
    let costs = c.args.from + 5 * c.read_header-s.result.statements in
    let end = costs + c.args.many + 2 * c.args.many in
    length (put_mid costs (end - costs) c.weigh.new.work c.label_order.new.work) ≡ length c.args.work.now
ordered_long c =
    let costs = c.args.from + 5 * c.read_header-s.result.statements in
    let end = costs + c.args.many + 2 * c.args.many in
    same_len_mid costs (end - costs) c.weigh.new.work c.label_order.new.work c.label_order.auto.work ∙ c.weigh.auto.work

pub read_header-s-requires : goal.read_header-s-requires
read_header-s-requires c = (header _ (good _ _ c.requires.ok).ok1).ten

pub statement_section-statements-requires : goal.statement_section-statements-requires
statement_section-statements-requires c = header _ (good _ _ c.requires.ok).ok1

pub theorem_list-theorem-requires : goal.theorem_list-theorem-requires
theorem_list-theorem-requires c = theorem_ok _ _ c.requires.ok

pub count_floatings-floatings-requires : goal.count_floatings-floatings-requires
count_floatings-floatings-requires c = rw (c.statement_section-statements.ensures, c.theorem_list-theorem.ensures) (list_statements _ (theorem_ok _ _ c.requires.ok))

pub overflow_add-order : goal.overflow_add-order
overflow_add-order c = omega (arith, bound c, little c)

pub overflow_mul-end : goal.overflow_mul-end
overflow_mul-end c = omega (arith, bound c, little c)

pub overflow_add-end : goal.overflow_add-end
overflow_add-end c = omega (arith, bound c, little c)

pub weigh-requires : goal.weigh-requires
weigh-requires c =
    let at = (goal.at.weigh-requires c).After-count_floatings-floatings in
    weigh_ready _ _ _ _ _ _ c.requires _ _ _ _ (ss_is at) (s_is at) (floating_is at) (base_is at)

pub slice_bounds-label_order-end : goal.slice_bounds-label_order-end
slice_bounds-label_order-end c =
    let at = (goal.at.slice_bounds-label_order-end c).After-count_floatings-floatings in
    ends_in _ _ _ _ _ _ c.requires _ _ _ _ (ss_is at) (s_is at) (floating_is at) (base_is at) _ c.weigh.ensures c.weigh.auto.work

pub label_order-requires : goal.label_order-requires
label_order-requires c =
    let at = (goal.at.label_order-requires c).After-count_floatings-floatings in
    fitting _ _ _ _ _ _ c.requires _ _ _ _ (ss_is at) (s_is at) (floating_is at) (base_is at) _ c.weigh.ensures c.weigh.auto.work

pub name_statements-requires : goal.name_statements-requires
name_statements-requires c =
    let at = (goal.at.name_statements-requires c).After-count_floatings-floatings in
    names_ready _ _ _ _ _ _ c.requires _ _ _ _ (ss_is at) (s_is at) (floating_is at) (base_is at) _ c.weigh.ensures c.weigh.auto.work
    _ c.label_order.ensures c.label_order.auto.work (ordered_long (goal.at.name_statements-requires c).After-label_order)

pub overflow_cast-theorem : goal.overflow_cast-theorem
overflow_cast-theorem c = omega (arith, base_is (goal.at.overflow_cast-theorem c).After-count_floatings-floatings, list_short _ (theorem_ok _ _ c.requires.ok))

pub number_labels-requires : goal.number_labels-requires
number_labels-requires c =
    let at = (goal.at.number_labels-requires c).After-count_floatings-floatings in
    labels_ready _ _ _ _ _ _ c.requires _ _ _ _ (ss_is at) (s_is at) (floating_is at) (base_is at) _ c.weigh.ensures c.weigh.auto.work
    _ c.label_order.ensures c.label_order.auto.work _ c.name_statements.ensures (c.name_statements.auto.work ∙ ordered_long (goal.at.number_labels-requires c).After-label_order)

pub returns : goal.returns
returns c =
    let at = (goal.at.returns c).After-count_floatings-floatings in
    list_ordered _ _ _ _ _ _ c.requires _ _ _ _ (ss_is at) (s_is at) (floating_is at) (base_is at) _ c.weigh.ensures c.weigh.auto.work
    _ c.label_order.ensures c.label_order.auto.work _ c.name_statements.ensures (c.name_statements.auto.work ∙ ordered_long (goal.at.returns c).After-label_order) _ c.number_labels.ensures
