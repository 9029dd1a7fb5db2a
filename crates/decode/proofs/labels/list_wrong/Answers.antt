-- `list_wrong` meets its contract. The items are tested first; then a list that is longer than s repeats one of them,
-- and of any other the search over pairs decides.
use mathlib.Core.Path.{◌≡◌, sym, ◌∙◌}
use borrow.Author.Tests.{lt-ltb}
use Rattle.laws.specs.Library.{list_any_any}
use Rattle.laws.specs.Tools.{any, repeats}
use Rattle.decode.specs.Labels.{bad_item}
use Rattle.decode.proofs.LabelLaws.{too_long, wrong_item, right_items}
use Rattle.decode.proofs.labels.list_wrong.Goals.{After-some_wrong}
use Rattle.decode.proofs.labels.list_wrong.Goals as goal

-- what the test of the items says
tested : (c : After-some_wrong) → any (bad_item c.args.s c.args.hypotheses.now) c.args.list.now ≡ c.some_wrong.result
tested c = sym (list_any_any _ _) ∙ sym c.some_wrong.ensures

pub returns-then-some_wrong : goal.returns-then-some_wrong
returns-then-some_wrong c = sym (wrong_item _ _ _ (tested (goal.at.returns-then-some_wrong c).After-some_wrong ∙ c.if-some_wrong.true))

pub returns-then-list-s : goal.returns-then-list-s
returns-then-list-s c =
    let e = tested (goal.at.returns-then-list-s c).After-some_wrong ∙ c.if-some_wrong.false in
    lt-ltb _ _ c.if-list-s.true ∙ sym (right_items _ _ _ e ∙ too_long _ _ _ e c.if-list-s.true)

pub returns-else-list-s : goal.returns-else-list-s
returns-else-list-s c =
    let again : c.repeats.result ≡ repeats c.args.list.now = c.repeats.ensures in
    again ∙ sym (right_items _ _ _ (tested (goal.at.returns-else-list-s c).After-some_wrong ∙ c.if-some_wrong.false))
