-- `labels_wrong` is test 3: bytes, then pairs. Labels fill the slice, so the bytes of all labels are the bytes of the slice.
-- Assumes nothing.
use mathlib.Core.Bool.{not}
use mathlib.Core.Path.{◌≡◌, sym, ap, ◌∙◌}
use Rattle.laws.specs.Decides.{first_holds, second_decides}
use Rattle.laws.specs.Library.{list_all_all}
use Rattle.laws.specs.Tools.{some_below}
use Rattle.defs.specs.Check.{label_byte, label_wrong}
use Rattle.label_check.proofs.LabelLaws.{bytes_of_labels}
use Rattle.label_check.proofs.labels_wrong.Goals.{After-bytes_right}
use Rattle.label_check.proofs.labels_wrong.Goals as goal

-- some label has a wrong byte just where the test of all bytes fails
tested : (c : After-bytes_right) → some_below (label_wrong c.args.statements.now c.args.labels.now) c.args.count ≡ not c.bytes_right.result
tested c = bytes_of_labels _ _ _ c.requires ∙ ap not (sym (list_all_all label_byte _) ∙ sym c.bytes_right.ensures)

pub returns-then-not-bytes_right : goal.returns-then-not-bytes_right
returns-then-not-bytes_right c = let failed = ap not c.if-not-bytes_right.true in failed ∙ first_holds _ _ (tested (goal.at.returns-then-not-bytes_right c).After-bytes_right ∙ failed)

pub returns-else-not-bytes_right : goal.returns-else-not-bytes_right
returns-else-not-bytes_right c =
    second_decides _ _ _ (tested (goal.at.returns-else-not-bytes_right c).After-bytes_right ∙ ap not c.if-not-bytes_right.false) c.label_repeated.ensures
