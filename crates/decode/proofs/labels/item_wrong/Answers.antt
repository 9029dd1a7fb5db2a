-- `item_wrong` meets its contract: an item below s is wrong where the theorem's list holds it.
-- What the library says of `contains` is `member` of module Tools.
use mathlib.Core.Path.{sym, ◌∙◌}
use native.Mathlib.Omega.{arith}
use Rattle.laws.specs.Library.{list_any_member}
use Rattle.decode.proofs.LabelLaws.{item_next}
use Rattle.decode.proofs.labels.item_wrong.Goals as goal

pub returns-else-s-k : goal.returns-else-s-k
returns-else-s-k c = c.contains.ensures.value ∙ list_any_member _ _ ∙ sym (item_next _ _ _ (omega arith))
