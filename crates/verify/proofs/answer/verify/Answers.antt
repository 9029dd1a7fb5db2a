-- `verify::verify` meets its contract: the verdict is that of the three ways, and each slice, as long as it came, is zero.
-- What the verdict means follows from the two equations (module Verification). Assumes nothing.
use mathlib.Core.Path.{◌∙◌}
use Rattle.verify.specs.Verification.{verification}
use Rattle.verify.proofs.WipeLaws.{wiped_same}
use Rattle.verify.proofs.answer.verify.Goals as goal

pub returns : goal.returns
returns c =
    let kept = c.read_all-verdict.auto in
    verification _ _ _ _ _ _ c.read_all-verdict.ensures
    (c.wipe.ensures ∙ wiped_same _ _ kept.work kept.sums kept.packed kept.steps kept.list kept.letters kept.built kept.kids kept.entries kept.children)
