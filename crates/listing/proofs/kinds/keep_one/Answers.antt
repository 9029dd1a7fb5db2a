-- `keep_one` meets its contract: a statement that is wanted goes to the end, which is then one further.
-- Any other changes nothing. Assumes nothing.
use mathlib.Core.Path.{refl, ◌∙◌}
use Rattle.laws.specs.Lists.{clash}
use Rattle.listing.proofs.KindLaws.{wanted_is}
use Rattle.listing.proofs.kinds.keep_one.Goals as goal

pub returns-then-is_assertion-assertions : goal.returns-then-is_assertion-assertions
returns-then-is_assertion-assertions c =
    let w = wanted_is c.args.assertions _ _ _ _ c.kind_of.ensures c.eq-is_assertion.ensures in
    record { left_out = λ h. clash _ (w ∙ c.if-is_assertion-assertions.true) h; taken = λ h. (refl, refl) }

pub returns : goal.returns
returns c =
    let w = wanted_is c.args.assertions _ _ _ _ c.kind_of.ensures c.eq-is_assertion.ensures in
    record { left_out = λ h. (refl, refl); taken = λ h. clash _ h (w ∙ c.if-is_assertion-assertions.false) }
