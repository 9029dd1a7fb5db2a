-- `write_packed` meets its contract: module Endings says the answer at each return.
-- The text of the steps is the style's; measuring is lent no bytes, so it leaves the output as it was.
use Rattle.text.proofs.Endings.{no_room, fits, packed_late, over_both}
use Rattle.text.specs.Styles.{number_of, explicit_number}
use Rattle.steptexts.specs.Texts.{packed_style}
use Rattle.layout.proofs.Free.{none_lent}
use Rattle.layout.specs.Layouts.{layout_of}
use Rattle.defs.specs.Text.{packed_of, is_explicit, steps_text, text_of}
use lib.ListN.{length}
use native.Mathlib.Omega.{arith}
use mathlib.Core.List.{◌++◌}
use mathlib.Core.Path.{◌≡◌, refl, sym, ap, ◌∙◌}
use Rattle.text.proofs.writers.write_packed.Goals.{After-explicit-explicit, After-packed_text-length}
use Rattle.text.proofs.writers.write_packed.Goals as goal

-- the text of the steps is the style's
text_is : (c : After-explicit-explicit) → let a = c.args in steps_text a.words.now a.labels.now (layout_of a.layout) c.explicit-explicit.result (packed_of a.words.now c.explicit-explicit.result) ≡ text_of a.words.now a.labels.now (number_of a.style) (layout_of a.layout)
text_is c =
    let a = c.args in
    let e : c.explicit-explicit.result ≡ is_explicit (number_of a.style) = c.explicit-explicit.ensures ∙ explicit_number a.style in
    rw e (sym (packed_style a.words.now a.labels.now (number_of a.style) (layout_of a.layout) c.requires.style_value.0 c.requires.style_value.1))

-- measuring leaves the output as it was, and gives the length
unlent : (c : After-packed_text-length) → c.packed_text-length.new.out ++ c.args.out.now ≡ c.args.out.now
unlent c = none_lent c.packed_text-length.new.out c.args.out.now c.packed_text-length.auto.out

measured : (c : After-packed_text-length) → c.packed_text-length.result ≡ length (text_of c.args.words.now c.args.labels.now (number_of c.args.style) (layout_of c.args.layout))
measured c = c.packed_text-length.ensures.ends ∙ ap length ((let it : let a = c.args in steps_text a.words.now a.labels.now (layout_of a.layout) c.explicit-explicit.result (packed_of a.words.now c.explicit-explicit.result) ≡ text_of a.words.now a.labels.now (number_of a.style) (layout_of a.layout) = let a = c.args in
    let e : c.explicit-explicit.result ≡ is_explicit (number_of a.style) = c.explicit-explicit.ensures ∙ explicit_number a.style in
    rw e (sym (packed_style a.words.now a.labels.now (number_of a.style) (layout_of a.layout) c.requires.style_value.0 c.requires.style_value.1)) in it))

pub returns-then-out-length : goal.returns-then-out-length
returns-then-out-length c = no_room _ _ _ _ _ (packed_late _ _ _ _ _ c.requires.style_value.0 c.requires.style_value.1) _ _ _ refl refl (unlent (goal.at.returns-then-out-length c).After-packed_text-length) (omega (arith, c.if-out-length.true, ap length (unlent (goal.at.returns-then-out-length c).After-packed_text-length), measured (goal.at.returns-then-out-length c).After-packed_text-length))

pub returns : goal.returns
returns c =
    fits _ _ _ _ _ (packed_late _ _ _ _ _ c.requires.style_value.0 c.requires.style_value.1) _ _ (measured (goal.at.returns c).After-packed_text-length) (omega (arith, c.if-out-length.false, ap length (unlent (goal.at.returns c).After-packed_text-length), measured (goal.at.returns c).After-packed_text-length))
    (over_both _ _ _ _ _ (c.packed_text.ensures.fits (omega (
      arith,
      c.if-out-length.false,
      c.packed_text-length.ensures.ends,
    ))) (text_is (goal.at.returns c).After-explicit-explicit) (unlent (goal.at.returns c).After-packed_text-length))
