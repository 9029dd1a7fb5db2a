-- `write_normal` meets its contract: module Endings says the answer at each return.
-- The text of the steps is the style's; measuring is lent no bytes, so it leaves the output as it was.
use Rattle.text.proofs.Endings.{no_room, fits, too_many, normal_late, over_both}
use Rattle.text.specs.Styles.{number_of, explicit_number}
use Rattle.steptexts.specs.Texts.{normal_ready, normal_style}
use Rattle.layout.proofs.Free.{none_lent}
use Rattle.layout.specs.Layouts.{layout_of}
use Rattle.defs.specs.Refusals.{bad13}
use Rattle.defs.specs.Text.{normal_of, is_explicit, steps_text, text_of}
use lib.ListN.{length}
use native.Mathlib.Omega.{arith}
use mathlib.Core.List.{◌++◌}
use mathlib.Core.Bool.{false}
use mathlib.Core.Path.{◌≡◌, refl, sym, ap, ◌∙◌}
use Rattle.text.proofs.writers.write_normal.Goals.{After-explicit-explicit, After-normal_text-length, Else-has_many_steps}
use Rattle.text.proofs.writers.write_normal.Goals as goal

-- past test 13 there are few steps, and test 15 is left
few : (c : Else-has_many_steps) → bad13 c.args.words.now ≡ false
few c = sym c.has_many_steps.ensures ∙ c.if-has_many_steps.false

-- the text of the steps is the style's
text_is : (c : After-explicit-explicit) → let a = c.args in steps_text a.words.now a.labels.now (layout_of a.layout) c.explicit-explicit.result (normal_of a.words.now c.explicit-explicit.result) ≡ text_of a.words.now a.labels.now (number_of a.style) (layout_of a.layout)
text_is c =
    let a = c.args in
    let e : c.explicit-explicit.result ≡ is_explicit (number_of a.style) = c.explicit-explicit.ensures ∙ explicit_number a.style in
    rw e (sym (normal_style a.words.now a.labels.now (number_of a.style) (layout_of a.layout) c.requires.style_value.0 c.requires.style_value.1))

-- measuring leaves the output as it was, and gives the length
unlent : (c : After-normal_text-length) → c.normal_text-length.new.out ++ c.args.out.now ≡ c.args.out.now
unlent c = none_lent c.normal_text-length.new.out c.args.out.now c.normal_text-length.auto.out

measured : (c : After-normal_text-length) → c.normal_text-length.result ≡ length (text_of c.args.words.now c.args.labels.now (number_of c.args.style) (layout_of c.args.layout))
measured c = c.normal_text-length.ensures.ends ∙ ap length ((let it : let a = c.args in steps_text a.words.now a.labels.now (layout_of a.layout) c.explicit-explicit.result (normal_of a.words.now c.explicit-explicit.result) ≡ text_of a.words.now a.labels.now (number_of a.style) (layout_of a.layout) = let a = c.args in
    let e : c.explicit-explicit.result ≡ is_explicit (number_of a.style) = c.explicit-explicit.ensures ∙ explicit_number a.style in
    rw e (sym (normal_style a.words.now a.labels.now (number_of a.style) (layout_of a.layout) c.requires.style_value.0 c.requires.style_value.1)) in it))

pub has_many_steps-requires : goal.has_many_steps-requires
has_many_steps-requires c = record { b = c.args.labels.now; ok = c.requires.writable.ok; enough = c.requires.writable.enough }

pub returns-then-has_many_steps : goal.returns-then-has_many_steps
returns-then-has_many_steps c = too_many _ _ _ _ _ c.requires.style_value.0 c.requires.style_value.1 (sym c.has_many_steps.ensures ∙ c.if-has_many_steps.true) _ _ refl refl

pub normal_text-length-requires : goal.normal_text-length-requires
normal_text-length-requires c = record {
  layout_value = c.requires.writable.right;
  normal_ready = normal_ready _ _ c.requires.writable.ok _ (few (goal.at.normal_text-length-requires c).Else-has_many_steps) (omega (
    arith,
    c.requires.writable.enough,
    c.has_many_steps.auto.work,
  ));
}

pub returns-then-out-length : goal.returns-then-out-length
returns-then-out-length c = no_room _ _ _ _ _ (normal_late _ _ _ _ _ c.requires.style_value.0 c.requires.style_value.1 (few (goal.at.returns-then-out-length c).Else-has_many_steps)) _ _ _ refl refl (unlent (goal.at.returns-then-out-length c).After-normal_text-length) (omega (arith, c.if-out-length.true, ap length (unlent (goal.at.returns-then-out-length c).After-normal_text-length), measured (goal.at.returns-then-out-length c).After-normal_text-length))

pub normal_text-requires : goal.normal_text-requires
normal_text-requires c = record {
  layout_value = c.requires.writable.right;
  normal_ready = normal_ready _ _ c.requires.writable.ok _ (few (goal.at.normal_text-requires c).Else-has_many_steps) (omega (
    arith,
    c.requires.writable.enough,
    c.has_many_steps.auto.work,
    c.normal_text-length.auto.stack,
  ));
}

pub returns : goal.returns
returns c =
    fits _ _ _ _ _ (normal_late _ _ _ _ _ c.requires.style_value.0 c.requires.style_value.1 (few (goal.at.returns c).Else-has_many_steps)) _ _ (measured (goal.at.returns c).After-normal_text-length) (omega (arith, c.if-out-length.false, ap length (unlent (goal.at.returns c).After-normal_text-length), measured (goal.at.returns c).After-normal_text-length))
    (over_both _ _ _ _ _ (c.normal_text.ensures.fits (omega (
      arith,
      c.if-out-length.false,
      c.normal_text-length.ensures.ends,
    ))) (text_is (goal.at.returns c).After-explicit-explicit) (unlent (goal.at.returns c).After-normal_text-length))
