-- `verify::read_letters` meets its contract: a refusal of the letters, or the verdict on the decoded steps.
-- The working slice was lent before, and counts by its length. Assumes nothing.
use mathlib.Core.Path.{◌≡◌, refl, sym}
use lib.Seq.{length-take-le}
use Rattle.std.specs.Prelude.{Err}
use Rattle.std.proofs.Common.{rules}
use Rattle.verify.proofs.WayLaws.{spelt, letters_ended, letters_read}
use Rattle.verify.proofs.ways.read_letters.Goals as goal

pub returns-in_err-n : goal.returns-in_err-n
returns-in_err-n c =
    let is : c.from_residual.result ≡ Err c.in_err-n.field-0.0 = search rules in
    rw is (letters_ended _ _ _ _ _ _ _ _ _ _ _ _ _ _ _ _ c.decode_letters.ensures c.in_err-n.was _ refl)

pub slice_bounds-decoded-end : goal.slice_bounds-decoded-end
slice_bounds-decoded-end c = (spelt _ _ _ _ _ _ _ _ _ _ _ c.decode_letters.ensures c.in_ok-n.was).steps_kept.fits

pub slice_bounds-decoded-end-2 : goal.slice_bounds-decoded-end-2
slice_bounds-decoded-end-2 c = sym (length-take-le _ _ (spelt _ _ _ _ _ _ _ _ _ _ _ c.decode_letters.ensures c.in_ok-n.was).steps_kept.fits)

pub returns : goal.returns
returns c = letters_read _ _ _ _ _ _ _ _ _ _ _ _ _ _ _ (spelt _ _ _ _ _ _ _ _ _ _ _ c.decode_letters.ensures c.in_ok-n.was) _ c.decode_letters.auto.work _ c.read_decoded.ensures
