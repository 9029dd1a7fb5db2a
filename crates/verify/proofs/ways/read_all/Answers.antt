-- `verify::read_all` meets its contract: the end of the lists, or the verdict on the letters.
-- Slices that were lent before count by their lengths. Assumes nothing.
use mathlib.Core.Path.{◌≡◌, sym}
use Rattle.std.specs.Prelude.{Err}
use Rattle.std.proofs.Common.{rules}
use lib.Seq.{length-take-le}
use Rattle.verify.proofs.WayLaws.{lists_ended, all_read}
use Rattle.verify.proofs.WalkLaws.{held}
use Rattle.verify.proofs.ways.read_all.Goals as goal

pub slice_bounds-read_letters-end : goal.slice_bounds-read_letters-end
slice_bounds-read_letters-end c = (held _ _ _ _ _ _ _ _ c.read_lists.ensures c.in_ok-kept.was).packed_kept.fits

pub slice_bounds-read_letters-end-2 : goal.slice_bounds-read_letters-end-2
slice_bounds-read_letters-end-2 c = sym (length-take-le _ _ (held _ _ _ _ _ _ _ _ c.read_lists.ensures c.in_ok-kept.was).packed_kept.fits)

pub slice_bounds-read_letters-end-3 : goal.slice_bounds-read_letters-end-3
slice_bounds-read_letters-end-3 c = (held _ _ _ _ _ _ _ _ c.read_lists.ensures c.in_ok-kept.was).built_kept.fits

pub slice_bounds-read_letters-end-4 : goal.slice_bounds-read_letters-end-4
slice_bounds-read_letters-end-4 c = sym (length-take-le _ _ (held _ _ _ _ _ _ _ _ c.read_lists.ensures c.in_ok-kept.was).built_kept.fits)

pub slice_bounds-read_letters-end-5 : goal.slice_bounds-read_letters-end-5
slice_bounds-read_letters-end-5 c = (held _ _ _ _ _ _ _ _ c.read_lists.ensures c.in_ok-kept.was).kids_kept.fits

pub slice_bounds-read_letters-end-6 : goal.slice_bounds-read_letters-end-6
slice_bounds-read_letters-end-6 c = sym (length-take-le _ _ (held _ _ _ _ _ _ _ _ c.read_lists.ensures c.in_ok-kept.was).kids_kept.fits)

pub returns-in_err-kept : goal.returns-in_err-kept
returns-in_err-kept c =
    let is : c.from_residual.result ≡ Err c.in_err-kept.field-0.0 = search rules in
    rw is (lists_ended _ _ _ _ _ _ _ _ _ c.read_lists.ensures c.in_err-kept.was)

pub returns : goal.returns
returns c =
    all_read _ _ _ _ _ _ _ _ (held _ _ _ _ _ _ _ _ c.read_lists.ensures c.in_ok-kept.was) _ _ _ _
    c.read_lists.auto.work c.read_lists.auto.steps c.read_lists.auto.entries c.read_lists.auto.children _ c.read_letters.ensures
