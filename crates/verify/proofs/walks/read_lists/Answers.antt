-- `verify::read_lists` meets its contract: the end of the packed list, the verdict on the normal list where it is not yes, or what is kept.
-- What is kept stands in its slices, which the normal list does not touch. Assumes nothing.
use mathlib.Core.Path.{◌≡◌, sym, ap}
use lib.Seq.{length-take-le}
use Rattle.std.specs.Prelude.{Err}
use Rattle.std.proofs.Common.{rules}
use Rattle.verify.specs.Verdicts.{verdict_of}
use Rattle.verify.proofs.WalkLaws.{held, first_ended, normal_ended, both_read}
use Rattle.verify.proofs.walks.read_lists.Goals as goal

pub returns-in_err-kept : goal.returns-in_err-kept
returns-in_err-kept c =
    let is : c.from_residual.result ≡ Err c.in_err-kept.field-0.0 = search rules in
    rw is (first_ended _ _ _ _ _ _ _ _ _ _ _ _ _ _ c.read_packed.ensures c.in_err-kept.was)

pub slice_bounds-read_normal-end : goal.slice_bounds-read_normal-end
slice_bounds-read_normal-end c = (held _ _ _ _ _ _ _ _ c.read_packed.ensures c.in_ok-kept.was).built_kept.fits

pub slice_bounds-read_normal-end-2 : goal.slice_bounds-read_normal-end-2
slice_bounds-read_normal-end-2 c = sym (length-take-le _ _ (held _ _ _ _ _ _ _ _ c.read_packed.ensures c.in_ok-kept.was).built_kept.fits)

pub slice_bounds-read_normal-end-3 : goal.slice_bounds-read_normal-end-3
slice_bounds-read_normal-end-3 c = (held _ _ _ _ _ _ _ _ c.read_packed.ensures c.in_ok-kept.was).kids_kept.fits

pub slice_bounds-read_normal-end-4 : goal.slice_bounds-read_normal-end-4
slice_bounds-read_normal-end-4 c = sym (length-take-le _ _ (held _ _ _ _ _ _ _ _ c.read_packed.ensures c.in_ok-kept.was).kids_kept.fits)

pub returns-in_err-read_normal : goal.returns-in_err-read_normal
returns-in_err-read_normal c =
    let is : c.from_residual-in_err-read_normal.result ≡ Err c.in_err-read_normal.field-0.0 = search rules in
    rw is
    (normal_ended _ _ _ _ _ _ _ _ _ _ _ _ _ (held _ _ _ _ _ _ _ _ c.read_packed.ensures c.in_ok-kept.was) _ c.read_packed.auto.work _ c.read_normal.ensures
    _ (ap verdict_of c.in_err-read_normal.was) _ _ _)

pub returns : goal.returns
returns c =
    both_read _ _ _ _ _ _ _ _ _ _ _ _ _ (held _ _ _ _ _ _ _ _ c.read_packed.ensures c.in_ok-kept.was) _ c.read_packed.auto.work _ c.read_normal.ensures
    (ap verdict_of c.in_ok-read_normal.was)
