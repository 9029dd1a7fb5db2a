-- `verify::read_normal` meets its contract: a refusal, or the verdict of the reading.
-- The working slice was lent before, and counts by its length. Assumes nothing.
use Prim.Native.Nat.{◌≤◌}
use mathlib.Core.Path.{◌≡◌, refl, sym, ap, ◌∙◌}
use mathlib.Core.Bool.{false}
use lib.ListN.{length}
use lib.Seq.{length-take-le}
use Rattle.std.specs.Prelude.{Ok, Err}
use Rattle.std.proofs.Common.{rules}
use Rattle.answers.specs.Refused.{refusal_some}
use Rattle.defs.specs.Inside.{one_inside, list_inside}
use Rattle.verify.specs.Verdicts.{told}
use Rattle.verify.proofs.StageLaws.{stage_ok, stage_err, one_ok, one_err}
use Rattle.verify.proofs.WalkLaws.{normal_refused, normal_read}
use Rattle.verify.proofs.walks.read_normal.Goals.{In_ok-length}
use Rattle.verify.proofs.walks.read_normal.Goals as goal

-- the normal list was written
listed : (c : In_ok-length) → c.normal_list-list.result ≡ Ok c.in_ok-length.length
listed c = stage_ok _ _ _ (sym c.at_stage.ensures ∙ c.in_ok-length.was)

fits : (c : In_ok-length) → c.in_ok-length.length ≤ length c.normal_list-list.new.out
fits c = one_inside (one_ok _ _ _ _ c.normal_list-list.ensures _ (listed c)) (list_inside _ _ false false _ _)

pub returns-in_err-length : goal.returns-in_err-length
returns-in_err-length c =
    let is : c.from_residual.result ≡ Err c.in_err-length.field-0.0 = search rules in
    let s = stage_err _ _ _ (sym c.at_stage.ensures ∙ c.in_err-length.was) in
    rw is (normal_refused _ _ _ _ _ _ _ _ _ _ _ _ (one_err _ _ _ _ c.normal_list-list.ensures _ s.1) _ (ap told s.2) (refusal_some s.0))

pub slice_bounds-read_again-end : goal.slice_bounds-read_again-end
slice_bounds-read_again-end c = fits c

pub slice_bounds-read_again-end-2 : goal.slice_bounds-read_again-end-2
slice_bounds-read_again-end-2 c = sym (length-take-le _ _ (fits c))

pub returns : goal.returns
returns c =
    normal_read _ _ _ _ _ _ _ _ _ _ _ _ (one_ok _ _ _ _ c.normal_list-list.ensures _ (listed (goal.at.returns c).In_ok-length)) refl _ c.normal_list-list.auto.work _ c.read_again.ensures
