-- `verify::read_packed` meets its contract: a refusal ends the way, and what was written is kept in the slices.
-- What was written stands inside them. Assumes nothing.
use Prim.Native.Nat.{◌≤◌}
use mathlib.Core.Bool.{true, false}
use mathlib.Core.Path.{◌≡◌, refl, sym, ◌∙◌}
use lib.ListN.{length}
use lib.Seq.{length-take-le}
use Rattle.std.specs.Prelude.{Ok, Err}
use Rattle.std.proofs.Common.{rules}
use Rattle.answers.specs.Refused.{refusal_some}
use Rattle.defs.specs.Inside.{one_inside, list_inside}
use Rattle.verify.proofs.StageLaws.{stage_ok, stage_err, one_ok, one_err, two_ok, two_err}
use Rattle.verify.proofs.WalkLaws.{packed_refused, packed_unread, packed_read}
use Rattle.verify.proofs.walks.read_packed.Goals.{In_ok-length}
use Rattle.verify.proofs.walks.read_packed.Goals as goal

-- the packed list was written
listed : (c : In_ok-length) → c.packed_list-list.result ≡ Ok c.in_ok-length.length
listed c = stage_ok _ _ _ (sym c.at_stage.ensures ∙ c.in_ok-length.was)

fits : (c : In_ok-length) → c.in_ok-length.length ≤ length c.packed_list-list.new.out
fits c = one_inside (one_ok _ _ _ _ c.packed_list-list.ensures _ (listed c)) (list_inside _ _ true false _ _)

pub returns-in_err-length : goal.returns-in_err-length
returns-in_err-length c =
    let is : c.from_residual.result ≡ Err c.in_err-length.field-0.0 = search rules in
    let s = stage_err _ _ _ (sym c.at_stage.ensures ∙ c.in_err-length.was) in
    rw (is, s.2) (packed_refused _ _ _ _ _ _ _ _ _ _ (one_err _ _ _ _ c.packed_list-list.ensures _ s.1) s.0 refl (refusal_some s.0) _ _ _)

pub slice_bounds-replay-end : goal.slice_bounds-replay-end
slice_bounds-replay-end c = fits c

pub slice_bounds-replay-end-2 : goal.slice_bounds-replay-end-2
slice_bounds-replay-end-2 c = sym (length-take-le _ _ (fits c))

pub returns-in_err-read : goal.returns-in_err-read
returns-in_err-read c =
    let p = (goal.at.returns-in_err-read c).In_ok-length in
    let is : c.from_residual-in_err-read.result ≡ Err c.in_err-read.field-0.0 = search rules in
    let s = stage_err _ _ _ (sym c.at_stage-2.ensures ∙ c.in_err-read.was) in
    rw (is, s.2)
    (packed_unread _ _ _ _ _ _ _ _ _ _ (one_ok _ _ _ _ c.packed_list-list.ensures _ (listed p)) refl _ c.packed_list-list.auto.work _ _ _ _ _ _
    (two_err _ _ _ _ _ c.replay-answer.ensures _ s.1) s.0 refl (refusal_some s.0) _ _ _)

pub returns : goal.returns
returns c =
    let p = (goal.at.returns c).In_ok-length in
    let read = stage_ok _ _ _ (sym c.at_stage-2.ensures ∙ c.in_ok-read.was) in
    packed_read _ _ _ _ _ _ _ _ _ _ (one_ok _ _ _ _ c.packed_list-list.ensures _ (listed p)) refl _ c.packed_list-list.auto.work _ _ _ _ _ _
    (two_ok _ _ _ _ _ c.replay-answer.ensures _ read) refl _ refl refl refl
