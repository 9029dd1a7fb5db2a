-- `verify::decode_letters` meets its contract: either refusal, or the decoded steps at the front of their slice.
-- What was written stands inside its slices. Assumes nothing.
use Prim.Native.Nat.{◌≤◌}
use mathlib.Core.Path.{◌≡◌, refl, sym, ◌∙◌}
use lib.ListN.{length}
use lib.Seq.{length-take-le}
use Rattle.std.specs.Prelude.{Ok, Err}
use Rattle.std.proofs.Common.{rules}
use Rattle.answers.specs.Refused.{refusal_some}
use Rattle.defs.specs.Inside.{two_inside, letters_inside}
use Rattle.verify.proofs.StageLaws.{stage_ok, stage_err, two_ok, two_err}
use Rattle.verify.proofs.SpelledLaws.{letters_refused, spelled_done}
use Rattle.verify.proofs.spelled.decode_letters.Goals.{In_ok-written}
use Rattle.verify.proofs.spelled.decode_letters.Goals as goal

-- the label list and the letters were written, and stand in their slices
written : (c : In_ok-written) → c.label_letters-answer.result ≡ Ok c.in_ok-written.written
written c = stage_ok _ _ _ (sym c.at_stage.ensures ∙ c.in_ok-written.was)

fitting : (c : In_ok-written) → (c.in_ok-written.written.first ≤ length c.label_letters-answer.new.list) × (c.in_ok-written.written.second ≤ length c.label_letters-answer.new.letters)
fitting c = two_inside (two_ok _ _ _ _ _ c.label_letters-answer.ensures _ (written c)) (letters_inside _ _ _ _ _ _ _)

pub returns-in_err-written : goal.returns-in_err-written
returns-in_err-written c =
    let is : c.from_residual.result ≡ Err c.in_err-written.field-0.0 = search rules in
    let s = stage_err _ _ _ (sym c.at_stage.ensures ∙ c.in_err-written.was) in
    rw (is, s.2) (letters_refused _ _ _ _ _ _ _ _ _ _ _ _ _ _ (two_err _ _ _ _ _ c.label_letters-answer.ensures _ s.1) s.0 refl (refusal_some s.0) _)

pub slice_bounds-decode-end : goal.slice_bounds-decode-end
slice_bounds-decode-end c = (fitting c).0

pub slice_bounds-decode-end-2 : goal.slice_bounds-decode-end-2
slice_bounds-decode-end-2 c = sym (length-take-le _ _ (fitting c).0)

pub slice_bounds-decode-end-3 : goal.slice_bounds-decode-end-3
slice_bounds-decode-end-3 c = (fitting (goal.at.slice_bounds-decode-end-3 c).In_ok-written).1

pub slice_bounds-decode-end-4 : goal.slice_bounds-decode-end-4
slice_bounds-decode-end-4 c = sym (length-take-le _ _ (fitting (goal.at.slice_bounds-decode-end-4 c).In_ok-written).1)

pub returns : goal.returns
returns c =
    let spelled = two_ok _ _ _ _ _ c.label_letters-answer.ensures _ (written (goal.at.returns c).In_ok-written) in
    rw c.at_stage-2.ensures (spelled_done _ _ _ _ _ _ _ _ _ _ _ _ _ _ spelled refl _ _ _ c.decode-decoded.ensures)
