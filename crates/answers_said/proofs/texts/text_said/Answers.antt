-- `text_said` meets its contract: too large, another refusal, or the text between its first line and a newline.
-- The operation leaves the rest of the slice as it was, and the slice keeps its length.
use Rattle.answers_said.proofs.TextLaws.{larger_said, refusal_said, done_said, is_15}
use Rattle.answers_said.specs.Bytes.{bytes}
use Rattle.defs.specs.Inside.{one_inside, text_inside}
use borrow.Rule.Slice.PartMut.{put_mid, same_len_mid, mid_len}
use native.Mathlib.Omega.{arith}
use lib.Seq.{length-take-le}
use lib.ListN.{length, take}
use Prim.Native.Nat.{◌-◌, ◌≤◌}
use mathlib.Core.Path.{◌≡◌, refl, sym, ap, ◌∙◌}
use Rattle.answers.specs.Refused.{refusal_number, refusal_some}
use Rattle.answers_said.proofs.texts.text_said.Goals.{After-text-answer, In-Ok}
use Rattle.answers_said.proofs.texts.text_said.Goals as goal

-- the slice keeps its length, and the text stands in its part
kept : (c : After-text-answer) → length (put_mid 15 (length c.args.out.now - 1 - 15) c.args.out.now c.text-answer.new.out) ≡ length c.args.out.now
kept c = same_len_mid 15 (length c.args.out.now - 1 - 15) c.args.out.now c.text-answer.new.out c.text-answer.auto.out

fits : (c : In-Ok) → c.in-Ok.length ≤ length c.args.out.now - 1 - 15
fits c =
    let inside : c.in-Ok.length ≤ length c.text-answer.new.out = one_inside c.in-Ok.ensures (text_inside _ _ _ _ _ _ _) in
    let long : length c.text-answer.new.out ≡ length c.args.out.now - 1 - 15 = c.text-answer.auto.out ∙ mid_len 15 (length c.args.out.now - 1) c.args.out.now (omega arith) in
    omega arith

pub overflow_add-length : goal.overflow_add-length
overflow_add-length c = omega (arith, fits (goal.at.overflow_add-length c).In-Ok)

pub put_byte-requires : goal.put_byte-requires
put_byte-requires c = omega (arith, fits (goal.at.put_byte-requires c).In-Ok)

pub returns-in-Ok : goal.returns-in-Ok
unfolding bytes
returns-in-Ok c =
    done_said _ _ _ _ _ _ _ _ _ _ _ c.in-Ok.ensures (take 15 c.args.out.now) _ refl refl (length-take-le 15 c.args.out.now (omega arith))
    (omega (arith, fits (goal.at.returns-in-Ok c).In-Ok, kept (goal.at.returns-in-Ok c).After-text-answer)) c.put_piece.ensures c.put_byte.ensures

pub returns-in-ShortOutput : goal.returns-in-ShortOutput
unfolding bytes
returns-in-ShortOutput c =
    larger_said _ _ _ _ _ _ _ _ _ _ _ c.in-Err.ensures (ap refusal_number c.in-ShortOutput.is) (sym (mid_len 15 (length c.args.out.now - 1) c.args.out.now (omega arith)))
    c.put_too_large.ensures.grows (omega (arith, c.put_too_large.ensures.upper_bound, kept (goal.at.returns-in-ShortOutput c).After-text-answer))

pub returns-in_default : goal.returns-in_default
returns-in_default c =
    refusal_said _ _ _ _ _ _ _ _ _ _ _ c.in-Err.ensures (λ e. c.in_default.not-ShortOutput (is_15 c.in-Err.refusal e)) (refusal_some c.in-Err.refusal)
    (rw c.number.ensures at c.put_refusal.ensures.grows) (omega (arith, c.put_refusal.ensures.upper_bound, kept (goal.at.returns-in_default c).After-text-answer))
