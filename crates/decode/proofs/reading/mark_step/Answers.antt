-- `mark_step` meets its contract. The two tests are those of the definition.
-- A code was just finished, so that there is a last step, and its second word gets the mark where it was stored.
use mathlib.Core.Bool.{true, false}
use mathlib.Core.Path.{◌≡◌, refl}
use Rattle.std.proofs.Common.{rules}
use Rattle.std.specs.Prelude.{None}
use native.Mathlib.Omega.{arith}
use Rattle.decode.proofs.ReadingLaws.{not_finished, no_more_marks, marks_last}
use Rattle.decode.proofs.reading.mark_step.Goals as goal

pub returns-then-not-state : goal.returns-then-not-state
returns-then-not-state c =
    let unfinished : c.args.state.finished ≡ false = search rules in
    λ reading before k. not_finished reading _ before _ k _ _ unfinished

pub returns-in_err-mark : goal.returns-in_err-mark
returns-in_err-mark c =
    let none : c.from_residual.result ≡ None = search rules in
    λ reading before k. rw none (no_more_marks reading _ before _ k _ _ (omega (arith, rw c.in_err-mark.was at c.checked_add.ensures)))

pub overflow_sub-state : goal.overflow_sub-state
overflow_sub-state c =
    let finished : c.args.state.finished ≡ true = search rules in
    c.requires.begun finished

pub returns : goal.returns
returns c =
    let finished : c.args.state.finished ≡ true = search rules in
    λ reading before k.
    marks_last reading _ before _ k _ _ _ _ (cc) finished (omega arith) (rw c.in_ok-mark.was at c.checked_add.ensures).1 refl c.put_mark.auto.out c.put_mark.ensures
