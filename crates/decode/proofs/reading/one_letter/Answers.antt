-- `one_letter` meets its contract: each arm of the `match` is a range of the definition (law `letter_said` of crate letters),
-- and the function that it calls does what the definition does there.
use Rattle.decode.proofs.ReadingLaws.{came_refused, letter_is}
use Rattle.decode.proofs.reading.one_letter.Goals as goal

pub returns-in-Finishing : goal.returns-in-Finishing
returns-in-Finishing c = λ reading before k.
    let a = c.args in
    let s = letter_is a.hypotheses.now a.list.now reading a.byte _ _ c.read_letter.ensures c.in-Finishing.is in
    rw s.0 (c.finish_code.ensures reading a.byte before s.1.0 k)

pub returns-in-Leading : goal.returns-in-Leading
returns-in-Leading c = λ reading before k.
    let a = c.args in
    let s = letter_is a.hypotheses.now a.list.now reading a.byte _ _ c.read_letter.ensures c.in-Leading.is in
    rw s.0 (c.lead_code.ensures reading a.byte before a.out.now s.1.0 k)

pub returns-in-Mark : goal.returns-in-Mark
returns-in-Mark c = λ reading before k.
    let a = c.args in
    let s = letter_is a.hypotheses.now a.list.now reading a.byte _ _ c.read_letter.ensures c.in-Mark.is in
    rw s (c.mark_step.ensures reading before k)

pub returns-in-Other : goal.returns-in-Other
returns-in-Other c = λ reading before k.
    let a = c.args in
    came_refused _ _ before _ (letter_is a.hypotheses.now a.list.now reading a.byte _ _ c.read_letter.ensures c.in-Other.is)
