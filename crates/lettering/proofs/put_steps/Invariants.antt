-- `put_steps` meets its contract. The letters of the first i steps stand at the front, whatever list of steps the words say.
-- Each turn adds the letters of one step.
use Rattle.lettering.proofs.Lemmas.{WroteTo}
use Rattle.lettering.proofs.put_steps.Given as goal

abbrev pub invariant-loop-i : goal.invariant-loop-i
invariant-loop-i l = WroteTo l.steps l.many l.numbers l.both l.i l.end l.work l.initial.out l.out
