-- `put_steps` meets its contract. The letters of the first i steps are laid, whatever list of steps the words say.
-- Some list is said, so that the end is known to be near.
use Rattle.layout.specs.Layouts.{layout_of}
use Rattle.compressed.proofs.StepLaws.{StepsTo}
use Rattle.compressed.proofs.steps.put_steps.Given as goal

abbrev pub invariant-loop-i : goal.invariant-loop-i
invariant-loop-i l = StepsTo (layout_of l.layout) l.places l.work l.i l.initial.laid l.laid l.initial.out l.out
