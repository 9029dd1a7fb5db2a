-- `replay::all_steps` meets its contract. The invariant: the steps still to come, from where the replay stands, give what all steps gave at the start.
-- Assumes nothing.
use Rattle.replay.proofs.RunLaws.{Running}
use Rattle.replay.proofs.run.all_steps.Given as goal

abbrev pub invariant-loop-k : goal.invariant-loop-k
invariant-loop-k l = Running l.words l.steps l.half l.initial.work l.initial.entries l.initial.children l.work l.entries l.children l.state l.k
