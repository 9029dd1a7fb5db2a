-- `weigh` meets its contract: after i turns the first i statements are weighed (laws of module Weighing).
-- What is read stands before what is written, so it is what it was at first.
use Rattle.labels.proofs.Weighing.{WeighedTo}
use Rattle.labels.proofs.weights.weigh.Given as goal

abbrev pub invariant-loop-i : goal.invariant-loop-i
invariant-loop-i l = WeighedTo l.statements l.at l.many l.uses l.to l.i l.initial.work l.work
