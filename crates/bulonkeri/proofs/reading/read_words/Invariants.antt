-- The place stays in the slice, and each turn moves it on.
use Rattle.std.proofs.Common.{◌≤◌, ◌-◌, length}
use Rattle.bulonkeri.proofs.reading.read_words.Given as goal

abbrev pub invariant-loop-done : goal.invariant-loop-done
invariant-loop-done g l = l.done ≤ length l.words

abbrev pub decreases-loop-done : goal.decreases-loop-done
decreases-loop-done g l = length l.initial.words - l.done
