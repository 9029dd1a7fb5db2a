-- `counts::hand_down` meets its contract. The invariant: lowering the children still to come gives what lowering all of them gave at the start.
-- There are as many distances as at the start. Assumes nothing.
use mathlib.Core.Path.{◌≡◌}
use lib.ListN.{length, drop}
use Rattle.defs.specs.Counts.{lower}
use Rattle.counts.proofs.distances.hand_down.Given as goal

abbrev pub invariant-loop-c : goal.invariant-loop-c
invariant-loop-c l = record { long : length l.out ≡ length l.initial.out; left : lower l.d (drop l.c-index l.kids) l.out ≡ lower l.d l.kids l.initial.out }
