-- `line_end` meets its contract: what is still to come of the line is as long from each place on.
-- Where no newline is met, it ends with the text.
use Rattle.answers_said.specs.Lines.{line_length}
use lib.ListN.{drop}
use Prim.Native.Nat.{◌+◌}
use mathlib.Core.Path.{◌≡◌}
use Rattle.answers_said.proofs.lines.line_end.Given as goal

abbrev pub invariant-loop-i : goal.invariant-loop-i
invariant-loop-i l = l.i + line_length (drop l.i l.text) ≡ l.from + line_length (drop l.from l.text)
