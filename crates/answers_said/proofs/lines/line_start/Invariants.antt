-- `line_start` meets its contract: what stands from the start on is the text from line i on.
-- Where the text ends, nothing is left of it.
use Rattle.answers_said.specs.Lines.{from_line}
use lib.ListN.{length, drop}
use Prim.Native.Nat.{◌≤◌}
use mathlib.Core.Path.{◌≡◌}
use Rattle.answers_said.proofs.lines.line_start.Given as goal

abbrev pub invariant-loop-line : goal.invariant-loop-line
invariant-loop-line l = (drop l.start l.text ≡ from_line l._line l.text) × (l.start ≤ length l.text)
