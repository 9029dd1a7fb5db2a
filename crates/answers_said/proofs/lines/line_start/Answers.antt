-- `line_start` meets its contract: what stands from the start on is the text from line i on.
-- Where the text ends, nothing is left of it.
use Rattle.answers_said.proofs.LineLaws.{next_line, no_more_lines}
use Rattle.answers_said.specs.Lines.{from_line}
use native.Mathlib.Omega.{arith}
use mathlib.Core.Path.{◌≡◌, refl}
use Rattle.answers_said.proofs.lines.line_start.Goals as goal

pub loop-line-init : goal.loop-line-init
unfolding from_line
loop-line-init c = (refl, omega arith)

pub returns-then-end-text : goal.returns-then-end-text
returns-then-end-text c = (no_more_lines _ _ _ _ _ c.loop-line.invariant.0 c.line_end-end.ensures.0 (omega arith) (omega arith), omega arith)

pub loop-line-preserved : goal.loop-line-preserved
loop-line-preserved c = (next_line _ _ _ _ c.loop-line.invariant.0 c.line_end-end.ensures.0, omega arith)

pub returns : goal.returns
returns c = let z : c.loop-line._line ≡ c.args.k = omega arith in (rw z at c.loop-line.invariant.0, omega arith)
