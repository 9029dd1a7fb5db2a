-- `line_end` meets its contract: what is still to come of the line is as long from each place on.
-- Where no newline is met, it ends with the text.
use Rattle.answers_said.proofs.LineLaws.{line_ends, line_goes_on, text_ends}
use Rattle.answers_said.specs.Lines.{line_length}
use native.Mathlib.Omega.{arith}
use lib.ListN.{drop}
use Prim.Native.Nat.{◌+◌, suc}
use mathlib.Core.Path.{◌≡◌, refl}
use Rattle.answers_said.proofs.lines.line_end.Goals as goal

pub loop-i-init : goal.loop-i-init
loop-i-init c = refl

pub returns-then-text-i-eq10 : goal.returns-then-text-i-eq10
returns-then-text-i-eq10 c =
    let z : line_length (drop c.loop-i.i c.args.text.now) ≡ 0 = line_ends c.args.text.now c.loop-i.i (omega arith) c.if-text-i-eq10.true in (omega arith, omega arith)

pub loop-i-preserved : goal.loop-i-preserved
loop-i-preserved c =
    let z : line_length (drop c.loop-i.i c.args.text.now) ≡ suc (line_length (drop (c.loop-i.i + 1) c.args.text.now)) = line_goes_on c.args.text.now c.loop-i.i (omega arith) c.if-text-i-eq10.false in
    omega arith

pub returns : goal.returns
returns c =
    let z : line_length (drop c.loop-i.i c.args.text.now) ≡ 0 = text_ends c.args.text.now c.loop-i.i (omega arith) in (omega arith, omega arith)
