-- `position_after` meets its contract: nothing chosen, or the line full, is the one case, and the rest the other.
-- Each test is the definition's.
use Prim.Native.Nat.{◌-◌}
use native.Mathlib.Omega.{arith}
use borrow.Author.Tests.{eq-eqb, ne_eqb, le-leb, lt-leb}
use Rattle.blocks.specs.Line.{position_after}
use Rattle.blocks.proofs.line.position_after.Goals.{then-chosen-eq0-via-then-chosen-eq0, then-chosen-eq0-via-else-chosen-eq0+then-width-position}
use Rattle.blocks.proofs.line.position_after.Goals as goal

pub returns-then-chosen-eq0 : goal.returns-then-chosen-eq0
unfolding position_after
returns-then-chosen-eq0 c =
    elim c.then-chosen-eq0.branch [
      | then-chosen-eq0-via-then-chosen-eq0 w ↦ simp (eq-eqb c.args.chosen 0 (omega arith))
      | then-chosen-eq0-via-else-chosen-eq0+then-width-position w ↦
          simp (ne_eqb c.args.chosen 0 (λ e. omega arith), le-leb (c.args.width - 1) c.args.position (omega arith))
    ]

pub returns : goal.returns
unfolding position_after
returns c = simp (ne_eqb c.args.chosen 0 (λ e. omega arith), lt-leb (c.args.width - 1) c.args.position (omega arith))
