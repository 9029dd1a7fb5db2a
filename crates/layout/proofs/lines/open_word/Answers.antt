-- `open_word` meets its contract. What is left of the line decides as p + k < width does;
-- a space, or a newline and the indent, are put at the end of the text.
use native.Mathlib.Omega.{arith}
use Rattle.layout.proofs.Words.{opens_here, opens_next}
use Rattle.layout.proofs.Within.{bounds}
use Rattle.layout.proofs.lines.open_word.Goals as goal

pub returns-then-k-left : goal.returns-then-k-left
returns-then-k-left c =
    opens_here _ c.args.k (omega (arith, c.left.ensures)) (omega arith) c.put_byte-start.ensures

pub returns : goal.returns
returns c =
    opens_next _ c.args.k (bounds _ c.requires.layout_value) (omega (arith, c.left.ensures)) (omega arith)
    c.put_byte-next.ensures c.put_spaces-start.ensures
