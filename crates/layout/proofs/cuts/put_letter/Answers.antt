-- `put_letter` meets its contract: on a line with room the letter is put at the end of the text.
-- On a full line it is put after the newline and the indent that open a word of one byte.
use native.Mathlib.Omega.{arith}
use Rattle.layout.proofs.Cutting.{lays_here, lays_next}
use Rattle.layout.proofs.cuts.put_letter.Goals as goal

pub returns-then-at-layout : goal.returns-then-at-layout
returns-then-at-layout c = lays_here _ _ (omega (arith, c.if-at-layout.true)) (omega arith) c.put_byte-end.ensures

pub returns : goal.returns
returns c = lays_next _ _ (omega (arith, c.if-at-layout.false)) (omega arith) c.open_word-opened.ensures c.put_byte-end-2.ensures
