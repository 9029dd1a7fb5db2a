-- `put_letters` meets its contract. The letters before the turn's are laid from the line where the loop began.
-- The slice of letters says how many turns there are.
use Rattle.layout.specs.Layouts.{layout_of}
use Rattle.layout.proofs.Cutting.{LaidTo}
use Rattle.layout.proofs.cuts.put_letters.Given as goal

abbrev pub invariant-loop-letter : goal.invariant-loop-letter
invariant-loop-letter l = LaidTo (layout_of l.layout) l.letters l.letter-index l.initial.laid l.laid l.initial.out l.out
