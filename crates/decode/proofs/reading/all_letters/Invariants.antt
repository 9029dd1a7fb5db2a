-- `all_letters` meets its contract. The code's state is that of the definition's reading of the letters so far.
-- It begins with no reading at all.
use Rattle.decode.proofs.LoopLaws.{Read}
use Rattle.decode.proofs.reading.all_letters.Given as goal

abbrev pub invariant-loop-byte : goal.invariant-loop-byte
invariant-loop-byte l = Read l.hypotheses l.list l.letters l.byte-index l.state l.initial.out l.out
