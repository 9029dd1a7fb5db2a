-- `encode` meets its contract: the bytes of the words before the turn's are put.
-- A turn puts those of one word more.
use Rattle.laws.specs.Puts.{Grows}
use Rattle.table_file.specs.Words.{file_bytes}
use Rattle.table_file.proofs.encode.Given as goal

abbrev pub invariant-loop-word : goal.invariant-loop-word
invariant-loop-word l = Grows (file_bytes l.words l.word-index) 0 l.at l.initial.bytes l.bytes
