-- `encode` meets its contract: the bytes of the words before the turn's are put.
-- A turn puts those of one word more.
use native.Mathlib.Omega.{arith}
use Rattle.table_file.specs.Words.{file_length}
use Rattle.table_file.proofs.WordLaws.{encoded_none, encoded_more}
use Rattle.table_file.proofs.encode.Goals as goal

pub loop-word-init : goal.loop-word-init
loop-word-init c = encoded_none _ _

pub put_piece-at-requires : goal.put_piece-at-requires
put_piece-at-requires c = omega (arith, file_length c.args.words.now c.loop-word.word-index)

pub loop-word-preserved : goal.loop-word-preserved
loop-word-preserved c = encoded_more _ _ c.loop-word.invariant c.bytes_of.ensures c.put_piece-at.ensures
