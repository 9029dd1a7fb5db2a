-- `decode` meets its contract: the first i words are done.
-- A store at i leaves the words below i.
use Rattle.std.specs.Prelude.{◌≡◌, ℕ, ◌*◌, ◌<◌, get_or}
use Rattle.table_file.specs.Words.{word_at}
use Rattle.table_file.proofs.decode.Given as goal

abbrev pub invariant-loop-i : goal.invariant-loop-i
invariant-loop-i l = (j : ℕ) → j < l.i → get_or l.words j 0 ≡ word_at l.bytes (4 * j)
