-- The bytes of one word more are those of the words so far and its own.
-- The last word written is the definition's last step.
use mathlib.Core.Path.{◌≡◌}
use mathlib.Core.List.{List}
use Prim.Native.Nat.{ℕ, ◌+◌}
use native.Mathlib.Numerals.{add-one}
use lib.ListN.{get_or}
use Rattle.laws.specs.Puts.{Put, Grows, grows_none, grows_more}
use Rattle.table_file.specs.Words.{word_bytes, file_bytes}

pub encoded_none : (words before : List ℕ) → Grows (file_bytes words 0) 0 0 before before
unfolding file_bytes
encoded_none words before = grows_none 0 before

pub encoded_more : (words : List ℕ) (i : ℕ) {before between after piece : List ℕ} {at end : ℕ} → Grows (file_bytes words i) 0 at before between
    → piece ≡ word_bytes (get_or words i 0) → Put piece at end between after → Grows (file_bytes words (i + 1)) 0 end before after
unfolding file_bytes
encoded_more words i g e p = rw (add-one i) (grows_more g (rw e at p))
