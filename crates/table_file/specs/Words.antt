-- A word as four bytes, the lowest first, and the bytes of many words one after another.
use Rattle.std.specs.Prelude.{◌≡◌, refl, List, [], ◌∷◌, ◌++◌, ℕ, zero, suc, ◌+◌, ◌*◌, ◌/◌, ◌%◌, length, get_or}
use Rattle.std.proofs.Common.{arith, length-append}

-- the word whose first byte is at index `at`
abbrev pub word_at : List ℕ → ℕ → ℕ
word_at l at = get_or l at 0 + 256 * get_or l (at + 1) 0 + 65536 * get_or l (at + 2) 0 + 16777216 * get_or l (at + 3) 0

abbrev pub word_bytes : ℕ → List ℕ
word_bytes w = w % 256 ∷ w / 256 % 256 ∷ w / 65536 % 256 ∷ w / 16777216 ∷ []

-- the bytes of the first k words
unfoldable pub file_bytes : List ℕ → ℕ → List ℕ
file_bytes ws zero = []
file_bytes ws (suc k) = file_bytes ws k ++ word_bytes (get_or ws k 0)

-- more words than any table has, and few enough that their bytes can be counted
abbrev pub most_words : ℕ
most_words = 1073741824

-- four a word
pub file_length : (ws : List ℕ) (k : ℕ) → length (file_bytes ws k) ≡ 4 * k
unfolding file_bytes
file_length ws zero = refl
file_length ws (suc k) = omega (arith, file_length ws k, length-append (file_bytes ws k) (word_bytes (get_or ws k 0)))

-- the bytes of a word are read as that word
pub read_back : (w : ℕ) → word_at (word_bytes w) 0 ≡ w
read_back w = omega arith
