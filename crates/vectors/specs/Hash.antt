-- The hash by which an answer is stored: 1 at first, and each element is added to 31 times what was.
use Rattle.std.specs.Prelude.{List, ℕ, zero, suc, ◌+◌, ◌*◌, ◌%◌, get_or}

-- the greatest prime below 2³²
abbrev pub modulus : ℕ
modulus = 4294967291

abbrev pub hashed : (h x : ℕ) → ℕ
hashed h x = (31 * h + x + 1) % modulus

-- the hash of the first k elements
unfoldable pub hash_to : List ℕ → ℕ → ℕ
hash_to xs zero = 1
hash_to xs (suc k) = hashed (hash_to xs k) (get_or xs k 0)
