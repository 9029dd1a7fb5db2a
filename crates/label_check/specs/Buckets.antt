-- Labels fall into buckets by a hash of their bytes, and a bucket keeps one byte of what fell into it. Equal labels fall alike.
-- Document 01 says nothing of this: another hash makes the search faster or slower, and finds the same.
use Rattle.std.specs.Prelude.{◌||◌, List, ℕ, zero, suc, ◌+◌, ◌*◌, ◌/◌, ◌%◌, eqb, length, get_or}
use Rattle.laws.specs.Tools.{pick}
use Rattle.label_check.specs.declared.buckets.Fall.{Fall}

-- how many buckets there are
abbrev pub buckets : ℕ
buckets = 8192

-- the hash of a label's first k bytes: they are digits to base 131, and 32 bits are kept
unfoldable pub hash_to : List ℕ → ℕ → ℕ
hash_to label zero = 0
hash_to label (suc k) = (hash_to label k * 131 + get_or label k 0) % 4294967296

abbrev pub hash_of : List ℕ → ℕ
hash_of label = hash_to label (length label)

-- where a label falls: its bucket, and its print there, are two parts of its hash. A print is not 0
unfoldable pub fall_of : List ℕ → Fall
fall_of label = record { bucket = hash_of label % buckets; print = hash_of label / buckets % 128 + 1 }

-- the mark of a bucket: 0 while it is empty, then the print of all labels in it, and `mixed` once there are two prints
abbrev pub mixed : ℕ
mixed = 255

unfoldable pub mark_after : ℕ → ℕ → ℕ
mark_after mark print = pick (eqb mark 0 || eqb mark print) print mixed

-- the first statement with which the label of statement k is compared: 0, or k where the mark says that no label before it is equal
unfoldable pub first_compared : ℕ → ℕ → ℕ → ℕ
first_compared mark print k = pick (eqb mark print || eqb mark mixed) 0 k
