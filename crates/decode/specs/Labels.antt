-- Refusal 16 of decoding, over the theorem's list and the number s of statements (law `refusal_16`: it is `bad_labels` of crate defs).
use Rattle.std.specs.Prelude.{ℕ, Bool, not, ◌||◌, List, ltb}
use Rattle.laws.specs.Tools.{any, member, repeats}

-- an item not below s, or in the theorem's list
unfoldable pub bad_item : ℕ → List ℕ → ℕ → Bool
bad_item s thm k = not (ltb k s) || member k thm

unfoldable pub bad_list : ℕ → List ℕ → List ℕ → Bool
bad_list s thm list = any (bad_item s thm) list || repeats list
