-- An empty part of a slice lent to a writer, to measure: what the whole slice is after it.
-- The part has no element to write, so nothing can have changed.
use mathlib.Core.Path.{◌≡◌, refl}
use mathlib.Core.List.{List, [], ◌∷◌, ◌++◌}
use Prim.Native.Nat.{ℕ}
use native.Mathlib.Omega.{arith}
use lib.ListN.{length}

-- what `&mut xs[..0]` comes back as is all of xs
pub none_lent : (ys xs : List ℕ) → length ys ≡ 0 → ys ++ xs ≡ xs
none_lent [] xs e = refl
none_lent (y ∷ ys) xs e = absurd (omega arith)
