-- The loops that hash: the hash of the first i elements, which stays below the modulus.
-- The hash of the front of a slice is that of its first elements.
use mathlib.Core.Path.{◌≡◌, refl, sym, ap, ◌∙◌}
use mathlib.Core.List.{List, [], ◌∷◌, ◌++◌, map}
use Prim.Native.Nat.{ℕ, zero, suc, ◌+◌, ◌<◌, ◌≤◌}
use native.Mathlib.Numerals.{add-one}
use native.Mathlib.Omega.{arith}
use lib.ListN.{length, get_or, take, drop, get_or-append, take-append-drop}
use lib.Seq.{length-take-le}
use Rattle.vectors.specs.Hash.{modulus, hashed, hash_to}

pub record Hashed (xs : List ℕ) (h i : ℕ) : Type 0 where
  pub is : h ≡ hash_to xs i
  pub few : h < modulus
  pub inside : i ≤ length xs

pub none_hashed : (xs : List ℕ) → Hashed xs 1 0
unfolding hash_to
none_hashed xs = record { is = refl; few = omega arith; inside = omega arith }

pub turn_hashed : {xs : List ℕ} {h i x : ℕ} {next : ℕ} → x ≡ get_or xs i 0 → (next ≡ hashed h x) × (next < modulus) → i < length xs → Hashed xs h i
    → Hashed xs next (i + 1)
unfolding hash_to
turn_hashed {xs} {h} {i} {x} {next} e n l d =
    record { is = rw (add-one i, sym d.is, sym e) n.0; few = n.1; inside = omega arith }

pub all_hashed : {xs : List ℕ} {h i : ℕ} → length xs ≤ i → Hashed xs h i → h ≡ hash_to xs (length xs)
all_hashed {xs} {h} {i} l d = let z : i ≡ length xs = omega (arith, d.inside) in rw z at d.is

-- ---- elements behind those that are hashed

pub front_hash : (xs ys : List ℕ) (k : ℕ) → k ≤ length xs → hash_to (xs ++ ys) k ≡ hash_to xs k
unfolding hash_to
front_hash xs ys zero h = refl
front_hash xs ys (suc k) h = rw (front_hash xs ys k (omega arith), get_or-append xs ys 0 k (omega arith))

-- the hash of the front of a slice, as the code takes it
pub hash_front : (xs : List ℕ) (n : ℕ) → n ≤ length xs → hash_to (take n xs) (length (take n xs)) ≡ hash_to xs n
hash_front xs n h =
    let l : length (take n xs) ≡ n = length-take-le n xs h in
    rw l (sym (front_hash (take n xs) (drop n xs) n (omega arith)) ∙ ap (λ (y : List ℕ). hash_to y n) (take-append-drop n xs))

-- ---- elements and their numbers

pub mapped : {T : Type 0} (f : T → ℕ) (xs : List T) (i : ℕ) (x : T) → i < length xs → x ≡ get_or xs i x → f x ≡ get_or (map f xs) i 0
mapped f [] i x l e = absurd (omega arith)
mapped f (y ∷ ys) zero x l e = ap f e
mapped f (y ∷ ys) (suc i) x l e = mapped f ys i x (omega arith) e

pub same_numbers : (xs : List ℕ) → map (λ (x : ℕ). x) xs ≡ xs
same_numbers [] = refl
same_numbers (x ∷ xs) = ap (λ (l : List ℕ). x ∷ l) (same_numbers xs)
