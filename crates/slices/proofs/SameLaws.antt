-- Two lists compared place by place: what stands from a place on is told by the elements there and by what comes after it.
-- By induction on both lists. Assumes nothing.
use Prim.Native.Nat.{ℕ, zero, suc, ◌≤◌, ◌<◌}
use mathlib.Core.Bool.{Bool, true, false, ◌&&◌}
use mathlib.Core.List.{List, [], ◌∷◌}
use mathlib.Core.Path.{◌≡◌, refl, ap, ◌∙◌}
use native.Mathlib.Omega.{arith}
use lib.ListN.{length, get_or, drop}
use lib.Pointwise.{pointwise}

module _ {X : Type 0} (equal : X → X → Bool) where
  pub same_next : (xs ys : List X) (i : ℕ) (x y : X) → length xs ≡ length ys → i < length xs
      → pointwise equal (drop i xs) (drop i ys) ≡ (equal (get_or xs i x) (get_or ys i y) && pointwise equal (drop (suc i) xs) (drop (suc i) ys))
  same_next [] ys i x y e l = absurd (omega arith)
  same_next (x' ∷ xs) [] i x y e l = absurd (omega arith)
  same_next (x' ∷ xs) (y' ∷ ys) zero x y e l = refl
  same_next (x' ∷ xs) (y' ∷ ys) (suc i) x y e l = same_next xs ys i x y (omega arith) (omega arith)

  pub same_end : (xs ys : List X) (i : ℕ) → length xs ≡ length ys → length xs ≤ i → pointwise equal (drop i xs) (drop i ys) ≡ true
  same_end [] [] zero e l = refl
  same_end [] [] (suc i) e l = refl
  same_end [] (y ∷ ys) i e l = absurd (omega arith)
  same_end (x ∷ xs) [] i e l = absurd (omega arith)
  same_end (x ∷ xs) (y ∷ ys) zero e l = absurd (omega arith)
  same_end (x ∷ xs) (y ∷ ys) (suc i) e l = same_end xs ys i (omega arith) (omega arith)

  no_more : (b : Bool) → (b && false) ≡ false
  no_more true = refl
  no_more false = refl

  pub same_length : (xs ys : List X) → (length xs ≡ length ys → ⊥) → pointwise equal xs ys ≡ false
  same_length [] [] other = absurd (other refl)
  same_length [] (y ∷ ys) other = refl
  same_length (x ∷ xs) [] other = refl
  same_length (x ∷ xs) (y ∷ ys) other = ap (λ b. equal x y && b) (same_length xs ys (λ e. other (ap suc e))) ∙ no_more (equal x y)
