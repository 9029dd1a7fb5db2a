-- Tests over a list, place by place: what a loop that counts through a slice and leaves early has seen.
-- Nothing here is about tables. Assumes nothing.
use Prim.Native.Nat.{ℕ, zero, suc, ◌<◌}
use Rattle.std.specs.Prelude.{Bool, true, false, ◌≡◌, refl, T, eqb, length, get_or}
use mathlib.Core.List.{List, [], ◌∷◌}
use Rattle.std.proofs.Common.{subst, arith}
use Rattle.std.proofs.Math.Facts.{and_yes, yes_and}
use Rattle.laws.specs.Lists.{T_of, of_T, clash, or_right, eqb_yes, eqb_no, same_refl, same_is}
use Rattle.laws.specs.Tools.{all, same, member, repeats}
use Rattle.laws.specs.Decides.{Decides, decides}

-- a test of all members, and of the member at each place
module _ (test : ℕ → Bool) where
  abbrev pub Everywhere : List ℕ → Type 0
  Everywhere xs = (i : ℕ) → i < length xs → test (get_or xs i 0) ≡ true

  at_each : (xs : List ℕ) → T (all test xs) → Everywhere xs
  unfolding all
  at_each [] t i l = absurd (omega arith)
  at_each (x ∷ xs) t zero l = of_T (test x) (and_yes (test x) (all test xs) t).0
  at_each (x ∷ xs) t (suc i) l = at_each xs (and_yes (test x) (all test xs) t).1 i (omega arith)

  of_each : (xs : List ℕ) → Everywhere xs → T (all test xs)
  unfolding all
  of_each [] h = tt
  of_each (x ∷ xs) h = yes_and (test x) (all test xs) (T_of (h 0 (omega arith))) (of_each xs (λ i l. h (suc i) (omega arith)))

  pub all_decides : (xs : List ℕ) → Decides (all test xs) (Everywhere xs)
  all_decides xs = decides (all test xs) (at_each xs) (of_each xs)

  -- one failure decides
  pub one_fails : (xs : List ℕ) (i : ℕ) → i < length xs → test (get_or xs i 0) ≡ false → all test xs ≡ false
  one_fails xs i l e = (all_decides xs).no (λ h. clash (test (get_or xs i 0)) (h i l) e)

pub same_decides : (xs ys : List ℕ) → Decides (same xs ys) (xs ≡ ys)
same_decides xs ys = decides (same xs ys) (same_is xs ys) (λ e. subst (λ (zs : List ℕ). T (same xs zs)) e (T_of (same_refl xs)))

-- a member stands at some place; a list repeats where two of its places have the same
member_at : (x : ℕ) (xs : List ℕ) (i : ℕ) → i < length xs → x ≡ get_or xs i 0 → member x xs ≡ true
unfolding member
member_at x [] i l e = absurd (omega arith)
member_at x (y ∷ ys) zero l e = rw (eqb_yes x y e)
member_at x (y ∷ ys) (suc i) l e = of_T (member x (y ∷ ys)) (or_right (eqb x y) (member x ys) (T_of (member_at x ys i (omega arith) e)))

member_nowhere : (x : ℕ) (xs : List ℕ) → ((i : ℕ) → i < length xs → x ≡ get_or xs i 0 → ⊥) → member x xs ≡ false
unfolding member
member_nowhere x [] h = refl
member_nowhere x (y ∷ ys) h = rw (eqb_no x y (h 0 (omega arith))) (member_nowhere x ys (λ i l. h (suc i) (omega arith)))

pub repeats_at : (xs : List ℕ) (i j : ℕ) → j < i → i < length xs → get_or xs j 0 ≡ get_or xs i 0 → repeats xs ≡ true
unfolding repeats
repeats_at [] i j l m e = absurd (omega arith)
repeats_at (x ∷ xs) zero j l m e = absurd (omega arith)
repeats_at (x ∷ xs) (suc i) zero l m e = rw (member_at x xs i (omega arith) e)
repeats_at (x ∷ xs) (suc i) (suc j) l m e =
    of_T (repeats (x ∷ xs)) (or_right (member x xs) (repeats xs) (T_of (repeats_at xs i j (omega arith) (omega arith) e)))

pub repeats_nowhere : (xs : List ℕ) → ((i : ℕ) → i < length xs → (j : ℕ) → j < i → get_or xs j 0 ≡ get_or xs i 0 → ⊥) → repeats xs ≡ false
unfolding repeats
repeats_nowhere [] h = refl
repeats_nowhere (x ∷ xs) h =
    rw (member_nowhere x xs (λ i l. h (suc i) (omega arith) 0 (omega arith)))
    (repeats_nowhere xs (λ i l j m. h (suc i) (omega arith) (suc j) (omega arith)))
