-- The sort of module Tools: a permutation, in order, stable. Nothing here is about proofs or tables.
use Rattle.std.specs.Prelude.{◌≡◌, ◌≢◌, ℕ, zero, suc, ◌<◌, Bool, true, false, length, get_or, eqb}
use Rattle.std.proofs.Math.Path.{refl, sym}
use Rattle.std.proofs.Common.{ap, ◌∙◌, arith, eqb→eq}
use mathlib.Core.List.Perm
use mathlib.Core.List.{List, [], ◌∷◌, Perm}
use Rattle.laws.specs.Tools.{keep, insert_by, sort_by}
use Rattle.laws.specs.Lists.{boole, T_of, All, all_at, all_map}

-- no later member must stand before an earlier one
abbrev pub Ordered : (ℕ → ℕ → Bool) → List ℕ → Type 0
Ordered before [] = Unit
Ordered before (x ∷ xs) = All (λ y. before y x ≡ false) xs × Ordered before xs

pub ordered_at : (before : ℕ → ℕ → Bool) (xs : List ℕ) → Ordered before xs → (i j : ℕ) → i < j → j < length xs → before (get_or xs j 0) (get_or xs i 0) ≡ false
ordered_at before [] o i j l m = absurd (omega arith)
ordered_at before (x ∷ xs) o i zero l m = absurd (omega arith)
ordered_at before (x ∷ xs) o zero (suc j) l m = all_at (λ y. before y x ≡ false) xs 0 o.0 j (omega arith)
ordered_at before (x ∷ xs) o (suc i) (suc j) l m = ordered_at before xs o.1 i j (omega arith) (omega arith)

-- ---- a permutation, whatever the order

insert_perm : (before : ℕ → ℕ → Bool) (x : ℕ) (ys : List ℕ) → Perm (insert_by before x ys) (x ∷ ys)
unfolding insert_by
insert_perm before x [] = Perm.refl (x ∷ [])
insert_perm before x (y ∷ ys) =
    boole (before y x)
    (λ h. rw h (Perm.trans (Perm.cons y (insert_perm before x ys)) (Perm.swap x y ys)))
    (λ h. rw h (Perm.refl (x ∷ y ∷ ys)))

pub sort_perm : (before : ℕ → ℕ → Bool) (xs : List ℕ) → Perm (sort_by before xs) xs
unfolding sort_by
sort_perm before [] = Perm.refl []
sort_perm before (x ∷ xs) = Perm.trans (insert_perm before x (sort_by before xs)) (Perm.cons x (sort_perm before xs))

-- ---- in order

module _ (before : ℕ → ℕ → Bool) (one_way : (y x : ℕ) → before y x ≡ true → before x y ≡ false)
    (chain : (x y z : ℕ) → before y x ≡ false → before z y ≡ false → before z x ≡ false) where
  insert_all : (P : ℕ → Type 0) (x : ℕ) (ys : List ℕ) → P x → All P ys → All P (insert_by before x ys)
  unfolding insert_by
  insert_all P x [] h a = (h, tt)
  insert_all P x (y ∷ ys) h a = boole (before y x) (λ t. rw t (a.0, insert_all P x ys h a.1)) (λ t. rw t (h, a))

  insert_ordered : (x : ℕ) (ys : List ℕ) → Ordered before ys → Ordered before (insert_by before x ys)
  unfolding insert_by
  insert_ordered x [] o = (tt, tt)
  insert_ordered x (y ∷ ys) o =
      boole (before y x)
      (λ h. rw h (insert_all (λ z. before z y ≡ false) x ys (one_way y x h) o.0, insert_ordered x ys o.1))
      (λ h. rw h ((h, all_map (λ z. before z y ≡ false) _ (λ z k. chain x y z h k) ys o.0), o))

  pub sort_ordered : (xs : List ℕ) → Ordered before (sort_by before xs)
  unfolding sort_by
  sort_ordered [] = tt
  sort_ordered (x ∷ xs) = insert_ordered x (sort_by before xs) (sort_ordered xs)

-- ---- stable: members with one key keep their order

module _ (before : ℕ → ℕ → Bool) (key : ℕ → ℕ) (apart : (y x : ℕ) → before y x ≡ true → key y ≢ key x) (k : ℕ) where
  abbrev mine : ℕ → Bool
  mine x = eqb (key x) k

  insert_keep : (x : ℕ) (ys : List ℕ) → keep mine (insert_by before x ys) ≡ keep mine (x ∷ ys)
  unfolding insert_by keep
  insert_keep x [] = refl
  insert_keep x (y ∷ ys) =
      boole (before y x)
      (λ h. rw h
      (boole (mine y)
      (λ my. boole (mine x)
      (λ mx. absurd (apart y x h (eqb→eq _ _ (T_of my) ∙ sym (eqb→eq _ _ (T_of mx)))))
      (λ mx. rw (my, mx) (ap (λ (l : List ℕ). y ∷ l) (insert_keep x ys ∙ rw mx))))
      (λ my. rw my (insert_keep x ys))))
      (λ h. rw h)

  pub sort_stable : (xs : List ℕ) → keep mine (sort_by before xs) ≡ keep mine xs
  unfolding sort_by keep
  sort_stable [] = refl
  sort_stable (x ∷ xs) = insert_keep x (sort_by before xs) ∙ boole (mine x) (λ h. rw h (ap (λ (l : List ℕ). x ∷ l) (sort_stable xs))) (λ h. rw h (sort_stable xs))
