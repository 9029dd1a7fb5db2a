-- The labels by use count, most first, and a block by index: each a permutation, in order; equal use counts stay by index.
use Rattle.std.specs.Prelude.{◌≡◌, true, false, not, length, get_or, eqb}
use Rattle.std.proofs.Common.{ap, arith, nltb→le}
use Prim.Native.Nat.{ℕ, suc, ◌≤◌, ◌<◌}
use Rattle.std.proofs.Math.Bool.{Bool}
use mathlib.Core.List.{List, Perm}
use Rattle.std.proofs.Math.Dec.{ltb, leb→le}
use Rattle.laws.specs.Tools.{range, keep}
use Rattle.laws.specs.Lists.{T_of, leb_no}
use Rattle.laws.specs.Sorting.{ordered_at, sort_perm, sort_ordered, sort_stable}
use Rattle.defs.specs.Steps.{Step}
use Rattle.defs.specs.Order.{listed, use_of, by_use, by_index}

-- ---- by use count, most first

more_one_way : (a b : ℕ) → ltb a b ≡ true → ltb b a ≡ false
more_one_way a b h = leb_no (suc b) a (omega (arith, leb→le (suc a) b (T_of h)))

less_or : (a b : ℕ) → ltb a b ≡ false → b ≤ a
less_or a b h = nltb→le a b (T_of (ap not h))

less_chain : (a b c : ℕ) → ltb a b ≡ false → ltb b c ≡ false → ltb a c ≡ false
less_chain a b c h k = leb_no (suc a) c (omega (arith, less_or a b h, less_or b c k))

module _ (w : List ℕ) (steps : List Step) where
  abbrev uses : ℕ → ℕ
  uses = use_of w steps (listed w steps)

  pub by_use_perm : Perm (by_use w steps) (range 0 (length (listed w steps)))
  unfolding by_use
  by_use_perm = sort_perm _ (range 0 (length (listed w steps)))

  pub by_use_sorted : (i j : ℕ) → i < j → j < length (by_use w steps) → use_of w steps (listed w steps) (get_or (by_use w steps) j 0) ≤ use_of w steps (listed w steps) (get_or (by_use w steps) i 0)
  unfolding by_use
  by_use_sorted i j l m =
      let before : ℕ → ℕ → Bool = λ y x. ltb (uses x) (uses y) in
      less_or _ _ (ordered_at before (by_use w steps)
      (sort_ordered before (λ y x h. more_one_way (uses x) (uses y) h) (λ x y z h k. less_chain (uses x) (uses y) (uses z) h k) (range 0 (length (listed w steps)))) i j l m)

  -- labels of one use count stay by index
  pub by_use_stable : (k : ℕ) → keep (λ i. eqb (use_of w steps (listed w steps) i) k) (by_use w steps) ≡ keep (λ i. eqb (use_of w steps (listed w steps) i) k) (range 0 (length (listed w steps)))
  unfolding by_use
  by_use_stable k =
      sort_stable (λ y x. ltb (uses x) (uses y)) uses (λ y x h e. omega (arith, e, leb→le (suc (uses x)) (uses y) (T_of h))) k (range 0 (length (listed w steps)))

-- ---- a block by index

pub by_index_perm : (block : List ℕ) → Perm (by_index block) block
unfolding by_index
by_index_perm block = sort_perm _ block

pub by_index_sorted : (block : List ℕ) (i j : ℕ) → i < j → j < length (by_index block) → get_or (by_index block) i 0 ≤ get_or (by_index block) j 0
unfolding by_index
by_index_sorted block i j l m =
    less_or _ _ (ordered_at (λ y x. ltb y x) (by_index block)
    (sort_ordered (λ y x. ltb y x) (λ y x h. more_one_way y x h) (λ x y z h k. less_chain z y x k h) block) i j l m)
