-- Floatings of the theorem and labels to be listed are together at most as many as statements, so `label_order` can be called.
-- No label is in the theorem's list, and none is listed twice.
use mathlib.Core.Path.{◌≡◌, ◌∙◌}
use mathlib.Core.Bool.{not}
use mathlib.Core.List.{List, ◌++◌, map}
use Prim.Native.Nat.{ℕ, ◌+◌, ◌≤◌, ◌<◌, min}
use native.Mathlib.Omega.{arith}
use lib.ListN.{length, length-append}
use lib.Dec.{eqb}
use Rattle.laws.specs.Tools.{keep, member, count, firsts}
use Rattle.laws.specs.Lists.{boole, All, all_append}
use Rattle.laws.specs.Sums.{count_append, all_count, count_all, count_no}
use Rattle.laws.specs.Counting.{count_keep, keep_shorter, count_halves, count_firsts, once_below}
use Rattle.defs.specs.Table.{kind, mandatory}
use Rattle.defs.specs.Steps.{Step, is_normal}
use Rattle.defs.specs.Order.{used, listed, floatings}
use Rattle.blocks.specs.Line.{Once}

module _ (w : List ℕ) (steps : List Step) where
  listed_count : (k : ℕ) → count k (listed w steps) ≡ min 1 (count k (used w steps))
  unfolding listed
  listed_count k = count_halves (λ j. eqb (kind w j) 0) k (firsts (used w steps)) ∙ count_firsts k (used w steps)

  abbrev reached : List ℕ
  reached = map (λ (t : Step). t.stmt) (keep is_normal steps)

  -- the theorem's list and the labels, with none twice
  each_once : Once (mandatory w) → Once (mandatory w ++ listed w steps)
  unfolding used
  each_once once k =
      let kept = count_keep (λ j. not (member j (mandatory w))) k reached in
      let both : count k (mandatory w ++ listed w steps) ≡ count k (mandatory w) + count k (listed w steps) = count_append k (mandatory w) (listed w steps) in
      boole (member k (mandatory w))
      (λ h. omega (arith, both, listed_count k, once k, rw h at kept))
      (λ h. omega (arith, both, listed_count k, count_no k (mandatory w) h))

  pub labels_few : (s : ℕ) → Once (mandatory w) → All (λ k. k < s) (mandatory w) → All (λ k. k < s) (used w steps) → floatings w + length (listed w steps) ≤ s
  unfolding floatings
  labels_few s once a b =
      let c : All (λ k. k < s) (listed w steps) = all_count (λ k. k < s) (listed w steps) (λ k h. count_all (λ k. k < s) (used w steps) b k (omega (arith, listed_count k))) in
      omega (
        arith,
        once_below s (mandatory w ++ listed w steps) (all_append (λ k. k < s) (mandatory w) (listed w steps) a c) (each_once once),
        length-append (mandatory w) (listed w steps),
        keep_shorter (λ k. eqb (kind w k) 1) (mandatory w),
      )
