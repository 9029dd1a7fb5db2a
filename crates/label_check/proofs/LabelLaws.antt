-- The bytes of all labels: where labels fill the slice, they are the bytes of the slice.
-- Assumes nothing.
use Prim.Native.Nat.{ℕ, zero, suc, ◌≤◌}
use mathlib.Core.Bool.{Bool, true, false, not, ◌&&◌, ◌||◌}
use mathlib.Core.List.{List, [], ◌∷◌, ◌++◌}
use mathlib.Core.Path.{◌≡◌, refl, ◌∙◌}
use native.Mathlib.Omega.{arith}
use lib.ListN.{take}
use lib.Seq.{take-add, take-length}
use Rattle.laws.specs.Lists.{boole}
use Rattle.laws.specs.Tools.{part, all, some_below, sum_below}
use Rattle.defs.specs.Check.{label_byte, label_wrong}
use Rattle.defs.specs.Table.{label_length_in, label_in}
use Rattle.label_check.specs.Right.{LabelsRight}

-- ---- labels

-- labels fill the bytes, so that some label has another byte just where some byte is one
all_append : (test : ℕ → Bool) (xs ys : List ℕ) → all test (xs ++ ys) ≡ (all test xs && all test ys)
unfolding all
all_append test [] ys = refl
all_append test (x ∷ xs) ys = boole (test x) (λ h. rw h (all_append test xs ys)) (λ h. rw h)

not_and : (a b : Bool) → not (a && b) ≡ (not a || not b)
not_and true b = refl
not_and false b = refl

module _ (ss b : List ℕ) (s : ℕ) (right : LabelsRight ss b s) where
  some_wrong : (k : ℕ) → k ≤ s → some_below (label_wrong ss b) k ≡ not (all label_byte (take (sum_below (label_length_in ss) k) b))
  unfolding some_below sum_below all label_wrong label_in
  some_wrong zero l = refl
  some_wrong (suc k) l =
      let before = sum_below (label_length_in ss) k in
      let front = take before b in
      let own = part before (label_length_in ss k) b in
      rw (
        take-add before (label_length_in ss k) b,
        all_append label_byte front own,
        not_and (all label_byte front) (all label_byte own),
        right.start k l,
        some_wrong k (omega arith),
      )

  pub bytes_of_labels : some_below (label_wrong ss b) s ≡ not (all label_byte b)
  bytes_of_labels = some_wrong s (omega arith) ∙ rw (right.fill, take-length b)
