-- The label order: the indices numbered and sorted by use count behind their costs and use counts, then filled in blocks.
-- Both steps write the slice's last part only, so costs and use counts are what they were when they are read.
use mathlib.Core.Path.{◌≡◌, sym, ap, ◌∙◌}
use mathlib.Core.List.{List, ◌++◌}
use Prim.Native.Nat.{ℕ, ◌+◌, ◌-◌, ◌≤◌, ◌<◌}
use native.Mathlib.Omega.{arith}
use lib.ListN.{length, get_or, take, drop, length-append}
use lib.Seq.{take-take, take-add, drop_at, length-take-le, take-append-le}
use Rattle.laws.specs.Tools.{part, range, sort_by}
use Rattle.laws.specs.Lists.{All, part_length, range_length}
use Rattle.laws.specs.Counting.{count_sort, length_sort, range_once, range_below}
use Rattle.sorts.specs.Sorted.{more_used}
use Rattle.blocks.specs.Emission.{Fitting, Labels, filled_from, index_order}
use Rattle.sorts.proofs.Sorting.{all_sort}
use Rattle.blocks.proofs.Lines.{tail_is}

-- a part of a slice is what follows its first a words among the first a + k
pub part_is_drop : (a k : ℕ) (w : List ℕ) → a ≤ length w → part a k w ≡ drop a (take (a + k) w)
part_is_drop a k w h = sym (ap (drop a) (take-add a k w) ∙ drop_at (take a w) (part a k w) a (length-take-le a w h))

-- the slice in two: costs and use counts in front, the indices behind
module _ (n W floatings cells : ℕ) (w front back : List ℕ) (fitting : Fitting n W floatings w cells) (front_is : front ≡ take (n + n) w) (back_long : length back + (n + n) ≡ length w) where
  front_long : length front ≡ n + n
  front_long = ap length front_is ∙ length-take-le (n + n) w (omega (arith, fitting.whole))

  few : length back ≡ n
  few = omega (arith, back_long, fitting.whole)

  uses_are : take (length front - n) (drop n front) ≡ part n n w
  uses_are = tail_is n front ∙ ap (drop n) front_is ∙ sym (part_is_drop n n w (omega (arith, fitting.whole)))

  -- the indices are numbered
  pub can_sort : (ys : List ℕ) → ys ≡ range 0 (length back) → All (λ index. index < length (take (length front - n) (drop n front))) ys
  can_sort ys numbered =
      let long : length (part n n w) ≡ n = part_length n n w (omega (arith, fitting.whole)) in
      rw (numbered, few, uses_are, long) (range_below n)

  -- and sorted
  module _ (ys zs : List ℕ) (numbered : ys ≡ range 0 (length back)) (sorted : zs ≡ sort_by (more_used (take (length front - n) (drop n front))) ys) where
    zs_are : zs ≡ sort_by (more_used (part n n w)) (range 0 n)
    zs_are = sorted ∙ rw (numbered, few, uses_are)

    abbrev w₂ : List ℕ
    w₂ = front ++ zs

    costs_are : take n w₂ ≡ take n w
    costs_are = take-append-le n front zs (omega (arith, front_long)) ∙ ap (take n) front_is ∙ take-take n (n + n) w (omega arith)

    labels_are : drop (n + n) w₂ ≡ sort_by (more_used (part n n w)) (range 0 n)
    labels_are = drop_at front zs (n + n) front_long ∙ zs_are

    long_still : length w₂ ≡ n + n + n
    long_still = omega (arith, length-append front zs, front_long, ap length zs_are, length_sort (more_used (part n n w)) (range 0 n), range_length 0 n)

    pub can_fill : Fitting n W floatings w₂ cells × Labels n w₂
    can_fill = (
      record {
        narrow = fitting.narrow;
        begun = fitting.begun;
        few = fitting.few;
        whole = long_still;
        costs = rw costs_are fitting.costs;
        room = fitting.room;
      },
      record {
        members = rw labels_are (all_sort (λ j. j < n) (more_used (part n n w)) (range 0 n) (range_below n));
        once = λ x. rw labels_are (omega (arith, count_sort x (more_used (part n n w)) (range 0 n), range_once n x));
      },
    )

    -- which fills the blocks of the labels by use count
    pub order_is : (filled_from (λ j. get_or (take n w₂) j 0) W floatings (drop (n + n) w₂)).emitted ≡ index_order (take n w) (part n n w) floatings W
    unfolding index_order
    order_is =
        let l : length (take n w) ≡ n = length-take-le n w (omega (arith, fitting.whole)) in
        rw (costs_are, labels_are)
        (ap (λ (k : ℕ). (filled_from (λ j. get_or (take n w) j 0) W floatings (sort_by (more_used (part n n w)) (range 0 k))).emitted) (sym l))
