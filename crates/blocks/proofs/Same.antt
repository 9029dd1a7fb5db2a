-- The order depends on the costs and use counts of the labels only: any two that agree on them give one order.
-- So the order of costs and use counts kept in a slice is document 01's label list.
use mathlib.Core.Path.{◌≡◌, refl, sym, ap, ap₂, ◌∙◌}
use mathlib.Core.Bool.{Bool, not}
use mathlib.Core.List.{List, [], ◌∷◌, ◌++◌, map}
use Prim.Native.Nat.{ℕ, zero, suc, ◌-◌, ◌*◌, ◌<◌}
use native.Mathlib.Omega.{arith}
use lib.ListN.{length, get_or, drop}
use lib.Dec.{eqb, ltb}
use Rattle.laws.specs.Tools.{range, keep, member, insert_by, sort_by}
use Rattle.laws.specs.Lists.{boole, All, all_at, all_append, all_snoc, all_keep, map_all}
use Rattle.laws.specs.Sums.{all_count, count_all}
use Rattle.laws.specs.Counting.{range_below}
use Rattle.defs.specs.Steps.{Step}
use Rattle.defs.specs.Order.{listed, cost_of, use_of, by_use, by_index, Counter, cutoffs, start_at, blocks_from, floatings, blocks}
use Rattle.defs.specs.Order.{best, rest_reaches, choose, Filling, chosen, emit, fill_within, fill_block, fill_blocks, label_list}
use Rattle.defs.proofs.LabelLaws.{among}
use Rattle.sorts.specs.Sorted.{lower, more_used}
use Rattle.sorts.proofs.Sorting.{all_sort}
use Rattle.blocks.specs.Emission.{filled_from, index_order}

-- ---- the choice

module _ (f g : ℕ → ℕ) where
  best_same : (i room : ℕ) → ((j : ℕ) → j < i → f j ≡ g j) → best f i room ≡ best g i room
  unfolding best
  best_same zero room h = refl
  best_same (suc i) room h =
      let a : f i ≡ g i = h i (omega arith) in
      let b : (r : ℕ) → best f i r ≡ best g i r = λ r. best_same i r (λ j l. h j (omega arith)) in
      rw (a, b room, b (room - g i))

  choose_same : (i room : ℕ) → ((j : ℕ) → j < i → f j ≡ g j) → choose f i room ≡ choose g i room
  unfolding choose rest_reaches
  choose_same zero room h = refl
  choose_same (suc i) room h =
      let a : f i ≡ g i = h i (omega arith) in
      let b : (r : ℕ) → choose f i r ≡ choose g i r = λ r. choose_same i r (λ j l. h j (omega arith)) in
      rw (best_same (suc i) room h, best_same i room (λ j l. h j (omega arith)), a, b room, b (room - g i))

-- ---- what is emitted

module _ (P : ℕ → Type 0) (cost : ℕ → ℕ) (W : ℕ) where
  all_chosen : (block : List ℕ) (position : ℕ) → All P block → All P (chosen cost W block position)
  all_chosen block position a = all_count P (chosen cost W block position) (λ k h. count_all P block a k (omega (arith, among cost W block position k)))

  all_within : (turns : ℕ) (block : List ℕ) (s : Filling) → All P block → All P s.emitted → All P (fill_within cost W turns block s).emitted
  unfolding fill_within emit
  all_within zero block s a e = e
  all_within (suc turns) [] s a e = e
  all_within (suc turns) (x ∷ xs) s a e =
      let choice = chosen cost W (x ∷ xs) s.position in
      all_within turns (keep (λ j. not (member j choice)) (x ∷ xs)) (emit cost W choice s) (all_keep P _ (x ∷ xs) a)
      (all_append P s.emitted choice e (all_chosen (x ∷ xs) s.position a))

  all_filled : (bs : List (List ℕ)) (s : Filling) → All (λ b. All P b) bs → All P s.emitted → All P (fill_blocks cost W bs s).emitted
  unfolding fill_blocks fill_block by_index
  all_filled [] s a e = e
  all_filled (b ∷ bs) s a e = all_filled bs (fill_block cost W b s) a.1 (all_within (2 * length b) (by_index b) s (all_sort P lower b a.0) e)

  -- blocks of labels hold labels
  all_blocks : (ahead : List ℕ) (i : ℕ) (block xs : List ℕ) → All P block → All P xs → All (λ b. All P b) (blocks_from ahead i block xs)
  unfolding blocks_from
  all_blocks ahead i block [] a b = (a, tt)
  all_blocks ahead i block (x ∷ xs) a b =
      boole (eqb i (get_or ahead 0 0))
      (λ h. rw h (a, all_blocks (drop 1 ahead) 1 (x ∷ []) xs (b.0, tt) b.1))
      (λ h. rw h (all_blocks ahead (suc i) (block ++ (x ∷ [])) xs (all_snoc P block x a b.0) b.1))

-- every index emitted is that of a label: what reads by it stays within the labels
pub order_below : (costs uses : List ℕ) (floating W : ℕ) → All (λ j. j < length costs) (index_order costs uses floating W)
unfolding index_order filled_from
order_below costs uses floating W =
    let c : Counter = start_at cutoffs floating in
    let n : ℕ = length costs in
    let labels : List ℕ = sort_by (more_used uses) (range 0 n) in
    all_filled (λ j. j < n) (λ i. get_or costs i 0) W (blocks_from c.ahead c.at [] labels) (record { position = 2; emitted = [] })
    (all_blocks (λ j. j < n) (λ i. get_or costs i 0) W c.ahead c.at [] labels tt (all_sort (λ j. j < n) (more_used uses) (range 0 n) (range_below n))) tt

-- ---- filling

module _ (n : ℕ) (f g : ℕ → ℕ) (same : (j : ℕ) → j < n → f j ≡ g j) (W : ℕ) where
  chosen_same : (block : List ℕ) (position : ℕ) → All (λ j. j < n) block → chosen f W block position ≡ chosen g W block position
  unfolding chosen
  chosen_same block position a =
      ap (map (λ p. get_or block p 0)) (choose_same (λ p. f (get_or block p 0)) (λ p. g (get_or block p 0)) (length block) (W - position)
      (λ p l. same (get_or block p 0) (all_at (λ j. j < n) block 0 a p l)))

  emit_same : (choice : List ℕ) (s : Filling) → All (λ j. j < n) choice → emit f W choice s ≡ emit g W choice s
  unfolding emit
  emit_same choice s a = rw (map_all f g (λ j. j < n) same choice a)

  within_same : (turns : ℕ) (block : List ℕ) (s : Filling) → All (λ j. j < n) block → fill_within f W turns block s ≡ fill_within g W turns block s
  unfolding fill_within
  within_same zero block s a = refl
  within_same (suc turns) [] s a = refl
  within_same (suc turns) (x ∷ xs) s a =
      let choice = chosen g W (x ∷ xs) s.position in
      rw (chosen_same (x ∷ xs) s.position a, emit_same choice s (all_chosen (λ j. j < n) g W (x ∷ xs) s.position a))
      (within_same turns (keep (λ j. not (member j choice)) (x ∷ xs)) (emit g W choice s) (all_keep (λ j. j < n) _ (x ∷ xs) a))

  block_same : (block : List ℕ) (s : Filling) → All (λ j. j < n) block → fill_block f W block s ≡ fill_block g W block s
  unfolding fill_block by_index
  block_same block s a = within_same (2 * length block) (by_index block) s (all_sort (λ j. j < n) lower block a)

  blocks_same : (bs : List (List ℕ)) (s : Filling) → All (λ b. All (λ j. j < n) b) bs → fill_blocks f W bs s ≡ fill_blocks g W bs s
  unfolding fill_blocks
  blocks_same [] s a = refl
  blocks_same (b ∷ bs) s a = ap (fill_blocks f W bs) (block_same b s a.0) ∙ blocks_same bs (fill_block g W b s) a.1

  filled_same : (floating : ℕ) (labels : List ℕ) → All (λ j. j < n) labels → filled_from f W floating labels ≡ filled_from g W floating labels
  unfolding filled_from
  filled_same floating labels a =
      let c : Counter = start_at cutoffs floating in
      blocks_same (blocks_from c.ahead c.at [] labels) (record { position = 2; emitted = [] }) (all_blocks (λ j. j < n) g W c.ahead c.at [] labels tt a)

-- ---- sorting

module _ (n : ℕ) (f g : ℕ → ℕ → Bool) (same : (y x : ℕ) → y < n → x < n → f y x ≡ g y x) where
  insert_same : (x : ℕ) (ys : List ℕ) → x < n → All (λ j. j < n) ys → insert_by f x ys ≡ insert_by g x ys
  unfolding insert_by
  insert_same x [] l a = refl
  insert_same x (y ∷ ys) l a = rw (same y x a.0 l, insert_same x ys l a.1)

  sort_same : (xs : List ℕ) → All (λ j. j < n) xs → sort_by f xs ≡ sort_by g xs
  unfolding sort_by
  sort_same [] a = refl
  sort_same (x ∷ xs) a = rw (sort_same xs a.1) (insert_same x (sort_by g xs) a.0 (all_sort (λ j. j < n) g xs a.1))

-- ---- the label list

-- costs and use counts of the labels, by index, give document 01's label list
pub label_list_lem : (w : List ℕ) (W : ℕ) (steps : List Step) (costs uses : List ℕ) → length costs ≡ length (listed w steps)
    → ((i : ℕ) → i < length (listed w steps) → get_or costs i 0 ≡ cost_of w (listed w steps) i)
    → ((i : ℕ) → i < length (listed w steps) → get_or uses i 0 ≡ use_of w steps (listed w steps) i)
    → label_list w W steps ≡ map (λ i. get_or (listed w steps) i 0) (index_order costs uses (floatings w) W)
unfolding label_list blocks by_use index_order filled_from
label_list_lem w W steps costs uses long cost-is use_is =
    let ls : List ℕ = listed w steps in
    let n : ℕ = length ls in
    let more : ℕ → ℕ → Bool = λ y x. ltb (use_of w steps ls x) (use_of w steps ls y) in
    let cost : ℕ → ℕ = λ i. get_or costs i 0 in
    let sorted : sort_by (more_used uses) (range 0 n) ≡ sort_by more (range 0 n) =
    sort_same n (more_used uses) more (λ y x l m. ap₂ ltb (use_is x m) (use_is y l)) (range 0 n) (range_below n) in
    let order : index_order costs uses (floatings w) W ≡ (filled_from (cost_of w ls) W (floatings w) (sort_by more (range 0 n))).emitted =
    ap (λ (k : ℕ). (filled_from cost W (floatings w) (sort_by (more_used uses) (range 0 k))).emitted) long
    ∙ ap (λ (labels : List ℕ). (filled_from cost W (floatings w) labels).emitted) sorted
    ∙ ap (λ (s : Filling). s.emitted)
    (filled_same n cost (cost_of w ls) cost-is W (floatings w) (sort_by more (range 0 n)) (all_sort (λ j. j < n) more (range 0 n) (range_below n))) in
    ap (map (λ i. get_or ls i 0)) (sym order)
