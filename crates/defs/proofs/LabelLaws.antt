-- The label list lists each statement that is to be listed once: every block is emitted whole, since the turns suffice.
use Rattle.std.specs.Prelude.{◌≡◌, refl, Bool, false, take, drop, leb}
use Rattle.std.proofs.Math.Path.{ap}
use Rattle.std.proofs.Common.{◌∙◌, take-suc}
use Prim.Native.Nat.{ℕ, zero, suc, ◌+◌, ◌-◌, ◌*◌, ◌≤◌, ◌<◌, min}
use native.Mathlib.Omega.{arith}
use Rattle.std.proofs.Math.Decide.{dec_lt, ℕ_discrete}
use Rattle.std.proofs.Math.Bool.{not}
use mathlib.Core.List.{List, [], ◌∷◌, ◌++◌, map, append_assoc}
use Rattle.std.proofs.Math.ListN.{length, get_or, length-map}
use Rattle.std.proofs.Math.Seq.{take-length}
use Rattle.std.proofs.Math.Dec.{nltb→le, eqb, ltb}
use Rattle.laws.specs.Tools.{range, any, keep, member, total, join, count, firsts}
use Rattle.defs.specs.Table.{kind, label_length}
use Rattle.defs.specs.Steps.{Step}
use Rattle.defs.specs.Order.{used, listed, cost_of, use_of, by_use, by_index, blocks_from, blocks, best, rest_reaches, choose, Filling, chosen, emit, fill_within, fill_block, fill_blocks, label_list, Counter, start_at, cutoffs, floatings}
use Rattle.defs.proofs.ChoiceLaws.{choose_reaches}
use Rattle.laws.specs.Lists.{boole, T_of, of_T, clash, eqb_yes, eqb_no, leb_yes, map_snoc}
use Rattle.laws.specs.Sums.{bit, count_append, count_all, member_count, count_member, count_no, count_self, head_in}
use Rattle.laws.specs.Counting.{count_sort, length_sort, count_keep, keep_shorter, keep_drops, count_halves, count_firsts, none_at, none_of, range_once, range_below, count_permuted}

-- ---- the choice

-- the items chosen of the first i are among them
chosen_count : (block : List ℕ) (cost : ℕ → ℕ) (x i room : ℕ) → i ≤ length block
    → count x (map (λ p. get_or block p 0) (choose cost i room)) ≤ count x (take i block)
unfolding choose
chosen_count block cost x zero room h = omega arith
chosen_count block cost x (suc i) room h =
    let at : ℕ → ℕ = λ p. get_or block p 0 in
    let more : count x (take (suc i) block) ≡ count x (take i block) + (bit (eqb x (at i)) + 0) =
    ap (count x) (take-suc block i 0 h) ∙ count_append x (take i block) (at i ∷ []) in
    let without = chosen_count block cost x i room (omega arith) in
    let with_it = chosen_count block cost x i (room - cost i) (omega arith) in
    boole (rest_reaches cost i room)
    (λ e. rw e (omega arith))
    (λ e. rw (e, map_snoc at (choose cost i (room - cost i)) i, count_append x (map at (choose cost i (room - cost i))) (at i ∷ [])) (omega arith))

-- where the first item fits, something is chosen
best_some : (cost : ℕ → ℕ) (i room : ℕ) → 1 ≤ cost 0 → cost 0 ≤ room → 1 ≤ best cost (suc i) room
unfolding best
best_some cost zero room a b = rw (leb_yes (cost 0) room b) (omega arith)
best_some cost (suc i) room a b =
    let ih = best_some cost i room a b in
    boole (leb (cost (suc i)) room) (λ h. rw h (omega arith)) (λ h. rw h ih)

total_none : (cost : ℕ → ℕ) (xs : List ℕ) → 1 ≤ total (map cost xs) → 1 ≤ length xs
total_none cost [] h = absurd (omega arith)
total_none cost (x ∷ xs) h = omega arith

module _ (cost : ℕ → ℕ) (W : ℕ) where
  pub among : (block : List ℕ) (position x : ℕ) → count x (chosen cost W block position) ≤ count x block
  unfolding chosen
  among block position x =
      omega (arith, chosen_count block (λ p. cost (get_or block p 0)) x (length block) (W - position) (omega arith), ap (count x) (take-length block))

  some_chosen : (x : ℕ) (xs : List ℕ) (position : ℕ) → position ≡ 0 → 1 ≤ cost x → cost x ≤ W → 1 ≤ length (chosen cost W (x ∷ xs) position)
  unfolding chosen
  some_chosen x xs position z a b =
      let c : ℕ → ℕ = λ p. cost (get_or (x ∷ xs) p 0) in
      let ps = choose c (suc (length xs)) (W - position) in
      let h : 1 ≤ total (map c ps) = omega (arith, choose_reaches c (suc (length xs)) (W - position), best_some c (length xs) (W - position) a (omega arith)) in
      omega (arith, total_none c ps h, length-map ps (λ p. get_or (x ∷ xs) p 0))

  -- ---- filling

  -- the costs of a block's members fit on an empty line
  abbrev pub Fit : List ℕ → Type 0
  Fit block = (j : ℕ) → 1 ≤ count j block → (1 ≤ cost j) × (cost j ≤ W)

  empty_turn : (choice : List ℕ) (s : Filling) → length choice ≡ 0 → (emit cost W choice s).position ≡ 0
  unfolding emit
  empty_turn choice s e = rw (eqb_yes (length choice) 0 e)

  emitted_more : (choice : List ℕ) (s : Filling) (x : ℕ) → count x (emit cost W choice s).emitted ≡ count x s.emitted + count x choice
  unfolding emit
  emitted_more choice s x = count_append x s.emitted choice

  -- the members chosen and those kept are the block
  split_block : (block choice : List ℕ) → ((x : ℕ) → count x block ≤ 1) → ((x : ℕ) → count x choice ≤ count x block)
      → (x : ℕ) → count x choice + count x (keep (λ j. not (member j choice)) block) ≡ count x block
  split_block block choice once sub x =
      let kept = count_keep (λ j. not (member j choice)) x block in
      boole (member x choice)
      (λ m. omega (arith, rw m at kept, member_count x choice (T_of m), once x, sub x))
      (λ m. omega (arith, rw m at kept, count_no x choice m))

  -- a turn that chooses nothing stands on a line that is not empty, and is followed by one on an empty line
  pub turn_suffices : (turns y : ℕ) (ys : List ℕ) (s : Filling) → Fit (y ∷ ys) → 2 * length (y ∷ ys) ≤ suc turns + bit (eqb s.position 0)
      → 2 * length (keep (λ j. not (member j (chosen cost W (y ∷ ys) s.position))) (y ∷ ys))
      ≤ turns + bit (eqb (emit cost W (chosen cost W (y ∷ ys) s.position) s).position 0)
  turn_suffices turns y ys s fits enough =
      let block : List ℕ = y ∷ ys in
      let choice = chosen cost W block s.position in
      let test : ℕ → Bool = λ j. not (member j choice) in
      elim (dec_lt 0 (length choice)) [
        | yes l ↦
            let z = head_in choice l in
            let less : length (keep test block) < length block =
            keep_drops test z.0 block (omega (arith, z.1, among block s.position z.0)) (ap not (of_T (member z.0 choice) (count_member z.0 choice z.1))) in
            boole (eqb s.position 0) (λ h. omega (arith, ap bit h)) (λ h. omega (arith, ap bit h))
        | no l ↦
            let now : bit (eqb (emit cost W choice s).position 0) ≡ 1 = ap bit (eqb_yes _ 0 (empty_turn choice s (omega arith))) in
            elim (ℕ_discrete s.position 0) [
              | yes z ↦
                  let f = fits y (count_self y ys) in
                  absurd (omega (arith, some_chosen y ys s.position z f.0 f.1))
              | no z ↦ omega (arith, ap bit (eqb_no s.position 0 z), keep_shorter test block)
            ]
      ]

  -- 2 turns for each member suffice, 1 less where the line is empty
  fill_within_lem : (turns : ℕ) (block : List ℕ) (s : Filling) → Fit block → ((x : ℕ) → count x block ≤ 1)
      → 2 * length block ≤ turns + bit (eqb s.position 0)
      → (x : ℕ) → count x (fill_within cost W turns block s).emitted ≡ count x s.emitted + count x block
  unfolding fill_within
  fill_within_lem zero [] s fits once enough x = omega arith
  fill_within_lem zero (y ∷ ys) s fits once enough x =
      absurd (boole (eqb s.position 0) (λ h. omega (arith, ap bit h)) (λ h. omega (arith, ap bit h)))
  fill_within_lem (suc turns) [] s fits once enough x = omega arith
  fill_within_lem (suc turns) (y ∷ ys) s fits once enough x =
      let block : List ℕ = y ∷ ys in
      let choice = chosen cost W block s.position in
      let rest = keep (λ j. not (member j choice)) block in
      let parts = split_block block choice once (among block s.position) in
      let ih = fill_within_lem turns rest (emit cost W choice s)
      (λ j h. fits j (omega (arith, parts j)))
      (λ j. omega (arith, parts j, once j))
      (turn_suffices turns y ys s fits enough) in
      ih x ∙ omega (arith, emitted_more choice s x, parts x)

  fill_block_lem : (block : List ℕ) (s : Filling) → Fit block → ((x : ℕ) → count x block ≤ 1)
      → (x : ℕ) → count x (fill_block cost W block s).emitted ≡ count x s.emitted + count x block
  unfolding fill_block by_index
  fill_block_lem block s fits once x =
      let sorted = by_index block in
      let same : (j : ℕ) → count j sorted ≡ count j block = λ j. count_sort j (λ a c. ltb a c) block in
      let long : length sorted ≡ length block = length_sort (λ a c. ltb a c) block in
      fill_within_lem (2 * length block) sorted s (λ j h. fits j (omega (arith, same j))) (λ j. omega (arith, same j, once j)) (omega arith) x
      ∙ omega (arith, same x)

  fill_blocks_lem : (blocks : List (List ℕ)) (s : Filling) → Fit (join blocks) → ((x : ℕ) → count x (join blocks) ≤ 1)
      → (x : ℕ) → count x (fill_blocks cost W blocks s).emitted ≡ count x s.emitted + count x (join blocks)
  unfolding fill_blocks join
  fill_blocks_lem [] s fits once x = omega arith
  fill_blocks_lem (block ∷ rest) s fits once x =
      let both : (j : ℕ) → count j (block ++ join rest) ≡ count j block + count j (join rest) = λ j. count_append j block (join rest) in
      fill_blocks_lem rest (fill_block cost W block s) (λ j h. fits j (omega (arith, both j))) (λ j. omega (arith, both j, once j)) x
      ∙ omega (arith, fill_block_lem block s (λ j h. fits j (omega (arith, both j))) (λ j. omega (arith, both j, once j)) x, both x)

-- the blocks hold what is put into them, in order
blocks_hold : (ahead : List ℕ) (i : ℕ) (block xs : List ℕ) → join (blocks_from ahead i block xs) ≡ block ++ xs
unfolding blocks_from join
blocks_hold ahead i block [] = refl
blocks_hold ahead i block (x ∷ xs) =
    boole (eqb i (get_or ahead 0 0))
    (λ h. rw h (ap (λ (l : List ℕ). block ++ l) (blocks_hold (drop 1 ahead) 1 (x ∷ []) xs)))
    (λ h. rw h (blocks_hold ahead (suc i) (block ++ (x ∷ [])) xs ∙ append_assoc block (x ∷ []) xs))

-- the label list for lines of `room` + 1, where no label that is to be listed is longer than `room`
module _ (w : List ℕ) (room : ℕ) (steps : List Step) (narrow : any (λ k. ltb room (label_length w k)) (listed w steps) ≡ false) where
  abbrev pub ls : List ℕ
  ls = listed w steps

  pub by_use_lem : (x : ℕ) → count x (join (blocks w steps)) ≡ count x (range 0 (length ls))
  unfolding blocks by_use
  by_use_lem x =
      let c : Counter = start_at cutoffs (floatings w) in
      ap (count x) (blocks_hold c.ahead c.at [] (by_use w steps))
      ∙ count_sort x (λ y x. ltb (use_of w steps ls x) (use_of w steps ls y)) (range 0 (length ls))

  pub costs_fit : (j : ℕ) → 1 ≤ count j (join (blocks w steps)) → (1 ≤ cost_of w ls j) × (cost_of w ls j ≤ room + 1)
  unfolding cost_of
  costs_fit j h =
      let len = label_length w (get_or ls j 0) in
      let below : j < length ls = count_all (λ x. x < length ls) (range 0 (length ls)) (range_below (length ls)) j (omega (arith, by_use_lem j)) in
      elim (dec_lt room len) [
        | yes l ↦ clash (ltb room len) (leb_yes (suc room) len l) (none_at (λ k. ltb room (label_length w k)) ls j narrow below)
        | no l ↦ omega arith
      ]

  -- each statement that is used and not in the theorem's list stands there once
  pub count_labels : (k : ℕ) → count k (label_list w (room + 1) steps) ≡ min 1 (count k (used w steps))
  unfolding label_list listed
  count_labels k =
      let once : (j : ℕ) → count j (join (blocks w steps)) ≤ 1 = λ j. omega (arith, by_use_lem j, range_once (length ls) j) in
      let start : Filling = record { position = 2; emitted = [] } in
      count_permuted ls (fill_blocks (cost_of w ls) (room + 1) (blocks w steps) start).emitted
      (λ x. fill_blocks_lem (cost_of w ls) (room + 1) (blocks w steps) start costs_fit once x ∙ omega (arith, by_use_lem x)) k
      ∙ count_halves (λ j. eqb (kind w j) 0) k (firsts (used w steps))
      ∙ count_firsts k (used w steps)

  -- and its label fits
  pub labels_narrow : (k : ℕ) → 1 ≤ count k (used w steps) → label_length w k ≤ room
  unfolding listed
  labels_narrow k h =
      let there : count k ls ≡ min 1 (count k (used w steps)) = count_halves (λ j. eqb (kind w j) 0) k (firsts (used w steps)) ∙ count_firsts k (used w steps) in
      nltb→le room (label_length w k) (T_of (ap not (none_of (λ j. ltb room (label_length w j)) ls k narrow (omega arith))))
