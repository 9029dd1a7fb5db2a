-- One line: what the choice, its emission and its removal make of the working slice.
-- The indices emitted stand before the block, so emission leaves the block as it was, and removal leaves them as they were.
use mathlib.Core.Path.{◌≡◌, refl, sym, ap, ap₂, ◌∙◌}
use mathlib.Core.List.{List, [], ◌∷◌, ◌++◌, map}
use Prim.Native.Nat.{ℕ, zero, suc, ◌+◌, ◌-◌, ◌≤◌, ◌<◌}
use native.Mathlib.Nat.{le_refl}
use native.Mathlib.Omega.{arith}
use borrow.Rule.Slice.PartMut.{put_mid, take_put, drop_put}
use lib.ListN.{length, get_or, take, drop, length-append, length-drop, length-map}
use lib.Seq.{take_all, take-take, drop_at, length-take-le, drop-drop, drop-append-le, take-append-le, get_or-take}
use Rattle.laws.specs.Tools.{part, total}
use Rattle.laws.specs.Lists.{boole, All, all_map, part_length, map_all}
use Rattle.laws.specs.Puts.{Placed}
use Rattle.defs.specs.Order.{rest_reaches, choose, chosen, emit}
use Rattle.defs.specs.ChoiceLaws.{Ascending}
use Rattle.defs.proofs.ChoiceLaws.{choose_ascending, choose_fits}
use Rattle.choice.specs.Rows.{cost_at}
use Rattle.choice.specs.Choice.{Chosen}
use Rattle.blocks.specs.Line.{members_at, others, Once, position_after}
use Rattle.blocks.specs.State.{State, state, price, choice_of, line_filled, Ready, LineDone}
use Rattle.blocks.proofs.Placing.{placed_front, placed_rest}

-- ---- parts of a slice, as a function is lent them

pub tail_is : (a : ℕ) (xs : List ℕ) → take (length xs - a) (drop a xs) ≡ drop a xs
tail_is a xs = take_all (length xs - a) (drop a xs) (rw length-drop (le_refl _))

pub lent_is : (a k : ℕ) (xs : List ℕ) → take (a + k - a) (drop a xs) ≡ part a k xs
lent_is a k xs = let e : a + k - a ≡ k = omega arith in rw e

-- ---- the choice

choose_few : (cost : ℕ → ℕ) (i room : ℕ) → length (choose cost i room) ≤ i
unfolding choose
choose_few cost zero room = omega arith
choose_few cost (suc i) room =
    boole (rest_reaches cost i room)
    (λ e. rw e (omega (arith, choose_few cost i room)))
    (λ e. rw (e, length-append (choose cost i (room - cost i)) (i ∷ [])) (omega (arith, choose_few cost i (room - cost i))))

total_map : (f g : ℕ → ℕ) (xs : List ℕ) → total (map f (map g xs)) ≡ total (map (λ x. f (g x)) xs)
total_map f g [] = refl
total_map f g (x ∷ xs) = ap (λ (n : ℕ). f (g x) + n) (total_map f g xs)

module _ (n W start position at count room-cells : ℕ) (w cells : List ℕ) (ready : Ready n W start position at count w room-cells)
    (first sum : ℕ) (ch : Chosen (take n w) (part start count w) (W - position) first sum cells) where
  abbrev block : List ℕ
  block = part start count w

  -- the places, as they are lent
  abbrev places : List ℕ
  places = take (length cells - first) (drop first cells)

  long_block : length block ≡ count
  long_block = part_length start count w ready.inside

  places_are : places ≡ choose (cost_at (take n w) block) (length block) (W - position)
  places_are = tail_is first cells ∙ ch.places

  pub in_block : All (λ p. p < count) places
  in_block =
      rw places_are
      (all_map (λ p. p < length block) _ (λ p l. omega (arith, long_block)) (choose (cost_at (take n w) block) (length block) (W - position))
      (choose_ascending (cost_at (take n w) block) (length block) (W - position)).0)

  pub upward : Ascending places
  upward = rw places_are (choose_ascending (cost_at (take n w) block) (length block) (W - position)).1

  pub few_places : length places ≤ count
  few_places = omega (arith, ap length places_are, choose_few (cost_at (take n w) block) (length block) (W - position), long_block)

  pub how_many : length places ≡ length cells - first
  how_many = ap length (tail_is first cells) ∙ length-drop first cells

  pub in_slice : All (λ p. start + p < length w) places
  in_slice = all_map (λ p. p < count) _ (λ p l. omega (arith, ready.inside)) places in_block

  abbrev now : State
  now = state n start w position at count

  choice_is : members_at block places ≡ choice_of W now
  unfolding chosen
  choice_is = ap (members_at block) places_are

  -- what the choice costs
  sum_is : sum ≡ total (map (price now) (choice_of W now))
  sum_is =
      ch.cost
      ∙ ap (λ (ps : List ℕ). total (map (cost_at (take n w) block) ps)) (sym (tail_is first cells))
      ∙ sym (total_map (price now) (λ p. get_or block p 0) places)
      ∙ ap (λ (l : List ℕ). total (map (price now) l)) choice_is

  pub fits_line : position + sum ≤ W
  fits_line =
      omega (
        arith,
        ch.cost,
        ap (λ (ps : List ℕ). total (map (cost_at (take n w) block) ps)) ch.places,
        choose_fits (cost_at (take n w) block) (length block) (W - position),
        ready.on_line,
      )

  -- after emission
  module _ (emitted : List ℕ) (placed : Placed (members_at (drop start w) places) at (at + length places) w emitted) where
    room_for_it : at + length places ≤ start
    room_for_it = omega (arith, few_places, ready.before)

    word_is : members_at (drop start w) places ≡ choice_of W now
    word_is = map_all _ _ (λ p. p < count) (λ p l. sym (get_or-take count (drop start w) p 0 l)) places in_block ∙ choice_is

    rest_is : (j : ℕ) → start ≤ j → drop j emitted ≡ drop j w
    rest_is j l =
        let e : at + length places + (j - (at + length places)) ≡ j = omega (arith, room_for_it) in
        let d : drop (at + length places + (j - (at + length places))) emitted ≡ drop (at + length places + (j - (at + length places))) w =
        sym (drop-drop (j - (at + length places)) (at + length places) emitted)
        ∙ ap (λ (l : List ℕ). drop (j - (at + length places)) l) (placed_rest _ w emitted at (at + length places) (omega (arith, room_for_it, ready.inside)) placed)
        ∙ drop-drop (j - (at + length places)) (at + length places) w in
        rw e at d

    -- the block, as it is lent
    pub block_is : take (start + count - start) (drop start emitted) ≡ block
    block_is = lent_is start count emitted ∙ ap (take count) (rest_is start (omega arith))

    pub in_lent : All (λ p. p < length (take (start + count - start) (drop start emitted))) places
    in_lent =
        all_map (λ p. p < count) (λ p. p < length (take (start + count - start) (drop start emitted))) (λ p l. omega (arith, ap length block_is, long_block)) places in_block

    pub lent_once : Once (take (start + count - start) (drop start emitted))
    lent_once x = rw block_is (ready.once x)

    -- after removal
    module _ (long : length emitted ≡ length w) (ys : List ℕ) (left : ℕ)
        (whole : left + length places ≡ length (take (start + count - start) (drop start emitted)))
        (kept : length ys ≡ length (take (start + count - start) (drop start emitted)))
        (stay : take left ys ≡ others (take (start + count - start) (drop start emitted)) (members_at (take (start + count - start) (drop start emitted)) places)) where
      abbrev after : List ℕ
      after = put_mid start (start + count - start) emitted ys

      many : length (take (start + count - start) (drop start emitted)) ≡ count
      many = ap length block_is ∙ long_block

      front : take (at + length places) after ≡ take at w ++ choice_of W now
      front =
          sym (take-take (at + length places) start after room_for_it)
          ∙ ap (take (at + length places)) (take_put start (start + count - start) emitted ys (omega (arith, ready.inside)))
          ∙ take-take (at + length places) start emitted room_for_it
          ∙ placed_front _ w emitted at (at + length places) (omega (arith, room_for_it, ready.inside)) placed
          ∙ ap (λ (l : List ℕ). take at w ++ l) word_is

      long_front : length (take at w) ≡ at
      long_front = length-take-le at w (omega (arith, ready.before, ready.inside))

      costs_same : take n after ≡ take n w
      costs_same =
          sym (take-take n (at + length places) after (omega (arith, ready.behind)))
          ∙ ap (take n) front
          ∙ take-append-le n (take at w) (choice_of W now) (omega (arith, ready.behind, long_front))
          ∙ take-take n at w ready.behind

      emitted_is : drop n (take (at + length places) after) ≡ drop n (take at w) ++ choice_of W now
      emitted_is = ap (drop n) front ∙ drop-append-le n (take at w) (choice_of W now) (omega (arith, ready.behind, long_front))

      block_left : part start left after ≡ others block (choice_of W now)
      block_left =
          ap (take left) (drop_at (take start emitted) (ys ++ drop (start + count - start) (drop start emitted)) start (length-take-le start emitted (omega (arith, ready.inside))))
          ∙ take-append-le left ys (drop (start + count - start) (drop start emitted)) (omega arith)
          ∙ stay
          ∙ ap (λ (l : List ℕ). others l (members_at l places)) block_is
          ∙ ap (others block) choice_is

      position_is : position_after W (length cells - first) (position + sum) ≡ (emit (price now) W (choice_of W now) now.line).position
      unfolding position_after emit
      position_is =
          ap₂ (position_after W)
          (sym how_many ∙ sym (length-map places (λ p. get_or block p 0)) ∙ ap length choice_is)
          (ap (λ (k : ℕ). position + k) sum_is)

      pub line_done : LineDone n W start position at count w (position_after W (length cells - first) (position + sum)) (at + (length cells - first)) left after
      unfolding line_filled emit
      line_done =
          record {
            filled = simp (← how_many, costs_same, emitted_is, block_left, position_is);
            later = drop_put start (start + count) emitted ys (omega arith) (omega (arith, ready.inside)) (kept ∙ many ∙ omega arith) ∙ rest_is (start + count) (omega arith);
            moved = omega (arith, how_many, many);
            onward = omega arith;
          }
