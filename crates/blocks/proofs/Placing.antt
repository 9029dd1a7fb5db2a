-- A word put into a slice letter by letter: the start, a turn, a read past its end.
-- Each loop that emits has `Placed` up to its counter as its invariant.
use mathlib.Core.Path.{◌≡◌, sym, ap, ◌∙◌}
use mathlib.Core.List.{List, [], ◌∷◌, ◌++◌, append_assoc, append-nil}
use Prim.Native.Nat.{ℕ, suc, ◌+◌, ◌-◌, ◌≤◌, ◌<◌}
use native.Mathlib.Numerals.{add-one}
use native.Mathlib.Omega.{arith}
use lib.ListN.{length, get_or, set, take, drop, length-append, take-append-drop}
use lib.Seq.{length-take-le, take-suc, drop-cons, set_at, get_or-drop, take_at, drop_at}
use Rattle.laws.specs.Lists.{map_snoc}
use Rattle.laws.specs.Puts.{Placed}
use Rattle.blocks.specs.Line.{members_at}

pub placed_none : (before : List ℕ) (at : ℕ) → Placed [] at at before before
placed_none before at = record { ends = omega arith; holds = sym (rw (append-nil (take at before)) (take-append-drop at before)) }

-- how long the slice is up to the end of the word
front_long : (word before : List ℕ) (at end : ℕ) → end ≡ at + length word → at ≤ length before → length (take at before ++ word) ≡ end
front_long word before at end e h = length-append (take at before) word ∙ omega (arith, length-take-le at before h)

-- a letter more
pub placed_more : (word before after : List ℕ) (at end x : ℕ) → end < length before → Placed word at end before after
    → Placed (word ++ (x ∷ [])) at (end + 1) before (set after end x)
placed_more word before after at end x h b =
    let front : List ℕ = take at before ++ word in
    let long : length front ≡ end = front_long word before at end b.ends (omega (arith, b.ends)) in
    let split : after ≡ front ++ (get_or before end 0 ∷ drop (suc end) before) = b.holds ∙ rw (drop-cons before end 0 h) in
    record {
      ends = omega (arith, b.ends, length-append word (x ∷ []));
      holds =
          ap (λ (l : List ℕ). set l end x) split
          ∙ set_at front (get_or before end 0) (drop (suc end) before) x end long
          ∙ rw (add-one end) (simp append_assoc);
    }

module _ (word before after : List ℕ) (at end : ℕ) (h : end ≤ length before) (b : Placed word at end before after) where
  -- up to the word's end, and past it
  pub placed_front : take end after ≡ take at before ++ word
  placed_front =
      ap (λ (l : List ℕ). take end l) b.holds
      ∙ take_at (take at before ++ word) (drop end before) end (front_long word before at end b.ends (omega (arith, b.ends)))

  pub placed_rest : drop end after ≡ drop end before
  placed_rest =
      ap (λ (l : List ℕ). drop end l) b.holds
      ∙ drop_at (take at before ++ word) (drop end before) end (front_long word before at end b.ends (omega (arith, b.ends)))

  pub placed_past : (j : ℕ) → end ≤ j → get_or after j 0 ≡ get_or before j 0
  placed_past j l =
      let e : end + (j - end) ≡ j = omega arith in
      let p : get_or after (end + (j - end)) 0 ≡ get_or before (end + (j - end)) 0 =
      sym (get_or-drop end after (j - end) 0) ∙ ap (λ (l : List ℕ). get_or l (j - end) 0) placed_rest ∙ get_or-drop end before (j - end) 0 in
      rw e at p

-- ---- members of a block, place by place

pub members_more : (block places : List ℕ) (c : ℕ) → c < length places → members_at block (take (c + 1) places) ≡ members_at block (take c places) ++ (get_or block (get_or places c 0) 0 ∷ [])
members_more block places c l =
    ap (members_at block) ((let z : take (c + 1) places ≡ take c places ++ (get_or places c 0 ∷ []) = rw (add-one c) (take-suc places c 0 l) in z))
    ∙ map_snoc (λ p. get_or block p 0) (take c places) (get_or places c 0)
