-- Going from the highest item down: what is still to be chosen of the items below, before the places that stand, is the choice.
-- A turn compares the totals with and without its item, as `choose` does.
use mathlib.Core.Path.{◌≡◌, sym, ap, ◌∙◌}
use mathlib.Core.Logic.{◌≢◌}
use mathlib.Core.List.{List, [], ◌∷◌, ◌++◌, map, append_assoc}
use Prim.Native.Nat.{ℕ, suc, ◌+◌, ◌-◌, ◌*◌, ◌≤◌, ◌<◌}
use native.Mathlib.Nat.{suc-mul, mul-le-mul_right}
use native.Mathlib.Decide.{dec_lt}
use native.Mathlib.Omega.{arith}
use lib.ListN.{length, get_or, set, drop, length-set}
use lib.Seq.{drop-cons, get_or-set_same, get_or-set_other, drop-set-lt}
use Rattle.laws.specs.Tools.{total}
use Rattle.laws.specs.Lists.{eqb_yes, eqb_no, leb_no}
use Rattle.defs.specs.Order.{best, rest_reaches, choose}
use Rattle.defs.proofs.ChoiceLaws.{choose_reaches}
use Rattle.choice.specs.Rows.{cost_at, Totals}
use Rattle.choice.specs.Choice.{Chosen}

-- the items from the i-th on are decided, of n; `left` is the room left; places stand from `start` on
pub record Walked (cost : ℕ → ℕ) (n room i left start : ℕ) (sums : List ℕ) : Type 0 where
  pub fits : left ≤ room
  pub below : i * (room + 1) + (room + 1) ≤ start
  pub inside : start ≤ length sums
  pub totals : Totals cost i (room + 1) sums
  pub chosen : choose cost i left ++ drop start sums ≡ choose cost n room

module _ (cost : ℕ → ℕ) (n room k i left start : ℕ) (sums : List ℕ) (e : k ≡ suc i) (w : Walked cost n room k left start sums) where
  -- the cells that a turn compares
  pub turn_below : i * (room + 1) + left + (room + 1) < start
  turn_below = omega (arith, suc-mul i (room + 1), w.below, w.fits, ap (λ (j : ℕ). j * (room + 1)) e)

  with_it : get_or sums (i * (room + 1) + left + (room + 1)) 0 ≡ best cost (suc i) left
  unfolding Totals
  with_it =
      let z : i * (room + 1) + left + (room + 1) ≡ suc i * (room + 1) + left = omega (arith, suc-mul i (room + 1)) in
      rw z (w.totals (suc i) left (omega arith) (omega (arith, w.fits)))

  without : get_or sums (i * (room + 1) + left) 0 ≡ best cost i left
  unfolding Totals
  without = w.totals i left (omega arith) (omega (arith, w.fits))

  -- the rest still reaches the greatest total: the item is left out
  pub leave : get_or sums (i * (room + 1) + left + (room + 1)) 0 ≡ get_or sums (i * (room + 1) + left) 0 → Walked cost n room i left start sums
  unfolding Totals choose rest_reaches
  leave same =
      let t : best cost (suc i) left ≡ best cost i left = sym with_it ∙ same ∙ without in
      let c : choose cost k left ≡ choose cost i left = rw (e, eqb_yes _ _ t) in
      record {
        fits = w.fits;
        below = omega (arith, turn_below);
        inside = w.inside;
        totals = λ j r l m. w.totals j r (omega arith) m;
        chosen = rw c at w.chosen;
      }

  module _ (differ : get_or sums (i * (room + 1) + left + (room + 1)) 0 ≢ get_or sums (i * (room + 1) + left) 0) where
    falls_short : best cost (suc i) left ≢ best cost i left
    falls_short t = differ (with_it ∙ t ∙ sym without)

    -- an item that is taken fits
    pub item_fits : cost i ≤ left
    unfolding best
    item_fits =
        elim (dec_lt left (cost i)) [
          | yes l ↦ absurd (falls_short (rw (leb_no (cost i) left l)))
          | no l ↦ omega arith
        ]

    -- it is taken, and its place put in front of the others
    pub put : Walked cost n room i (left - cost i) (start - 1) (set sums (start - 1) i)
    unfolding Totals choose rest_reaches
    put =
        let b = turn_below in
        let h = w.inside in
        let s : ℕ = start - 1 in
        let c : choose cost k left ≡ choose cost i (left - cost i) ++ (i ∷ []) = rw (e, eqb_no _ _ falls_short) in
        let z : suc s ≡ start = omega arith in
        let d : drop s (set sums s i) ≡ i ∷ drop start sums =
        drop-cons (set sums s i) s 0 (rw length-set (omega arith)) ∙ rw (get_or-set_same sums s i 0 (omega arith), drop-set-lt (suc s) sums s i (omega arith), z) in
        record {
          fits = omega (arith, w.fits);
          below = omega arith;
          inside = rw length-set (omega arith);
          totals = λ j r l m.
              (let a : j * (room + 1) ≤ i * (room + 1) = mul-le-mul_right (room + 1) l in
              get_or-set_other sums s (j * (room + 1) + r) i 0 (λ q. let p : j * (room + 1) + r ≡ s = q in omega arith) ∙ w.totals j r (omega arith) m);
          chosen = rw d (sym (append_assoc (choose cost i (left - cost i)) (i ∷ []) (drop start sums)) ∙ (rw c at w.chosen));
        }

-- no item is left to decide
pub walked_all : {cost : ℕ → ℕ} {n room left start : ℕ} {sums : List ℕ} → Walked cost n room 0 left start sums
    → (start ≤ length sums) × (drop start sums ≡ choose cost n room)
unfolding choose
walked_all w = (w.inside, w.chosen)

-- the places and the last total are the answer
pub is_chosen : (costs block : List ℕ) (room start : ℕ) (filled cells : List ℕ) → Totals (cost_at costs block) (length block) (room + 1) filled
    → start ≤ length cells → drop start cells ≡ choose (cost_at costs block) (length block) room
    → Chosen costs block room start (get_or filled (length block * (room + 1) + room) 0) cells
unfolding Totals
is_chosen costs block room start filled cells t h e =
    let cost : ℕ → ℕ = cost_at costs block in
    record {
      inside = h;
      places = e;
      cost =
          t (length block) room (omega arith) (omega arith)
          ∙ sym (choose_reaches cost (length block) room)
          ∙ ap (λ (ps : List ℕ). total (map cost ps)) (sym e);
    }
