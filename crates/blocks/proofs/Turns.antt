-- Filling a block line after line ends, and how many turns `fill_within` allows makes no difference where they suffice.
-- A line that takes nothing is followed by an empty one, on which something fits (law `turn_suffices`).
use mathlib.Core.Path.{◌≡◌, refl, sym, ap, ◌∙◌}
use mathlib.Core.Bool.{Bool, not}
use mathlib.Core.List.{List, [], ◌∷◌}
use Prim.Native.Nat.{ℕ, zero, suc, ◌+◌, ◌-◌, ◌*◌, ◌≤◌, ◌<◌}
use native.Mathlib.Omega.{arith}
use lib.ListN.{length, get_or}
use lib.Dec.{eqb}
use Rattle.laws.specs.Tools.{member, count}
use Rattle.laws.specs.Lists.{boole, All, all_at}
use Rattle.laws.specs.Sums.{bit, count_all}
use Rattle.laws.specs.Counting.{count_keep}
use Rattle.defs.specs.Order.{Filling, chosen, emit, fill_within}
use Rattle.defs.proofs.LabelLaws.{Fit, turn_suffices}
use Rattle.blocks.specs.Line.{others}
use Rattle.blocks.specs.State.{State, state, price, line_filled}

-- how many turns suffice
abbrev pub turns_left : ℕ → ℕ → ℕ
turns_left position count = 2 * count - bit (eqb position 0)

bit_small : (b : Bool) → bit b ≤ 1
bit_small b = boole b (λ h. rw h (omega arith)) (λ h. rw h (omega arith))

module _ (cost : ℕ → ℕ) (W : ℕ) where
  -- the members that stay fit
  fit_others : (block choice : List ℕ) → Fit cost W block → Fit cost W (others block choice)
  fit_others block choice fits j h =
      fits j (boole (not (member j choice))
      (λ e. omega (arith, rw e at (count_keep (λ k. not (member k choice)) j block)))
      (λ e. omega (arith, rw e at (count_keep (λ k. not (member k choice)) j block))))

  pub turn_less : (block : List ℕ) (s : Filling) → Fit cost W block → 0 < length block
      → turns_left (emit cost W (chosen cost W block s.position) s).position (length (others block (chosen cost W block s.position))) < turns_left s.position (length block)
  turn_less [] s fits h = absurd (omega arith)
  turn_less (y ∷ ys) s fits h =
      let b = bit_small (eqb s.position 0) in
      omega (arith, b, turn_suffices cost W (2 * length (y ∷ ys) - bit (eqb s.position 0) - 1) y ys s fits (omega arith))

  -- any two numbers of turns that suffice
  enough : (t u : ℕ) (block : List ℕ) (s : Filling) → Fit cost W block → 2 * length block ≤ t + bit (eqb s.position 0) → 2 * length block ≤ u + bit (eqb s.position 0)
      → fill_within cost W t block s ≡ fill_within cost W u block s
  unfolding fill_within
  enough zero zero block s fits h k = refl
  enough zero (suc u) [] s fits h k = refl
  enough zero (suc u) (y ∷ ys) s fits h k = absurd (omega (arith, bit_small (eqb s.position 0)))
  enough (suc t) zero [] s fits h k = refl
  enough (suc t) zero (y ∷ ys) s fits h k = absurd (omega (arith, bit_small (eqb s.position 0)))
  enough (suc t) (suc u) [] s fits h k = refl
  enough (suc t) (suc u) (y ∷ ys) s fits h k =
      let choice = chosen cost W (y ∷ ys) s.position in
      enough t u (others (y ∷ ys) choice) (emit cost W choice s) (fit_others (y ∷ ys) choice fits) (turn_suffices cost W t y ys s fits h) (turn_suffices cost W u y ys s fits k)

  line_more : (block : List ℕ) (s : Filling) → Fit cost W block → 0 < length block
      → fill_within cost W (2 * length (others block (chosen cost W block s.position))) (others block (chosen cost W block s.position)) (emit cost W (chosen cost W block s.position) s)
      ≡ fill_within cost W (2 * length block) block s
  unfolding fill_within
  line_more [] s fits h = absurd (omega arith)
  line_more (y ∷ ys) s fits h =
      let choice = chosen cost W (y ∷ ys) s.position in
      let t : ℕ = 2 * length ys + 1 in
      let e : 2 * length (y ∷ ys) ≡ suc t = omega arith in
      enough (2 * length (others (y ∷ ys) choice)) t (others (y ∷ ys) choice) (emit cost W choice s) (fit_others (y ∷ ys) choice fits) (omega arith)
      (turn_suffices cost W t y ys s fits (omega arith))
      ∙ (let same : fill_within cost W (suc t) (y ∷ ys) s ≡ fill_within cost W (2 * length (y ∷ ys)) (y ∷ ys) s = ap (λ (k : ℕ). fill_within cost W k (y ∷ ys) s) (sym e) in same)

-- the block filled whole, from here on
unfoldable pub finished : ℕ → State → State
finished W s = record { costs = s.costs; line = fill_within (price s) W (2 * length s.block) s.block s.line; block = [] }

pub finished_more : (W : ℕ) (s : State) → Fit (price s) W s.block → 0 < length s.block → finished W (line_filled W s) ≡ finished W s
unfolding finished line_filled
finished_more W s fits h = ap (λ (f : Filling). record { costs = s.costs; line = f; block = [] }) (line_more (price s) W s.block s.line fits h)

pub finished_none : (W n start : ℕ) (w : List ℕ) (position at : ℕ) → finished W (state n start w position at 0) ≡ state n start w position at 0
unfolding finished fill_within
finished_none W n start w position at = refl

-- each cost is at least 1 and fits on a line of its own
pub fit_priced : (n W : ℕ) (costs block : List ℕ) → length costs ≡ n → All (λ c. (1 ≤ c) × (c ≤ W)) costs → All (λ j. j < n) block → Fit (λ i. get_or costs i 0) W block
fit_priced n W costs block long priced small j h =
    all_at (λ c. (1 ≤ c) × (c ≤ W)) costs 0 priced j (omega (arith, long, count_all (λ k. k < n) block small j h))
