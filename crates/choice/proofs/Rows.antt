-- One row more of the table of greatest totals: copied below the item's cost, the greater of two totals from there on.
-- So the table of the first i items becomes that of the first i + 1.
use mathlib.Core.Path.{◌≡◌, ap₂, ◌∙◌}
use mathlib.Core.List.{List}
use Prim.Native.Nat.{ℕ, zero, suc, ◌+◌, ◌-◌, ◌*◌, ◌≤◌, ◌<◌, max, min}
use native.Mathlib.Nat.{suc-mul, mul-le-mul_right}
use native.Mathlib.Decide.{dec_lt}
use native.Mathlib.Numerals.{add-one}
use native.Mathlib.Omega.{arith}
use lib.ListN.{get_or}
use Rattle.laws.specs.Lists.{leb_yes, leb_no}
use Rattle.defs.specs.Layout.{max_width}
use Rattle.defs.specs.Order.{best}
use Rattle.defs.proofs.ChoiceLaws.{best_fits}
use Rattle.choice.specs.Rows.{Written, Low, none, above, greater, next_total, Totals}

-- ---- the two halves of a row

-- copied cells are as low as those above them
pub low_copied : (width row from : ℕ) (before after : List ℕ) → width ≤ row → from ≤ row + width
    → Written (above before width) row from before after → Low before (row - width) row → Low after (row - width) from
unfolding Low
low_copied width row from before after h k w low j l m =
    elim (dec_lt j row) [
      | yes b ↦ omega (arith, w.kept j b, low j l b)
      | no b ↦ omega (arith, w.holds j (omega arith) m, low (j - width) (omega arith) (omega arith))
    ]

module _ (width row cost : ℕ) (before mid after : List ℕ) (h : width ≤ row)
    (copied : Written (above before width) row (row + min cost width) before mid)
    (added : Written (greater mid width (min cost width)) (row + min cost width) (row + width) mid after) where
  from_cost : (j : ℕ) → row + min cost width ≤ j → j < row + width → get_or after j 0 ≡ greater before width cost j
  from_cost j l m =
      let c : min cost width ≡ cost = omega arith in
      added.holds j l m
      ∙ rw c (ap₂ (λ (a b : ℕ). max a (cost + b)) (copied.kept (j - width) (omega arith)) (copied.kept (j - (width + cost)) (omega arith)))

  pub row_written : Written (next_total before width row cost) row (row + width) before after
  unfolding next_total
  row_written =
      record {
        kept = λ j l. added.kept j (omega arith) ∙ copied.kept j l;
        holds = λ j l m.
            elim (dec_lt j (row + min cost width)) [
              | yes b ↦ added.kept j b ∙ copied.holds j l b ∙ rw (leb_no cost (j - row) (omega arith))
              | no b ↦ from_cost j (omega arith) m ∙ rw (leb_yes cost (j - row) (omega arith))
            ];
      }

-- ---- the table

-- no items
pub totals_none : (cost : ℕ → ℕ) (width : ℕ) (before after : List ℕ) → Written none 0 width before after → Totals cost 0 width after
unfolding Totals best
totals_none cost width before after w zero room l m =
    let e : 0 * width + room ≡ room = omega arith in
    rw e (w.holds room (omega arith) m)
totals_none cost width before after w (suc i) room l m = absurd (omega arith)

-- the row below that of the first i items is low
pub totals_low : (cost : ℕ → ℕ) (i width row : ℕ) (sums : List ℕ) → width ≤ max_width + 1 → row ≡ i * width + width → Totals cost i width sums → Low sums (row - width) row
unfolding Totals Low
totals_low cost i width row sums h e totals j l m =
    let k : ℕ = j - i * width in
    let z : i * width + k ≡ j = omega arith in
    let t : get_or sums j 0 ≡ best cost i k = rw z at (totals i k (omega arith) (omega arith)) in
    omega (arith, t, best_fits cost i k)

module _ (cost : ℕ → ℕ) (i width row : ℕ) (before after : List ℕ) (e : row ≡ i * width + width) (totals : Totals cost i width before)
    (w : Written (next_total before width row (cost i)) row (row + width) before after) where
  -- the new row
  next_total_lem : (room : ℕ) → room < width → get_or after (row + room) 0 ≡ best cost (suc i) room
  unfolding Totals next_total best
  next_total_lem room h =
      let without : above before width (row + room) ≡ best cost i room =
      (let z : row + room - width ≡ i * width + room = omega arith in rw z (totals i room (omega arith) h)) in
      let back : row + room - row ≡ room = omega arith in
      w.holds (row + room) (omega arith) (omega arith)
      ∙ rw (back, without)
      (elim (dec_lt room (cost i)) [
        | yes l ↦ rw (leb_no (cost i) room l)
        | no l ↦
            (let z : row + room - (width + cost i) ≡ i * width + (room - cost i) = omega arith in
            rw (leb_yes (cost i) room (omega arith), z, totals i (room - cost i) (omega arith) (omega arith)))
      ])

  pub totals_more : Totals cost (i + 1) width after
  unfolding Totals
  totals_more k room l m =
      elim (dec_lt i k) [
        | yes b ↦
            (let z : k ≡ suc i = omega arith in
            let s : suc i * width + room ≡ row + room = omega (arith, suc-mul i width) in
            rw (z, s) (next_total_lem room m))
        | no b ↦
            (let s : k * width ≤ i * width = mul-le-mul_right width (let c : k ≤ i = omega arith in c) in
            w.kept (k * width + room) (omega arith) ∙ totals k room (omega arith) m)
      ]

-- where the next row begins
pub row_more : (width i : ℕ) → (i + 1) * width ≡ i * width + width
row_more width i = rw (add-one i) (suc-mul i width)
