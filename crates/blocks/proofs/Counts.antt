-- The table of cutoffs: its end is never passed, since floating count and labels together are at most as many as statements.
-- The count and the cutoffs passed make up the floating count and the labels seen.
use mathlib.Core.Path.{◌≡◌, refl, ◌∙◌}
use mathlib.Core.List.{◌∷◌}
use Prim.Native.Nat.{ℕ, zero, suc, ◌+◌, ◌-◌, ◌≤◌, ◌<◌}
use native.Mathlib.Numerals.{add-one}
use native.Mathlib.Omega.{arith}
use borrow.Author.Tests.{le-leb, lt-leb}
use lib.ListN.{length, get_or, take, drop}
use lib.Seq.{drop-cons}
use Rattle.laws.specs.Tools.{total}
use Rattle.defs.specs.Table.{max_word, max_statements}
use Rattle.defs.specs.Order.{cutoffs, start_at}
use Rattle.blocks.specs.Counted.{Counted}

pub five : length cutoffs ≡ 5
unfolding cutoffs
five = refl

-- a word holds every cutoff, and with the cutoffs before it the last one is more than there can be statements
pub record Cutoff (level : ℕ) : Type 0 where
  pub small : get_or cutoffs level 0 ≤ max_word
  pub some : 0 < get_or cutoffs level 0
  pub passed : total (take (level + 1) cutoffs) ≡ total (take level cutoffs) + get_or cutoffs level 0
  pub last : total (take level cutoffs) + get_or cutoffs level 0 ≤ max_statements → level + 1 < length cutoffs

pub cutoff_is : (level : ℕ) → level < length cutoffs → Cutoff level
unfolding cutoffs
cutoff_is zero l = record { small = omega arith; some = omega arith; passed = refl; last = λ h. omega arith }
cutoff_is (suc zero) l = record { small = omega arith; some = omega arith; passed = refl; last = λ h. omega arith }
cutoff_is (suc (suc zero)) l = record { small = omega arith; some = omega arith; passed = refl; last = λ h. omega arith }
cutoff_is (suc (suc (suc zero))) l = record { small = omega arith; some = omega arith; passed = refl; last = λ h. omega arith }
cutoff_is (suc (suc (suc (suc zero)))) l = record { small = omega arith; some = omega arith; passed = refl; last = λ h. absurd (omega arith) }
cutoff_is (suc (suc (suc (suc (suc level))))) l = absurd (omega arith)

-- the cutoffs from one on
pub ahead_is : (level : ℕ) → level < length cutoffs → drop level cutoffs ≡ get_or cutoffs level 0 ∷ drop (level + 1) cutoffs
ahead_is level l = drop-cons cutoffs level 0 l ∙ rw (add-one level)

-- while cutoff ≤ i
pub start_more : (level i : ℕ) → level < length cutoffs → get_or cutoffs level 0 ≤ i → start_at (drop level cutoffs) i ≡ start_at (drop (level + 1) cutoffs) (i - get_or cutoffs level 0)
unfolding start_at
start_more level i l h = rw (ahead_is level l, le-leb (get_or cutoffs level 0) i h)

pub start_end : (level i : ℕ) → level < length cutoffs → i < get_or cutoffs level 0 → start_at (drop level cutoffs) i ≡ record { at = i; ahead = drop level cutoffs }
unfolding start_at
start_end level i l h = rw (ahead_is level l, lt-leb (get_or cutoffs level 0) i h)

-- the loop's invariant
pub record Counting (floatings i level : ℕ) : Type 0 where
  pub starts : start_at cutoffs floatings ≡ start_at (drop level cutoffs) i
  pub in_table : level < length cutoffs
  pub counts : total (take level cutoffs) + i ≡ floatings

pub count_start : (floatings : ℕ) → Counting floatings floatings 0
count_start floatings = record { starts = refl; in_table = rw five (omega arith); counts = omega arith }

module _ (floatings i level : ℕ) (few : floatings ≤ max_statements) (c : Counting floatings i level) (h : get_or cutoffs level 0 ≤ i) where
  pub level_more : level + 1 < length cutoffs
  level_more = (cutoff_is level c.in_table).last (omega (arith, c.counts))

  pub count_more : Counting floatings (i - get_or cutoffs level 0) (level + 1)
  count_more =
      record {
        starts = c.starts ∙ start_more level i c.in_table h;
        in_table = level_more;
        counts = omega (arith, c.counts, (cutoff_is level c.in_table).passed);
      }

pub counted : (floatings i level : ℕ) → Counting floatings i level → i < get_or cutoffs level 0 → Counted floatings i level
counted floatings i level c h = record { starts = c.starts ∙ start_end level i c.in_table h; in_table = c.in_table; counts = c.counts }
