-- The step that an entry puts down itself, case by case: with or without a mark, its own or a back reference.
-- Assumes nothing.
use mathlib.Core.Path.{◌≡◌}
use mathlib.Core.Bool.{Bool, true, false}
use Prim.Native.Nat.{ℕ, ◌+◌, ◌-◌}
use lib.Dec.{eqb}
use lib.ListN.{set}
use Rattle.laws.specs.Tools.{pick}
use Rattle.defs.specs.Table.{word}
use Rattle.defs.specs.Steps.{step_size}
use Rattle.walk.specs.Marks.{marked}
use Rattle.walk.specs.Steps.{step, with_step}
use Rattle.walk.specs.Packed.{Held, held, entry_at, single, finishes}

-- ---- the own step of an entry

module _ (gets : Bool) (e statement parent index : ℕ) (h : Held) where
  pub finishes_plain : gets ≡ false → finishes gets e statement parent index h ≡ held (with_step h.words h.end (step 0 0 statement parent index)) (h.end + step_size)
  unfolding finishes
  finishes_plain z = rw z

  pub finishes_marked : gets ≡ true → let next : ℕ = word h.words 0 + 1 in finishes gets e statement parent index h
      ≡ held (with_step (set (set h.words 0 next) (entry_at e) (marked + next)) h.end (step 0 next statement parent index)) (h.end + step_size)
  unfolding finishes
  finishes_marked z = rw z

-- ---- the one step of an entry that lists no children first

pub one_step_lem : (e statement parent index mark own : ℕ) (h : Held) → mark ≡ word h.words (entry_at e) - marked → own ≡ pick (eqb mark 0) statement 0
    → held (with_step h.words h.end (step mark 0 own parent index)) (h.end + step_size) ≡ single e statement parent index h
unfolding single
one_step_lem e statement parent index mark own h is own_is = rw (own_is, is)
