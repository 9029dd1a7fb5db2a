-- Tests 10 to 12 by what the code asks: of the theorem's list, and of the listed statements.
-- 11 is a test of the listed statements since those are the reachable ones that are not in the theorem's list.
use mathlib.Core.Path.{◌≡◌, refl, ◌∙◌}
use mathlib.Core.Bool.{Bool, true, false}
use mathlib.Core.List.{List, [], ◌∷◌}
use Prim.Native.Nat.{ℕ, ◌-◌, ◌+◌, ◌*◌, ◌≤◌}
use native.Mathlib.Nat.{le_trans, mul-le-mul_left, mul-le-mul_right}
use native.Mathlib.Omega.{arith}
use lib.Dec.{eqb, ltb}
use Rattle.laws.specs.Tools.{any}
use Rattle.defs.specs.Table.{max_statements, statement_words, kind_in, label_length_in}
use Rattle.defs.specs.Check.{◌when◌, first_of, table_refusal}
use Rattle.defs.specs.Layout.{Layout, line_room, max_width, bad8}
use Rattle.defs.specs.Text.{packed_of}
use Rattle.defs.specs.Order.{listed}
use Rattle.defs.specs.Refusals.{bad10, bad12}
use Rattle.defs.specs.Outcome.{compressed_tests}
use Rattle.lengths.specs.Reached.{stray_listed}
use Rattle.layout.proofs.Within.{bounds}

-- the first of two tests that refuses
pub first_test : (k m : ℕ) (p q : Bool) → p ≡ true → k ≡ first_of (k when p ∷ m when q ∷ [])
unfolding first_of
first_test k m p q h = rw h

pub second_test : (k m : ℕ) (p q : Bool) → p ≡ false → q ≡ true → m ≡ first_of (k when p ∷ m when q ∷ [])
unfolding first_of
second_test k m p q h g = rw (h, g)

pub no_test : (k m : ℕ) (p q : Bool) → p ≡ false → q ≡ false → 0 ≡ first_of (k when p ∷ m when q ∷ [])
unfolding first_of
no_test k m p q h g = rw (h, g)

-- W is more than 1 and no more than the widest line
pub line_room_least : (l : Layout) → bad8 l ≡ false → 3 ≤ line_room l
unfolding line_room
line_room_least l ok = omega (arith, (bounds l ok).narrow)

pub line_room_most : (l : Layout) → bad8 l ≡ false → line_room l ≤ max_width
unfolding line_room
line_room_most l ok = omega (arith, (bounds l ok).wide, (bounds l ok).some)

module _ (w b : List ℕ) (l : Layout) (ok : table_refusal w b ≡ 0) where
  -- refused 10
  pub mixed_first : bad10 w ≡ true → 10 ≡ first_of (compressed_tests w l)
  unfolding compressed_tests first_of
  mixed_first h = rw h

  -- else by what is listed
  module _ (W : ℕ) (ss list : List ℕ) (ss_is : ss ≡ statement_words w) (is : W ≡ line_room l) (list_is : list ≡ listed w (packed_of w false)) where
    pub by_listed : (r : ℕ) → bad10 w ≡ false → r ≡ first_of (11 when any (λ k. eqb (kind_in ss k) 2) list ∷ 12 when any (λ k. ltb (W - 1) (label_length_in ss k)) list ∷ [])
        → r ≡ first_of (compressed_tests w l)
    unfolding compressed_tests first_of line_room bad12
    by_listed r h e =
        let most : W - 1 ≡ l.width - l.indent = omega arith in
        e ∙ rw (ss_is, h, stray_listed w b ok, list_is, most)

    -- and where none refuses, no label is too long
    pub none_long : 0 ≡ first_of (11 when any (λ k. eqb (kind_in ss k) 2) list ∷ 12 when any (λ k. ltb (W - 1) (label_length_in ss k)) list ∷ [])
        → any (λ k. ltb (W - 1) (label_length_in (statement_words w) k)) (listed w (packed_of w false)) ≡ false
    unfolding first_of
    none_long e = rw (← ss_is, ← list_is) (zero_second (any (λ k. eqb (kind_in ss k) 2) list) (any (λ k. ltb (W - 1) (label_length_in ss k)) list) e)
      where
        zero_second : (p q : Bool) → 0 ≡ first_of (11 when p ∷ 12 when q ∷ []) → q ≡ false
        zero_second true q h = absurd (omega arith)
        zero_second false true h = absurd (omega arith)
        zero_second false false h = refl

-- the cells for the choice are few
pub cells_most : (s t : ℕ) → t ≡ s → s ≤ max_statements → (W : ℕ) (l : Layout) → W ≡ line_room l → bad8 l ≡ false → (t + 1) * (W + 1) ≤ (max_statements + 1) * (max_width + 1)
cells_most s t e few W l is ok =
    let a : t + 1 ≤ max_statements + 1 = omega arith in
    let c : W + 1 ≤ max_width + 1 = omega (arith, line_room_most l ok) in
    le_trans (mul-le-mul_right (W + 1) a) (mul-le-mul_left (max_statements + 1) c)
