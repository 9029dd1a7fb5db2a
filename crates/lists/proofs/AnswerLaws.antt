-- The answer of a step list at each return: the first test that refuses gives the number, and the number says what the slices then hold.
-- Assumes nothing.
use mathlib.Core.Path.{◌≡◌, refl, sym, ◌∙◌}
use mathlib.Core.Logic.{◌≢◌}
use mathlib.Core.Bool.{Bool, true, false, not, ◌&&◌}
use mathlib.Core.List.{List, [], ◌∷◌}
use Prim.Native.Nat.{ℕ, ◌≤◌, ◌<◌}
use native.Mathlib.Omega.{arith}
use lib.ListN.{length}
use borrow.Author.Tests.{lt-ltb, le-ltb}
use Rattle.laws.specs.Tools.{over, zeroed}
use Rattle.defs.specs.Check.{first_of, table_refusal}
use Rattle.defs.specs.Refusals.{need32, bad13}
use Rattle.defs.specs.Outcome.{answer_one, is_early, step_list_words, step_list_number, step_list_outcome}
use Rattle.defs.specs.OutcomeLaws.{table_refusal_most, else_refused, else_good, refused_early, one_early, one_late, one_done}

-- the fields of an answer one by one
answer_by : (n n' l l' : ℕ) (out work work' : List ℕ) → n ≡ n' → l ≡ l' → work ≡ work' → answer_one n l (work ∷ []) out ≡ answer_one n' l' (work' ∷ []) out
answer_by n n' l l' out work work' a b c = rw (a, b, c)

module _ (w b : List ℕ) (packed explicit : Bool) (work out : List ℕ) where
  abbrev steps : List ℕ
  steps = step_list_words w packed explicit

  -- a table that is refused
  pub table_refused : (number len : ℕ) → number ≡ table_refusal w b → table_refusal w b ≢ 0 → len ≡ 0 → answer_one number len (work ∷ []) out ≡ step_list_outcome w b packed explicit work out
  unfolding step_list_outcome step_list_number
  table_refused number len is bad zero =
      answer_by _ _ _ _ out work work is zero refl
      ∙ sym (rw (else_refused (table_refusal w b) _ bad) (one_early (table_refusal w b) steps (work ∷ []) out bad (refused_early (table_refusal w b) bad (table_refusal_most w b))))

  module _ (ok : table_refusal w b ≡ 0) where
    -- the working slice is too short
    pub work_short : (number len : ℕ) → number ≡ 14 → len ≡ 0 → length work < need32 w → answer_one number len (work ∷ []) out ≡ step_list_outcome w b packed explicit work out
    unfolding step_list_outcome step_list_number first_of is_early
    work_short number len is zero short =
        answer_by _ _ _ _ out work work is zero refl
        ∙ sym (rw (else_good (table_refusal w b) _ ok, lt-ltb (length work) (need32 w) short) (one_early 14 steps (work ∷ []) out (λ e. omega arith) refl))

    module _ (enough : need32 w ≤ length work) where
      -- there are too many normal steps
      pub too_many : (number len : ℕ) (end : List ℕ) → number ≡ 13 → len ≡ 0 → end ≡ zeroed work → (not packed && bad13 w) ≡ true → answer_one number len (end ∷ []) out ≡ step_list_outcome w b packed explicit work out
      unfolding step_list_outcome step_list_number first_of is_early
      too_many number len end is zero wiped many =
          answer_by _ _ _ _ out _ _ is zero wiped
          ∙ sym (rw (else_good (table_refusal w b) _ ok, le-ltb (length work) (need32 w) enough, many) (one_late 13 steps (work ∷ []) out (λ e. omega arith) refl))

      module _ (few : (not packed && bad13 w) ≡ false) where
        -- the output does not fit
        pub no_room : (number len : ℕ) (end : List ℕ) → number ≡ 15 → len ≡ 0 → end ≡ zeroed work → length out < length steps → answer_one number len (end ∷ []) out ≡ step_list_outcome w b packed explicit work out
        unfolding step_list_outcome step_list_number first_of is_early
        no_room number len end is zero wiped short =
            answer_by _ _ _ _ out _ _ is zero wiped
            ∙ sym (rw (else_good (table_refusal w b) _ ok, le-ltb (length work) (need32 w) enough, few, lt-ltb (length out) (length steps) short) (one_late 15 steps (work ∷ []) out (λ e. omega arith) refl))

        -- the list stands at the front of the output
        pub done : (number len : ℕ) (end out' : List ℕ) → number ≡ 0 → len ≡ length steps → end ≡ zeroed work → out' ≡ over steps out → length steps ≤ length out → answer_one number len (end ∷ []) out' ≡ step_list_outcome w b packed explicit work out
        unfolding step_list_outcome step_list_number first_of
        done number len end out' is long wiped front fits =
            rw (is, long, wiped, front)
            (sym (rw (else_good (table_refusal w b) _ ok, le-ltb (length work) (need32 w) enough, few, le-ltb (length out) (length steps) fits) (one_done 0 steps (work ∷ []) out refl)))
