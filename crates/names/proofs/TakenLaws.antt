-- Laws of the numbers that are labels: none before the first label, and one label more at each turn.
-- A label can be the decimal of one number only, the one that it says.
use mathlib.Core.Path.{◌≡◌, refl, sym, ap, ◌∙◌}
use mathlib.Core.Bool.{Bool, true, false, ◌||◌}
use mathlib.Core.List.{List, map}
use Prim.Native.Nat.{ℕ, ◌+◌, ◌<◌, ◌≤◌}
use native.Mathlib.Decide.{ℕ_discrete}
use native.Mathlib.Omega.{arith}
use lib.ListN.{length, get_or, set, length-map, length-set, length-replicate, get_or-replicate}
use lib.Seq.{ext_get_or, get_or-set_same, get_or-set_other}
use Rattle.laws.specs.Tools.{pick, range, same, some_below, zeroed}
use Rattle.laws.specs.Lists.{boole, get_d_map, map_all, range_length, range_at}
use Rattle.laws.specs.Below.{some_below_next}
use Rattle.laws.specs.Counting.{range_below}
use Rattle.defs.specs.Table.{word, label_in}
use Rattle.defs.specs.Names.{digits, is_label_in}
use Rattle.defs.specs.NameLaws.{value}
use Rattle.names.specs.Decimals.{cap, capped}
use Rattle.names.specs.Taken.{with_label, taken_by}
use Rattle.names.proofs.Numbers.{decimal_says}

-- ---- the values of a function at the numbers below n

values_length : (f : ℕ → ℕ) (n : ℕ) → length (map f (range 0 n)) ≡ n
values_length f n = length-map (range 0 n) f ∙ range_length 0 n

values_at : (f : ℕ → ℕ) (n i : ℕ) → i < n → get_or (map f (range 0 n)) i 0 ≡ f i
values_at f n i h =
    let e : get_or (range 0 n) i 0 ≡ i = range_at 0 n i 0 h ∙ omega arith in
    get_d_map f (range 0 n) i (rw (range_length 0 n) h) ∙ ap f e

values_are : (f : ℕ → ℕ) (xs : List ℕ) → ((i : ℕ) → i < length xs → get_or xs i 0 ≡ f i) → xs ≡ map f (range 0 (length xs))
values_are f xs h =
    ext_get_or 0 xs (map f (range 0 (length xs))) (sym (values_length f (length xs))) (λ i l. h i l ∙ sym (values_at f (length xs) i l))

-- ---- the numbers that are labels

module _ (ss b : List ℕ) (s n : ℕ) where
  pub taken_length : length (taken_by ss b s n) ≡ n
  unfolding taken_by
  taken_length = values_length _ n

  pub taken_at : (v : ℕ) → v < n → word (taken_by ss b s n) v ≡ pick (is_label_in ss b s (digits v)) 1 0
  unfolding taken_by
  taken_at v h = values_at (λ v. pick (is_label_in ss b s (digits v)) 1 0) n v h

-- before the first label
pub taken_none : (ss b before after : List ℕ) → after ≡ zeroed before → after ≡ taken_by ss b 0 (length after)
unfolding taken_by is_label_in some_below
taken_none ss b before after e =
    let l : length after ≡ length before = ap length e ∙ length-replicate (length before) 0 in
    values_are (λ v. 0) after (λ i h. ap (λ (t : List ℕ). get_or t i 0) e ∙ get_or-replicate (length before) i 0 0 (omega arith))

-- and one label more
or_else : (x y : Bool) → pick {X = ℕ} y 1 (pick x 1 0) ≡ pick (x || y) 1 0
or_else true true = refl
or_else true false = refl
or_else false y = refl

taken_more : (ss b : List ℕ) (k n : ℕ) → with_label (label_in ss b k) (taken_by ss b k n) ≡ taken_by ss b (k + 1) n
unfolding with_label taken_by is_label_in
taken_more ss b k n =
    rw (taken_length ss b k n)
    (map_all _ _ (λ v. v < n)
    (λ v h. rw (taken_at ss b k n v h, some_below_next (λ j. same (label_in ss b j) (digits v)) k) (or_else (is_label_in ss b k (digits v)) (same (label_in ss b k) (digits v))))
    (range 0 n) (range_below n))

-- label k, put into numbers that say the labels before it
pub taken_turn : (ss b : List ℕ) (k n : ℕ) (label before after : List ℕ) → before ≡ taken_by ss b k n → label ≡ label_in ss b k
    → after ≡ with_label label before → after ≡ taken_by ss b (k + 1) n
taken_turn ss b k n label before after e is turn = rw (is, e) at turn ∙ taken_more ss b k n

-- ---- one label

module _ (label taken : List ℕ) (number : ℕ) (says : number ≡ capped (value 0 label)) (small : length taken ≤ cap) where
  -- no number with a place but the one that it says
  other : (v : ℕ) → v < length taken → ¬ (v ≡ number) → same label (digits v) ≡ false
  other v h d = boole (same label (digits v)) (λ t. absurd (d (sym (says ∙ decimal_says label v t (omega arith))))) (λ t. t)

  pub not_marked : (number < length taken → same label (digits number) ≡ false) → taken ≡ with_label label taken
  unfolding with_label
  not_marked differs =
      values_are (λ v. pick (same label (digits v)) 1 (word taken v)) taken
      (λ v h. elim (ℕ_discrete v number) [
        | yes e ↦ (let t : same label (digits v) ≡ false = rw e (differs (rw e at h)) in rw t)
        | no e ↦ rw (other v h e)
      ])

  pub is_marked : number < length taken → same label (digits number) ≡ true → set taken number 1 ≡ with_label label taken
  unfolding with_label
  is_marked h equal =
      let l : length (set taken number 1) ≡ length taken = length-set taken number 1 in
      rw l at (values_are (λ v. pick (same label (digits v)) 1 (word taken v)) (set taken number 1)
      (λ v m. elim (ℕ_discrete v number) [
        | yes e ↦ rw (e, equal) (get_or-set_same taken number 1 0 h)
        | no e ↦ rw (other v (rw l at m) e) (get_or-set_other taken number v 1 0 e)
      ]))
