-- The theorem's list numbered, item by item: what the words hold after the first i of them.
-- No item stands twice, so a store never meets an earlier one.
use mathlib.Core.Path.{◌≡◌, refl, sym, ap, ◌∙◌, subst}
use mathlib.Core.Logic.{◌≢◌, ◌⊎◌, inl, inr}
use mathlib.Core.Bool.{false}
use mathlib.Core.List.{List, [], ◌∷◌, ◌++◌}
use Prim.Native.Nat.{ℕ, suc, ◌+◌, ◌≤◌, ◌<◌}
use native.Mathlib.Omega.{arith}
use native.Mathlib.Numerals.{add-one}
use native.Mathlib.Decide.{ℕ_discrete}
use lib.ListN.{length, get_or, set, take, drop, length-set, take-append-drop}
use lib.Seq.{take-suc, take-length, length-take-le, get_or-set_same, get_or-set_other, drop-cons}
use lib.Dec.{eqb}
use Rattle.laws.specs.Tools.{pick, member, place, repeats, count}
use Rattle.laws.specs.Lists.{boole, T_of, All, all_at, eqb_yes, eqb_no, find_more, find_end, found_end, found_other, member_is, place_is}
use Rattle.laws.specs.Sums.{count_append, count_self, member_count}
use Rattle.laws.specs.Counting.{repeated_no}
use Rattle.defs.specs.Table.{word}
use Rattle.listing.specs.Arrays.{OnlyIn}
use Rattle.listing.specs.Kinds.{Holds}
use Rattle.listing.specs.Numbers.{Numbered, Plain}
use Rattle.listing.specs.Labels.{LabelsReady, LabelsNumbered}

-- the number of a statement in a list that is counted from `base` on, plus 1; what stood there before where it is not in the list
abbrev pub number_over : (base : ℕ) (xs : List ℕ) (k old : ℕ) → ℕ
number_over base xs k old = pick (member k xs) (base + place k xs + 1) old

-- at the end of a list that did not have it
number_new : (base : ℕ) (xs : List ℕ) (x old : ℕ) → member x xs ≡ false → number_over base (xs ++ (x ∷ [])) x old ≡ base + length xs + 1
number_new base xs x old f =
    let self = eqb_yes x x refl in
    rw (member_is x (xs ++ (x ∷ [])), found_end (eqb x) xs x self, place_is x (xs ++ (x ∷ [])), find_end (eqb x) xs x self (sym (member_is x xs) ∙ f))

-- any other number stays
number_other : (base : ℕ) (xs : List ℕ) (x k old : ℕ) → k ≢ x → number_over base (xs ++ (x ∷ [])) k old ≡ number_over base xs k old
number_other base xs x k old d =
    let other : member k (xs ++ (x ∷ [])) ≡ member k xs = member_is k (xs ++ (x ∷ [])) ∙ found_other (eqb k) xs x (eqb_no k x d) ∙ sym (member_is k xs) in
    boole (member k xs)
    (λ h. rw (other, h) (ap (λ (p : ℕ). base + p + 1) (place_is k (xs ++ (x ∷ [])) ∙ find_more (eqb k) xs (x ∷ []) (sym (member_is k xs) ∙ h) ∙ sym (place_is k xs))))
    (λ h. rw (other, h))

-- an item is not among those before it
not_before : (thm : List ℕ) (i : ℕ) → i < length thm → repeats thm ≡ false → member (get_or thm i 0) (take i thm) ≡ false
not_before thm i l once =
    let x = get_or thm i 0 in
    boole (member x (take i thm))
    (λ h. absurd (omega (
      arith,
      repeated_no thm once x,
      ap (count x) (sym (take-append-drop i thm)) ∙ count_append x (take i thm) (drop i thm),
      member_count x (take i thm) (T_of h),
      ap (count x) (drop-cons thm i 0 l),
      count_self x (drop (suc i) thm),
    )))
    (λ h. h)

-- ---- after the first i items

pub record NumberedTo (base s from : ℕ) (list : List ℕ) (i : ℕ) (ws₀ ws : List ℕ) : Type 0 where
  pub some_left : i ≤ length list
  pub same_length : length ws ≡ length ws₀
  pub number : (k : ℕ) → k < s → word ws (from + k) ≡ number_over base (take i list) k (word ws₀ (from + k))
  pub only : OnlyIn from (from + s) ws₀ ws

pub none_numbered : (base s from : ℕ) (list ws : List ℕ) → NumberedTo base s from list 0 ws ws
unfolding member
none_numbered base s from list ws = record { some_left = omega arith; same_length = refl; number = λ k l. refl; only = λ j l. refl }

pub all_numbered : (base s from : ℕ) (list : List ℕ) (i : ℕ) (ws₀ ws : List ℕ) → i ≡ length list → NumberedTo base s from list i ws₀ ws
    → ((k : ℕ) → k < s → word ws (from + k) ≡ number_over base list k (word ws₀ (from + k)))
all_numbered base s from list i ws₀ ws e n k l =
    let whole : take i list ≡ list = ap (λ (j : ℕ). take j list) e ∙ take-length list in
    n.number k l ∙ ap (λ (xs : List ℕ). number_over base xs k (word ws₀ (from + k))) whole

module _ (base s from : ℕ) (list : List ℕ) (i : ℕ) (ws₀ ws : List ℕ) (room : from + s ≤ length ws₀) (inside : All (λ k. k < s) list) (once : repeats list ≡ false)
    (n : NumberedTo base s from list i ws₀ ws) (l : i < length list) where
  -- where it goes
  pub number_in : get_or list i 0 < s
  number_in = all_at (λ k. k < s) list 0 inside i l

  pub turn_number : NumberedTo base s from list (i + 1) ws₀ (set ws (from + get_or list i 0) (base + i + 1))
  turn_number =
      let x = get_or list i 0 in
      let v : ℕ = base + i + 1 in
      let more : take (i + 1) list ≡ take i list ++ (x ∷ []) = ap (λ (j : ℕ). take j list) (add-one i) ∙ take-suc list i 0 l in
      record {
        some_left = omega arith;
        same_length = length-set ws (from + x) v ∙ n.same_length;
        number = λ k m.
            let old : ℕ = word ws₀ (from + k) in
            elim (ℕ_discrete k x) [
              | yes e ↦ ap (λ (j : ℕ). word (set ws (from + x) v) (from + j)) e
                  ∙ get_or-set_same ws (from + x) v 0 (omega (arith, n.same_length, room, number_in))
                  ∙ sym (ap (λ (xs : List ℕ). number_over base xs k old) more ∙ ap (λ (j : ℕ). number_over base (take i list ++ (x ∷ [])) j old) e
                  ∙ number_new base (take i list) x old (not_before list i l once) ∙ omega (arith, length-take-le i list (omega arith)))
              | no e ↦ get_or-set_other ws (from + x) (from + k) v 0 (omega arith) ∙ n.number k m
                  ∙ sym (ap (λ (xs : List ℕ). number_over base xs k old) more ∙ number_other base (take i list) x k old e)
            ];
        only = λ j m. get_or-set_other ws (from + x) j v 0 (apart j m) ∙ n.only j m;
      }
    where
      apart : (j : ℕ) → (j < from) ⊎ (from + s ≤ j) → j ≢ from + get_or list i 0
      apart j (inl m) = omega arith
      apart j (inr m) = omega (arith, number_in)

-- over words that are zero
pub over_zero_lem : (s from : ℕ) (thm ws ws' : List ℕ) → Plain s from thm ws → ((k : ℕ) → k < s → word ws' (from + k) ≡ number_over 0 thm k (word ws (from + k)))
    → OnlyIn from (from + s) ws ws' → Numbered s from thm ws ws'
over_zero_lem s from thm ws ws' p h only =
    record {
      number = λ k l.
          h k l ∙ boole (member k thm) (λ t. rw t (omega arith)) (λ t. rw t (p.zero k l));
      only = only;
    }

-- ---- a label list that stands in the same words, behind the numbers

pub record LabelsTo (base at many s from i : ℕ) (ws₀ ws : List ℕ) : Type 0 where
  pub some_left : i ≤ many
  pub same_length : length ws ≡ length ws₀
  pub only : OnlyIn from (from + s) ws₀ ws
  pub numbered : (list : List ℕ) → many ≡ length list → Holds at list ws₀ → All (λ k. k < s) list → repeats list ≡ false → NumberedTo base s from list i ws₀ ws

pub no_labels : (base at many s from : ℕ) (ws : List ℕ) → LabelsTo base at many s from 0 ws ws
no_labels base at many s from ws =
    record { some_left = omega arith; same_length = refl; only = λ j l. refl; numbered = λ list e h a o. none_numbered base s from list ws }

module _ (base at many s from i : ℕ) (ws₀ ws : List ℕ) (r : LabelsReady base at many s from ws₀) (n : LabelsTo base at many s from i ws₀ ws) (l : i < many) where
  item_is : (list : List ℕ) → many ≡ length list → Holds at list ws₀ → word ws (at + i) ≡ get_or list i 0
  item_is list e h = n.only (at + i) (inr (omega (arith, r.apart))) ∙ h i (omega arith)

  pub label_is_in : word ws (at + i) < s
  label_is_in = omega (arith, item_is r.list r.as_many r.holds, all_at (λ k. k < s) r.list 0 r.inside i (omega (arith, r.as_many)))

  pub turn_label : LabelsTo base at many s from (i + 1) ws₀ (set ws (from + word ws (at + i)) (base + i + 1))
  turn_label =
      record {
        some_left = omega arith;
        same_length = length-set ws (from + word ws (at + i)) (base + i + 1) ∙ n.same_length;
        only = λ j m. get_or-set_other ws (from + word ws (at + i)) j (base + i + 1) 0 (apart j m) ∙ n.only j m;
        numbered = λ list e h a o.
            subst (λ (x : ℕ). NumberedTo base s from list (i + 1) ws₀ (set ws (from + x) (base + i + 1))) (sym (item_is list e h))
            (turn_number base s from list i ws₀ ws (omega (arith, r.apart, r.room)) a o (n.numbered list e h a o) (omega arith));
      }
    where
      apart : (j : ℕ) → (j < from) ⊎ (from + s ≤ j) → j ≢ from + word ws (at + i)
      apart j (inl m) = omega arith
      apart j (inr m) = omega (arith, label_is_in)

pub all_labels : (base at many s from i : ℕ) (ws₀ ws : List ℕ) → i ≡ many → LabelsTo base at many s from i ws₀ ws → LabelsNumbered base at many s from ws₀ ws
all_labels base at many s from i ws₀ ws e n =
    record { number = λ list m h a o. all_numbered base s from list i ws₀ ws (e ∙ m) (n.numbered list m h a o); only = n.only }
