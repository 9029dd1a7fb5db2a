-- Members removed by their places, which ascend: what stays are the members that do not stand at a place.
-- Places behind the one looked at lie below it, the others not, so the next of them decides.
use mathlib.Core.Path.{◌≡◌, refl, sym, ap, ap₂, ◌∙◌}
use mathlib.Core.Logic.{◌≢◌}
use mathlib.Core.Bool.{Bool, true, false, not, ◌&&◌}
use mathlib.Core.List.{List, [], ◌∷◌, ◌++◌, append-nil}
use Prim.Native.Nat.{ℕ, zero, suc, ◌+◌, ◌-◌, ◌≤◌, ◌<◌}
use native.Mathlib.Decide.{dec_lt, ℕ_discrete}
use native.Mathlib.Numerals.{add-one}
use native.Mathlib.Omega.{arith}
use borrow.Author.Tests.{lt-ltb, le-ltb}
use lib.ListN.{length, get_or, set, take, drop, length-drop, length-set, take-append-drop}
use lib.Seq.{take-suc, take-suc-set, take-set-le, drop-set-lt, drop-drop, drop-cons, take-length, get_or-drop}
use lib.Dec.{eqb, ltb, eqb→eq, ltb→lt}
use mir.Facts.{and_yes}
use Rattle.laws.specs.Tools.{pick, keep, member, count}
use Rattle.laws.specs.Lists.{boole, T_of, or_no, clash, eqb_yes, eqb_no, All, all_at, all_map, all_drop, all_append}
use Rattle.laws.specs.Sums.{all_count, bit_cases}
use Rattle.defs.specs.ChoiceLaws.{Ascending}
use Rattle.blocks.specs.Line.{members_at, others, Once, is_next}

-- ---- members of a block without repeats tell their places

-- a member stands in the block
pub count_at : (xs : List ℕ) (j : ℕ) → j < length xs → 1 ≤ count (get_or xs j 0) xs
count_at xs j l = all_at (λ k. 1 ≤ count k xs) xs 0 (all_count (λ k. 1 ≤ count k xs) xs (λ k h. h)) j l

places_apart : (xs : List ℕ) → Once xs → (i j : ℕ) → i < length xs → j < length xs → get_or xs i 0 ≡ get_or xs j 0 → i ≡ j
places_apart [] once i j l m e = absurd (omega arith)
places_apart (x ∷ xs) once zero zero l m e = refl
places_apart (x ∷ xs) once zero (suc j) l m e =
    bit_cases x x (λ q h. absurd (omega (arith, once x, rw (sym e) at (count_at xs j (omega arith))))) (λ q h. absurd (q refl))
places_apart (x ∷ xs) once (suc i) zero l m e =
    bit_cases x x (λ q h. absurd (omega (arith, once x, rw e at (count_at xs i (omega arith))))) (λ q h. absurd (q refl))
places_apart (x ∷ xs) once (suc i) (suc j) l m e =
    ap suc (places_apart xs (λ y. omega (arith, once y)) i j (omega arith) (omega arith) e)

-- the member at p is one of those at the places just where p is a place
member_place : (xs places : List ℕ) (p : ℕ) → Once xs → p < length xs → All (λ q. q < length xs) places
    → member (get_or xs p 0) (members_at xs places) ≡ member p places
unfolding member
member_place xs [] p once l a = refl
member_place xs (q ∷ qs) p once l a =
    let same : eqb (get_or xs p 0) (get_or xs q 0) ≡ eqb p q =
    elim (ℕ_discrete p q) [
      | yes e ↦ eqb_yes _ _ (ap (λ (k : ℕ). get_or xs k 0) e) ∙ sym (eqb_yes p q e)
      | no e ↦ eqb_no _ _ (λ z. e (places_apart xs once p q l a.0 z)) ∙ sym (eqb_no p q e)
    ] in
    rw (same, member_place xs qs p once l a.1)

-- ---- places behind and ahead

pub record Passed (places : List ℕ) (gone p : ℕ) : Type 0 where
  pub inside : gone ≤ length places
  pub behind : All (λ q. q < p) (take gone places)
  pub ahead : All (λ q. p ≤ q) (drop gone places)

pub passed_none : (places : List ℕ) → Passed places 0 0
passed_none places = record { inside = omega arith; behind = tt; ahead = every places }
  where
    every : (ps : List ℕ) → All (λ q. 0 ≤ q) ps
    every [] = tt
    every (q ∷ qs) = (omega arith, every qs)

ascending_drop : (k : ℕ) (ps : List ℕ) → Ascending ps → Ascending (drop k ps)
ascending_drop zero ps a = a
ascending_drop (suc k) [] a = tt
ascending_drop (suc k) (p ∷ ps) a = ascending_drop k ps a.1

not_below : (ps qs : List ℕ) (p : ℕ) → All (λ q. q < p) ps → member p (ps ++ qs) ≡ member p qs
unfolding member
not_below [] qs p a = refl
not_below (q ∷ ps) qs p a = rw (eqb_no p q (omega (arith, a.0))) (not_below ps qs p a.1)

not_above : (qs : List ℕ) (p : ℕ) → All (λ q. p < q) qs → member p qs ≡ false
unfolding member
not_above [] p a = refl
not_above (q ∷ qs) p a = rw (eqb_no p q (omega (arith, a.0))) (not_above qs p a.1)

-- of places that ascend from p on, only the first can be p
first_only : (qs : List ℕ) (p : ℕ) → Ascending qs → All (λ q. p ≤ q) qs → member p qs ≡ (ltb 0 (length qs) && eqb (get_or qs 0 0) p)
unfolding member
first_only [] p a h = refl
first_only (q ∷ qs) p a h =
    elim (ℕ_discrete p q) [
      | yes e ↦ rw (eqb_yes p q e, eqb_yes q p (sym e), lt-ltb 0 (suc (length qs)) (omega arith))
      | no e ↦
          rw (eqb_no p q e, eqb_no q p (λ z. e (sym z)), lt-ltb 0 (suc (length qs)) (omega arith))
          (not_above qs p (all_map (λ y. q < y) _ (λ y l. omega (arith, h.0)) qs a.0))
    ]

-- places from p on, none of which is p
all_past : (qs : List ℕ) (p : ℕ) → member p qs ≡ false → All (λ q. p ≤ q) qs → All (λ q. p + 1 ≤ q) qs
unfolding member
all_past [] p m a = tt
all_past (q ∷ qs) p m a =
    let r = or_no (eqb p q) (member p qs) m in
    let ne : p ≢ q = λ e. clash (eqb p q) (eqb_yes p q e) r.0 in
    (omega (arith, ne, a.0), all_past qs p r.1 a.1)

module _ (places : List ℕ) (gone p : ℕ) (up : Ascending places) (passed : Passed places gone p) where
  member_ahead : member p places ≡ member p (drop gone places)
  member_ahead = ap (member p) (sym (take-append-drop gone places)) ∙ not_below (take gone places) (drop gone places) p passed.behind

  pub next_member : member p places ≡ is_next places gone p
  next_member =
      let some : ltb 0 (length (drop gone places)) ≡ ltb gone (length places) =
      elim (dec_lt gone (length places)) [
        | yes l ↦ lt-ltb 0 (length (drop gone places)) (rw length-drop (omega arith)) ∙ sym (lt-ltb gone (length places) l)
        | no l ↦ le-ltb 0 (length (drop gone places)) (rw length-drop (omega arith)) ∙ sym (le-ltb gone (length places) (omega arith))
      ] in
      let first : get_or (drop gone places) 0 0 ≡ get_or places gone 0 = get_or-drop gone places 0 0 ∙ (let e : gone + 0 ≡ gone = omega arith in rw e) in
      member_ahead ∙ first_only (drop gone places) p (ascending_drop gone places up) passed.ahead ∙ rw (some, first)

  -- p is a place, and is passed
  pub pass_place : is_next places gone p ≡ true → Passed places (gone + 1) (p + 1)
  pass_place h =
      let b = and_yes (ltb gone (length places)) (eqb (get_or places gone 0) p) (T_of h) in
      let l : gone < length places = ltb→lt gone (length places) b.0 in
      let e : get_or places gone 0 ≡ p = eqb→eq _ _ b.1 in
      let front : take (gone + 1) places ≡ take gone places ++ (get_or places gone 0 ∷ []) = rw (add-one gone) (take-suc places gone 0 l) in
      let rest : drop gone places ≡ get_or places gone 0 ∷ drop (gone + 1) places = drop-cons places gone 0 l ∙ rw (add-one gone) in
      let later : Ascending (get_or places gone 0 ∷ drop (gone + 1) places) = rw rest at (ascending_drop gone places up) in
      record {
        inside = omega arith;
        behind = rw front
            (all_append (λ q. q < p + 1) (take gone places) (get_or places gone 0 ∷ []) (all_map (λ q. q < p) _ (λ q m. omega arith) (take gone places) passed.behind) (omega arith, tt));
        ahead = all_map (λ q. get_or places gone 0 < q) _ (λ q m. omega arith) (drop (gone + 1) places) later.0;
      }

  -- p is none
  pub pass_other : is_next places gone p ≡ false → Passed places gone (p + 1)
  pass_other h =
      record {
        inside = passed.inside;
        behind = all_map (λ q. q < p) _ (λ q m. omega arith) (take gone places) passed.behind;
        ahead = all_past (drop gone places) p (sym member_ahead ∙ next_member ∙ h) passed.ahead;
      }

-- past the last member no place is ahead
all_pass : (qs : List ℕ) (n : ℕ) → All (λ q. q < n) qs → All (λ q. n ≤ q) qs → length qs ≡ 0
all_pass [] n a b = refl
all_pass (q ∷ qs) n a b = absurd (omega (arith, a.0, b.0))

pub passed_all : (places : List ℕ) (gone n : ℕ) → Passed places gone n → All (λ q. q < n) places → gone ≡ length places
passed_all places gone n passed a =
    omega (arith, passed.inside, length-drop gone places, all_pass (drop gone places) n (all_drop (λ q. q < n) gone places a) passed.ahead)

-- ---- moving the members that stay to the front

keep_snoc : (test : ℕ → Bool) (xs : List ℕ) (x : ℕ) → keep test (xs ++ (x ∷ [])) ≡ keep test xs ++ pick (test x) (x ∷ []) []
unfolding keep
keep_snoc test [] x = refl
keep_snoc test (y ∷ ys) x =
    boole (test y) (λ h. rw h (ap (λ (l : List ℕ). y ∷ l) (keep_snoc test ys x))) (λ h. rw h (keep_snoc test ys x))

-- the members before p that stay stand at the front of b, and those from p on are where they were in e
pub record Moved (e places : List ℕ) (gone p : ℕ) (b : List ℕ) : Type 0 where
  pub long : length b ≡ length e
  pub few : gone ≤ p
  pub within : p ≤ length e
  pub passed : Passed places gone p
  pub front : take (p - gone) b ≡ others (take p e) (members_at e places)
  pub rest : drop p b ≡ drop p e

pub moved_none : (e places : List ℕ) → Moved e places 0 0 e
unfolding keep
moved_none e places =
    record { long = refl; few = omega arith; within = omega arith; passed = passed_none places; front = refl; rest = refl }

module _ (e places : List ℕ) (gone p : ℕ) (b : List ℕ) (once : Once e) (inside : All (λ q. q < length e) places) (up : Ascending places)
    (m : Moved e places gone p b) (more : p < length e) where
  abbrev stays : ℕ → Bool
  stays j = not (member j (members_at e places))

  here : get_or b p 0 ≡ get_or e p 0
  here =
      let z : p + 0 ≡ p = omega arith in
      let q : get_or b (p + 0) 0 ≡ get_or e (p + 0) 0 = sym (get_or-drop p b 0 0) ∙ ap (λ (l : List ℕ). get_or l 0 0) m.rest ∙ get_or-drop p e 0 0 in
      rw z at q

  decided : member (get_or e p 0) (members_at e places) ≡ is_next places gone p
  decided = member_place e places p once more inside ∙ next_member places gone p up m.passed

  kept_more : others (take (p + 1) e) (members_at e places) ≡ others (take p e) (members_at e places) ++ pick (stays (get_or e p 0)) (get_or e p 0 ∷ []) []
  kept_more =
      ap (keep stays) ((let z : take (p + 1) e ≡ take p e ++ (get_or e p 0 ∷ []) = rw (add-one p) (take-suc e p 0 more) in z))
      ∙ keep_snoc stays (take p e) (get_or e p 0)

  rest_more : drop (p + 1) (set b (p - gone) (get_or b p 0)) ≡ drop (p + 1) e
  rest_more =
      drop-set-lt (p + 1) b (p - gone) (get_or b p 0) (omega (arith, m.few))
      ∙ sym (drop-drop 1 p b) ∙ ap (λ (l : List ℕ). drop 1 l) m.rest ∙ drop-drop 1 p e

  -- the member at p leaves
  leaves : is_next places gone p ≡ true → Moved e places (gone + 1) (p + 1) (set b (p - gone) (get_or b p 0))
  leaves h =
      let z : p + 1 - (gone + 1) ≡ p - gone = omega (arith, m.few) in
      record {
        long = length-set b (p - gone) (get_or b p 0) ∙ m.long;
        few = omega (arith, m.few);
        within = omega arith;
        passed = pass_place places gone p up m.passed h;
        front =
            rw z (take-set-le (p - gone) b (p - gone) (get_or b p 0) (omega arith))
            ∙ m.front
            ∙ sym (kept_more ∙ rw (decided ∙ h) (append-nil (others (take p e) (members_at e places))));
        rest = rest_more;
      }

  -- the member at p stays
  remains : is_next places gone p ≡ false → Moved e places gone (p + 1) (set b (p - gone) (get_or b p 0))
  remains h =
      let z : p + 1 - gone ≡ suc (p - gone) = omega (arith, m.few) in
      let stored : take (p + 1 - gone) (set b (p - gone) (get_or b p 0)) ≡ take (p - gone) b ++ (get_or b p 0 ∷ []) =
      rw z (take-suc-set b (p - gone) (get_or b p 0) (omega (arith, m.long, m.few))) in
      record {
        long = length-set b (p - gone) (get_or b p 0) ∙ m.long;
        few = omega (arith, m.few);
        within = omega arith;
        passed = pass_other places gone p up m.passed h;
        front =
            stored
            ∙ ap₂ (λ (l : List ℕ) (x : ℕ). l ++ (x ∷ [])) m.front here
            ∙ sym (kept_more ∙ rw (decided ∙ h));
        rest = rest_more;
      }

  pub moved_more : (next : ℕ) → next ≡ pick (is_next places gone p) (gone + 1) gone → Moved e places next (p + 1) (set b (p - gone) (get_or b p 0))
  moved_more next is =
      boole (is_next places gone p)
      (λ h. rw is (rw h (leaves h)))
      (λ h. rw is (rw h (remains h)))

-- all members are passed
pub moved_all : (e places : List ℕ) (gone p : ℕ) (b : List ℕ) → All (λ q. q < length e) places → Moved e places gone p b → p ≡ length e
    → (p - gone + length places ≡ length e) × (take (p - gone) b ≡ others e (members_at e places))
moved_all e places gone p b inside m is = (
  omega (arith, passed_all places gone p m.passed (rw is inside), m.few),
  m.front ∙ ap (λ (l : List ℕ). others l (members_at e places)) ((let z : take p e ≡ e = rw is (take-length e) in z)),
)
