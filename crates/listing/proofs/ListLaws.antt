-- The passes one after another: each leaves what the later ones read.
-- What stands after the passes is put together from what each of them says.
use mathlib.Core.Path.{◌≡◌, refl, sym, ap, ◌∙◌, subst}
use mathlib.Core.Logic.{◌⊎◌, inl, inr}
use mathlib.Core.Bool.{Bool, true, false}
use mathlib.Core.List.{List, [], ◌∷◌, ◌++◌}
use Prim.Native.Nat.{ℕ, ◌+◌, ◌*◌, ◌-◌, ◌≤◌, ◌<◌}
use native.Mathlib.Omega.{arith}
use native.Mathlib.Decide.{dec_lt}
use lib.ListN.{length, get_or, length-append, get_or-append}
use lib.Seq.{ext_get_or, get_or-append-add}
use lib.Dec.{eqb}
use Rattle.laws.specs.Tools.{part, keep, firsts, add_new}
use Rattle.laws.specs.Lists.{boole, All, all_map, all_keep, part_at, part_length}
use Rattle.laws.specs.Counting.{firsts_all, firsts_few}
use Rattle.defs.specs.Table.{word, kind_in}
use Rattle.defs.specs.Steps.{Step, step_size, flat, normal_stmts}
use Rattle.table.specs.Records.{StatementIn}
use Rattle.listing.specs.Arrays.{others, OnlyIn, Counted, StepsReady, AllUsed}
use Rattle.listing.specs.Numbers.{Plain, Numbered}
use Rattle.listing.specs.Clear.{Cleared}
use Rattle.listing.specs.Kinds.{wanted, Holds, ListReady, Kept}
use Rattle.listing.specs.Listing.{listing, AllReady, Arrays, Listed}

-- a region that a pass leaves
part_kept : (a n low high : ℕ) (ws ws' : List ℕ) → a + n ≤ low → length ws' ≡ length ws → a + n ≤ length ws → OnlyIn low high ws ws' → part a n ws' ≡ part a n ws
part_kept a n low high ws ws' h e l only =
    ext_get_or 0 (part a n ws') (part a n ws) (part_length a n ws' (omega arith) ∙ sym (part_length a n ws l))
    (λ i m. let k : i < n = omega (arith, part_length a n ws' (omega arith)) in
    part_at a n ws' i 0 k ∙ only (a + i) (inl (omega arith)) ∙ sym (part_at a n ws i 0 k))

-- one pass after another
only_then : (a b c d low high : ℕ) (x y z : List ℕ) → low ≤ a → b ≤ high → low ≤ c → d ≤ high → OnlyIn a b x y → OnlyIn c d y z → OnlyIn low high x z
only_then a b c d low high x y z ha hb hc hd p q j m = q j (wider c d m hc hd) ∙ p j (wider a b m ha hb)
  where
    wider : (a b : ℕ) → (j < low) ⊎ (high ≤ j) → low ≤ a → b ≤ high → (j < a) ⊎ (b ≤ j)
    wider a b (inl m) ha hb = inl (omega arith)
    wider a b (inr m) ha hb = inr (omega arith)

abbrev is_assertion : List ℕ → ℕ → Bool
is_assertion ss k = eqb (kind_in ss k) 0

-- the two kinds are all
halves : (ss xs : List ℕ) → length (keep (wanted ss false) xs) + length (keep (wanted ss true) xs) ≡ length xs
unfolding keep wanted
halves ss [] = omega arith
halves ss (x ∷ xs) =
    boole (is_assertion ss x)
    (λ h. rw h (omega (arith, halves ss xs)))
    (λ h. rw h (omega (arith, halves ss xs)))

-- a list behind another
holds_append : (at : ℕ) (xs ys ws : List ℕ) → Holds at xs ws → Holds (at + length xs) ys ws → Holds at (xs ++ ys) ws
holds_append at xs ys ws p q i l =
    elim (dec_lt i (length xs)) [
      | yes m ↦ p i m ∙ sym (get_or-append xs ys 0 i m)
      | no m ↦ (let j : ℕ = i - length xs in
          let e : i ≡ length xs + j = omega arith in
          ap (word ws) (omega arith) ∙ q j (omega (arith, length-append xs ys)) ∙ sym (ap (λ (x : ℕ). get_or (xs ++ ys) x 0) e ∙ get_or-append-add xs ys j 0))
    ]

-- ---- the five passes

module _ (ss thm : List ℕ) (steps many from s : ℕ) (w0 : List ℕ) (r : AllReady ss thm steps many from s w0) where
  module _ (w1 : List ℕ) (len1 : length w1 ≡ length w0) (c : Cleared from (from + 2 * s) w0 w1) where
    -- the theorem's list can be numbered
    pub plain : Plain s from thm w1
    plain =
        record {
          room = omega (arith, r.room);
          inside = r.thm_inside;
          once = r.thm_once;
          few = r.thm_few;
          zero = λ k l. c.zero (from + k) (omega arith) (omega arith);
        }

    module _ (w2 : List ℕ) (len2 : length w2 ≡ length w1) (n : Numbered s from thm w1 w2) where
      -- nothing is used yet
      fresh : Counted s from 0 thm [] w2
      unfolding firsts add_new
      fresh =
          record {
            numbers = n.number;
            uses = λ k l. n.only (from + s + k) (inr (omega arith)) ∙ c.zero (from + s + k) (omega arith) (omega arith);
            as_many = refl;
            list = λ i l. absurd (omega arith);
          }

      steps_kept : part steps (step_size * many) w2 ≡ part steps (step_size * many) w0
      steps_kept =
          part_kept steps (step_size * many) from (from + 2 * s) w0 w2 r.apart (len2 ∙ len1) (omega (arith, r.apart, r.room))
          (only_then from (from + 2 * s) from (from + s) from (from + 2 * s) w0 w1 w2 (omega arith) (omega arith) (omega arith) (omega arith) c.only n.only)

      pub steps_ready : StepsReady steps many s from w2
      steps_ready =
          record {
            room = omega (arith, r.room);
            small = r.small;
            apart = r.apart;
            few = r.few;
            ts = r.ts;
            as_many = r.as_many;
            holds = steps_kept ∙ r.holds;
            below = r.below;
            thm = thm;
            fresh = fresh;
          }

      module _ (listed : ℕ) (w3 : List ℕ) (len3 : length w3 ≡ length w2) (u : AllUsed steps many s from listed w2 w3) where
        counted : (ts : List Step) → many ≡ length ts → part steps (step_size * many) w0 ≡ flat ts → Counted s from listed thm (others thm (normal_stmts ts)) w3
        unfolding AllUsed
        counted ts e h = u.0 ts thm e (steps_kept ∙ h) fresh

        -- the statements by first appearance
        abbrev fs : List ℕ
        fs = firsts (others thm (normal_stmts r.ts))

        mine : Counted s from listed thm (others thm (normal_stmts r.ts)) w3
        mine = counted r.ts r.as_many r.holds

        fs_below : All (λ k. k < s) fs
        unfolding others
        fs_below = firsts_all (λ k. k < s) (others thm (normal_stmts r.ts)) (all_keep (λ k. k < s) _ (normal_stmts r.ts) r.below)

        pub listed_few : listed ≤ s
        unfolding others
        listed_few = omega (arith, mine.as_many, firsts_few s (others thm (normal_stmts r.ts)) (all_keep (λ k. k < s) _ (normal_stmts r.ts) r.below))

        -- what either pass over them asks
        any_ready : (to : ℕ) (ws : List ℕ) → from + 3 * s ≤ to → to ≤ from + 4 * s → length ws ≡ length w0 → Holds (from + 2 * s) fs ws → ListReady ss (from + 2 * s) listed to ws
        any_ready to ws low high len h =
            record {
              apart = omega (arith, listed_few);
              room = omega (arith, listed_few, r.room);
              list = fs;
              as_many = mine.as_many;
              holds = h;
              inside = all_map (λ k. k < s) (StatementIn ss) (λ k l. omega (arith, r.long)) fs fs_below;
            }

        fs_held : Holds (from + 2 * s) fs w3
        fs_held i l = mine.list i (omega (arith, mine.as_many))

        pub first_ready : ListReady ss (from + 2 * s) listed (from + 3 * s) w3
        first_ready = any_ready (from + 3 * s) w3 (omega arith) (omega arith) (len3 ∙ len2 ∙ len1) fs_held

        module _ (middle : ℕ) (w4 : List ℕ) (len4 : length w4 ≡ length w3) (k : Kept ss false (from + 2 * s) listed (from + 3 * s) middle w3 w4) where
          fs_kept : Holds (from + 2 * s) fs w4
          unfolding Kept
          fs_kept i l = k.1 (from + 2 * s + i) (inl (omega (arith, listed_few, mine.as_many))) ∙ fs_held i l

          middle_is : middle ≡ from + 3 * s + length (keep (wanted ss false) fs)
          unfolding Kept
          middle_is = (k.0 fs mine.as_many fs_held).0

          pub second_ready : ListReady ss (from + 2 * s) listed middle w4
          second_ready = any_ready middle w4 (omega (arith, middle_is)) (omega (arith, middle_is, halves ss fs, mine.as_many, listed_few)) (len4 ∙ len3 ∙ len2 ∙ len1) fs_kept

          module _ (end : ℕ) (w5 : List ℕ) (k2 : Kept ss true (from + 2 * s) listed middle end w4 w5) where
            arrays : (ts : List Step) → many ≡ length ts → part steps (step_size * many) w0 ≡ flat ts → Arrays ss thm ts from s listed w5
            unfolding Kept listing
            arrays ts e h =
                let m = counted ts e h in
                let gs = firsts (others thm (normal_stmts ts)) in
                let held : Holds (from + 2 * s) gs w3 = λ i l. m.list i (omega (arith, m.as_many)) in
                let held4 : Holds (from + 2 * s) gs w4 = λ i l. k.1 (from + 2 * s + i) (inl (omega (arith, listed_few, m.as_many))) ∙ held i l in
                let a = k.0 gs m.as_many held in
                let b = k2.0 gs m.as_many held4 in
                let back : (j : ℕ) → j < from + 2 * s → word w5 j ≡ word w3 j = λ j l. k2.1 j (inl (omega (arith, middle_is))) ∙ k.1 j (inl (omega arith)) in
                let others-list = keep (wanted ss false) gs in
                record {
                  numbers = λ x l. back (from + x) (omega arith) ∙ m.numbers x l;
                  uses = λ x l. back (from + s + x) (omega arith) ∙ m.uses x l;
                  as_many = omega (arith, m.as_many, halves ss gs, length-append others-list (keep (wanted ss true) gs));
                  list = holds_append (from + 3 * s) others-list (keep (wanted ss true) gs) w5
                      (λ i l. k2.1 (from + 3 * s + i) (inl (omega (arith, a.0))) ∙ a.1 i l)
                      (subst (λ (x : ℕ). Holds x (keep (wanted ss true) gs) w5) a.0 b.1);
                }

            pub all_listed : Listed ss thm steps many from s listed w0 w5
            unfolding Listed AllUsed Kept
            all_listed = (
              arrays,
              only_then from (from + 4 * s) middle (middle + listed) from (from + 5 * s) w0 w4 w5 (omega arith) (omega arith) (omega (arith, middle_is))
                  (omega (arith, middle_is, halves ss fs, mine.as_many, listed_few))
                  (only_then from (from + 3 * s) (from + 3 * s) (from + 3 * s + listed) from (from + 4 * s) w0 w3 w4 (omega arith) (omega arith) (omega arith) (omega (arith, listed_few))
                  (only_then from (from + 2 * s) (from + s) (from + 3 * s) from (from + 3 * s) w0 w2 w3 (omega arith) (omega arith) (omega arith) (omega arith)
                  (only_then from (from + 2 * s) from (from + s) from (from + 2 * s) w0 w1 w2 (omega arith) (omega arith) (omega arith) (omega arith) c.only n.only)
                  u.1)
                  k.1)
                  k2.1,
            )
