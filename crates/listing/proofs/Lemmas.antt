-- One statement more in the arrays: in the theorem's list, met before, or new. Each return of `use_statement` is one of the three.
-- The arrays lie apart, so that a store in one leaves the others.
use mathlib.Core.Path.{◌≡◌, refl, sym, ap, ◌∙◌, subst}
use mathlib.Core.Logic.{◌≢◌, ◌⊎◌, inl, inr}
use mathlib.Core.Bool.{Bool, true, false, not}
use mathlib.Core.List.{List, [], ◌∷◌, ◌++◌, append-nil}
use Prim.Native.Nat.{ℕ, ◌+◌, ◌*◌, ◌≤◌, ◌<◌}
use native.Mathlib.Omega.{arith}
use native.Mathlib.Decide.{ℕ_discrete}
use lib.ListN.{length, get_or, set, length-append, length-set, get_or-append}
use lib.Seq.{get_or-set_same, get_or-set_other, get_or-append_seam}
use Rattle.laws.specs.Tools.{pick, keep, member, place, count, firsts}
use Rattle.laws.specs.Lists.{All, all_keep, all_append, keep_append}
use Rattle.laws.specs.Sums.{bit_cases, count_append, count_most}
use Rattle.laws.specs.Counting.{keep_shorter, firsts_known, firsts_new, firsts_few}
use Rattle.defs.specs.Table.{word, max_word}
use Rattle.listing.specs.Arrays.{others, Counted, Ready, OneMore}

-- ---- the statements that are not in the theorem's list

others_listed : (thm xs : List ℕ) (k : ℕ) → member k thm ≡ true → others thm (xs ++ (k ∷ [])) ≡ others thm xs
unfolding others keep
others_listed thm xs k h = keep_append (λ x. not (member x thm)) xs (k ∷ []) ∙ rw h (append-nil (keep (λ x. not (member x thm)) xs))

others_more : (thm xs : List ℕ) (k : ℕ) → member k thm ≡ false → others thm (xs ++ (k ∷ [])) ≡ others thm xs ++ (k ∷ [])
unfolding others keep
others_more thm xs k h = keep_append (λ x. not (member x thm)) xs (k ∷ []) ∙ rw h

others_below : (s : ℕ) (thm xs : List ℕ) → All (λ k. k < s) xs → All (λ k. k < s) (others thm xs)
unfolding others
others_below s thm xs a = all_keep (λ k. k < s) (λ x. not (member x thm)) xs a

others_few : (thm xs : List ℕ) → length (others thm xs) ≤ length xs
unfolding others
others_few thm xs = keep_shorter (λ x. not (member x thm)) xs

-- a number is 0 exactly where the statement is not in the theorem's list
listed_is : (t : Bool) (p x : ℕ) → x ≡ pick t (p + 1) 0 → x ≢ 0 → t ≡ true
listed_is true p x e h = refl
listed_is false p x e h = absurd (h e)

other_is : (t : Bool) (p x : ℕ) → x ≡ pick t (p + 1) 0 → x ≡ 0 → t ≡ false
other_is true p x e h = absurd (omega arith)
other_is false p x e h = refl

-- ---- what is asked before a statement more is put down

module _ (s from n k : ℕ) (ws : List ℕ) (r : Ready s from n k ws) where
  -- its uses so far fit
  pub uses_fit : word ws (from + s + k) < max_word
  uses_fit =
      let c = r.counted in
      omega (arith, c.uses k r.inside, count_most k (others r.thm r.xs), others_few r.thm r.xs, r.few)

  -- there is a place for a new one
  pub new_fits : word ws (from + k) ≡ 0 → word ws (from + s + k) ≡ 0 → n < s
  new_fits h u =
      let c = r.counted in
      let ys = others r.thm r.xs in
      let low : All (λ x. x < s) (ys ++ (k ∷ [])) = all_append (λ x. x < s) ys (k ∷ []) (others_below s r.thm r.xs r.below) (r.inside, tt) in
      omega (
        arith,
        c.as_many,
        firsts_few s (ys ++ (k ∷ [])) low,
        ap length (firsts_new ys k (sym (c.uses k r.inside) ∙ u)),
        length-append (firsts ys) (k ∷ []),
      )

-- ---- the three returns

module _ (s from n k : ℕ) (ws : List ℕ) (room : from + 3 * s ≤ length ws) (inside : k < s) where
  -- in the theorem's list
  pub more_listed : word ws (from + k) ≢ 0 → OneMore s from n k n ws ws
  unfolding OneMore
  more_listed h = (
    λ thm xs c.
        let m : member k thm ≡ true = listed_is (member k thm) (place k thm) (word ws (from + k)) (c.numbers k inside) h in
        subst (λ (ys : List ℕ). Counted s from n thm ys ws) (sym (others_listed thm xs k m)) c,
    λ j l. refl,
  )

  -- a use more of statement k
  abbrev pub used_once_more : List ℕ
  used_once_more = set ws (from + s + k) (word ws (from + s + k) + 1)

  use_at : (j : ℕ) (ys : List ℕ) → j < s → ((x : ℕ) → x < s → word ws (from + s + x) ≡ count x ys) → word used_once_more (from + s + j) ≡ count j (ys ++ (k ∷ []))
  use_at j ys l uses =
      bit_cases j k
      (λ e h. ap (λ (x : ℕ). word used_once_more (from + s + x)) e
      ∙ get_or-set_same ws (from + s + k) (word ws (from + s + k) + 1) 0 (omega arith)
      ∙ omega (arith, uses k inside, ap (λ (x : ℕ). count x ys) e, count_append j ys (k ∷ [])))
      (λ e h. get_or-set_other ws (from + s + k) (from + s + j) (word ws (from + s + k) + 1) 0 (omega arith)
      ∙ omega (arith, uses j l, count_append j ys (k ∷ [])))

  elsewhere : (j : ℕ) → j ≢ from + s + k → word used_once_more j ≡ word ws j
  elsewhere j d = get_or-set_other ws (from + s + k) j (word ws (from + s + k) + 1) 0 d

  -- met before
  pub more_known : word ws (from + k) ≡ 0 → word ws (from + s + k) ≢ 0 → OneMore s from n k n ws used_once_more
  unfolding OneMore
  more_known h u = (
    λ thm xs c.
        let ys = others thm xs in
        let m : member k thm ≡ false = other_is (member k thm) (place k thm) (word ws (from + k)) (c.numbers k inside) h in
        let known : firsts (ys ++ (k ∷ [])) ≡ firsts ys = firsts_known ys k (omega (arith, c.uses k inside)) in
        subst (λ (zs : List ℕ). Counted s from n thm zs used_once_more) (sym (others_more thm xs k m)) (record {
          numbers = λ j l. elsewhere (from + j) (omega arith) ∙ c.numbers j l;
          uses = λ j l. use_at j ys l c.uses;
          as_many = c.as_many ∙ ap length (sym known);
          list = λ i l. elsewhere (from + 2 * s + i) (omega arith) ∙ c.list i l ∙ ap (λ (zs : List ℕ). get_or zs i 0) (sym known);
        }),
    λ j l. elsewhere j (apart j l),
  )
    where
      apart : (j : ℕ) → (j < from + s) ⊎ (from + 3 * s ≤ j) → j ≢ from + s + k
      apart j (inl l) = omega arith
      apart j (inr l) = omega arith

  -- new: it is put behind the others
  abbrev pub listed_once_more : List ℕ
  listed_once_more = set used_once_more (from + 2 * s + n) k

  other_place : (j : ℕ) → j ≢ from + 2 * s + n → word listed_once_more j ≡ word used_once_more j
  other_place j d = get_or-set_other used_once_more (from + 2 * s + n) j k 0 d

  list_at : (i : ℕ) (fs : List ℕ) → i < n + 1 → n < s → n ≡ length fs → ((x : ℕ) → x < n → word ws (from + 2 * s + x) ≡ get_or fs x 0)
      → word listed_once_more (from + 2 * s + i) ≡ get_or (fs ++ (k ∷ [])) i 0
  list_at i fs l below len list =
      elim (ℕ_discrete i n) [
        | yes e ↦ rw e (get_or-set_same used_once_more (from + 2 * s + n) k 0 (omega (arith, length-set ws (from + s + k) (word ws (from + s + k) + 1)))
            ∙ sym (ap (λ (j : ℕ). get_or (fs ++ (k ∷ [])) j 0) len ∙ get_or-append_seam fs k [] 0))
        | no e ↦ other_place (from + 2 * s + i) (omega arith) ∙ elsewhere (from + 2 * s + i) (omega arith) ∙ list i (omega arith) ∙ sym (get_or-append fs (k ∷ []) 0 i (omega arith))
      ]

  pub more_new : n < s → word ws (from + k) ≡ 0 → word ws (from + s + k) ≡ 0 → OneMore s from n k (n + 1) ws listed_once_more
  unfolding OneMore
  more_new below h u = (
    λ thm xs c.
        let ys = others thm xs in
        let m : member k thm ≡ false = other_is (member k thm) (place k thm) (word ws (from + k)) (c.numbers k inside) h in
        let new : firsts (ys ++ (k ∷ [])) ≡ firsts ys ++ (k ∷ []) = firsts_new ys k (sym (c.uses k inside) ∙ u) in
        subst (λ (zs : List ℕ). Counted s from (n + 1) thm zs listed_once_more) (sym (others_more thm xs k m)) (record {
          numbers = λ j l. other_place (from + j) (omega arith) ∙ elsewhere (from + j) (omega arith) ∙ c.numbers j l;
          uses = λ j l. other_place (from + s + j) (omega arith) ∙ use_at j ys l c.uses;
          as_many = omega (arith, c.as_many, ap length new, length-append (firsts ys) (k ∷ []));
          list = λ i l. list_at i (firsts ys) l below c.as_many c.list ∙ ap (λ (zs : List ℕ). get_or zs i 0) (sym new);
        }),
    λ j l. other_place j (past j l) ∙ elsewhere j (apart j l),
  )
    where
      apart : (j : ℕ) → (j < from + s) ⊎ (from + 3 * s ≤ j) → j ≢ from + s + k
      apart j (inl l) = omega arith
      apart j (inr l) = omega arith

      past : (j : ℕ) → (j < from + s) ⊎ (from + 3 * s ≤ j) → j ≢ from + 2 * s + n
      past j (inl l) = omega arith
      past j (inr l) = omega arith
