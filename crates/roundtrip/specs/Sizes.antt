-- The new store is no larger than the graph, and the tree that is put last is new to it.
use Rattle.std.specs.Prelude.{◌≡◌, true, false, get_or}
use Rattle.std.proofs.Math.Path.{refl, sym, ap}
use Rattle.std.proofs.Common.{◌∙◌}
use Prim.Native.Nat.{ℕ, suc, ◌-◌, ◌*◌, ◌≤◌, ◌<◌}
use native.Mathlib.Omega.{arith}
use mathlib.Core.List.{List, [], ◌∷◌, ◌++◌}
use Rattle.std.proofs.Math.ListN.{length, length-append}
use Rattle.laws.specs.Tools.{sum_below, count}
use Rattle.laws.specs.Lists.{boole, All, all_get_d, find, found, find_none, found_lt, snoc_cases}
use Rattle.laws.specs.Sums.{tot, bit_cases, sum_le, sum_one, tot_sum, length_tot, all_count, count_all, mul_le, count_places}
use Rattle.lengths.specs.Forests.{Forest, nil, node, relabel, width, size, trees, sub, sub_eq, width_trees, Good, roots, roots_sub, good_tree}
use Rattle.roundtrip.specs.Stores.{Ent, is, at, put, at_is, stmt_S, kids_S, refs, look, intern, In, put_le, put_known, put_new, intern_in, look_length, Wf, wf_intern, read_back, tr, idx, Know, know_more, know_put}

refs_tot : (w : ℕ → ℕ) (st : List Ent) (src : List ℕ) → length src ≡ length st
    → ((i : ℕ) → i < length st → length (kids_S st i) ≡ w (get_or src i 0)) → refs st ≡ tot w src
unfolding refs
refs_tot w [] [] l h = refl
refs_tot w [] (e ∷ src) l h = absurd (omega arith)
refs_tot w (k ∷ st) [] l h = absurd (omega arith)
refs_tot w (k ∷ st) (e ∷ src) l h = omega (arith, h 0 (omega arith), refs_tot w st src (omega arith) (λ i m. h (suc i) (omega arith)))

module _ (stmt : ℕ → ℕ) (want : ℕ → ℕ) (kids : ℕ → List ℕ) (low : (e : ℕ) → All (λ k. k < e) (kids e))
    (P : ℕ → Type 0) (down : (p k : ℕ) → P p → 1 ≤ count k (kids p) → P k) where
  -- each entry of the store stands for an entry of the graph
  abbrev Org : List Ent → ℕ → ℕ → Type 0
  Org st e i = P e × Know stmt kids st e × (idx stmt kids st e ≡ i)

  abbrev Src : List Ent → List ℕ → Type 0
  Src st src = (length src ≡ length st) × ((i : ℕ) → i < length st → Org st (get_or src i 0) i)

  src_put : (e : ℕ) (c : Forest) → c ≡ sub kids e → P e → (st : List Ent) → In st (relabel stmt c) → (src : List ℕ) → Src st src
      → (src' : List ℕ) × Src (put (stmt e, look st (relabel stmt c)) st) src'
  unfolding at
  src_put e c g pe st h src s =
      let k : Ent = (stmt e, look st (relabel stmt c)) in
      let ke = know_put stmt kids e c g st h in
      let le = put_le k st in
      boole (found (is k) st)
      (λ y. (src, rw (put_known k st y) s))
      (λ y.
      let old : (i : ℕ) → i < length src → i < length (put k st) → Org (put k st) (get_or src i 0) i =
      λ i m _. (let o = s.1 i (omega (arith, s.0)) in let r = know_more stmt kids st (put k st) le _ o.1 in (o.0, r.0, r.1 ∙ o.2)) in
      let new : length src < length (put k st) → Org (put k st) e (length src) =
      λ _. (pe, ke.0, ke.1 ∙ find_none (is k) st y ∙ sym s.0) in
      let grown : length (put k st) ≡ suc (length st) = ap length (put_new k st y) ∙ omega (arith, length-append st (k ∷ [])) in (
        src ++ (e ∷ []),
        (
          omega (arith, length-append src (e ∷ []), s.0),
          snoc_cases (λ x i. i < length (put k st) → Org (put k st) x i) src e 0 old new (λ i m l. absurd (omega (arith, s.0))),
        ),
      ))

  src_intern : (t : Forest) → Good want kids t → All P (roots t) → (st : List Ent) (src : List ℕ) → Src st src
      → (src' : List ℕ) × Src (intern (relabel stmt t) st) src'
  unfolding intern
  src_intern nil g a st src s = (src, s)
  src_intern (node e c b) g a st src s =
      let ks : All P (roots c) = rw (ap roots g.0 ∙ roots_sub kids low e) (all_count P (kids e) (λ k. down e k a.0)) in
      let rc = src_intern c g.2 ks st src s in
      let r = src_put e c g.0 a.0 (intern (relabel stmt c) st) (intern_in (relabel stmt c) st) rc.0 rc.1 in
      src_intern b g.3 a.1 _ r.0 r.1

-- an entry of the store has as many children as the entry that it stands for
org_size : (stmt : ℕ → ℕ) (kids : ℕ → List ℕ) (low : (e : ℕ) → All (λ k. k < e) (kids e)) (st : List Ent) (e i : ℕ)
    → Know stmt kids st e → idx stmt kids st e ≡ i → length (kids_S st i) ≡ length (kids e)
org_size stmt kids low st e i k h =
    let x : Ent = (stmt e, look st (tr stmt kids e)) in
    ap (λ (j : ℕ). length (kids_S st j)) (sym h)
    ∙ ap (λ (z : Ent). length z.1) (at_is x st k.1)
    ∙ look_length st stmt (sub kids e)
    ∙ ap width (sub_eq kids low e)
    ∙ width_trees (sub kids) (kids e)

-- a child's forest is smaller than its parent's
size_tree : (stmt : ℕ → ℕ) (h : ℕ → Forest) (k : ℕ) (es : List ℕ) → 1 ≤ count k es → size (relabel stmt (h k)) < size (relabel stmt (trees h es))
size_tree stmt h k [] l = absurd (omega arith)
size_tree stmt h k (e ∷ es) l =
    bit_cases k e
    (λ i h1. omega (arith, ap (λ (x : ℕ). size (relabel stmt (h x))) i))
    (λ i h0. omega (arith, size_tree stmt h k es (omega arith)))

module _ (stmt : ℕ → ℕ) (want : ℕ → ℕ) (kids : ℕ → List ℕ) (low : (e : ℕ) → All (λ k. k < e) (kids e)) (n : ℕ)
    (fit : (e : ℕ) → e < n → want e ≡ length (kids e)) (q : ℕ) (qn : q < n) where
  abbrev t : Forest
  t = node q (sub kids q) nil

  good : Good want kids t
  good = good_tree want kids low n fit q qn

  -- no more entries, and no more children, than the graph has
  pub store_size : (length (intern (relabel stmt t) []) ≤ n) × (refs (intern (relabel stmt t) []) ≤ sum_below (λ x. length (kids x)) n)
  store_size =
      let st = intern (relabel stmt t) [] in
      let down : (p k : ℕ) → p < n → 1 ≤ count k (kids p) → k < n = λ p k l h. omega (arith, count_all (λ x. x < p) (kids p) (low p) k h) in
      let r = src_intern stmt want kids low (λ x. x < n) down t good (qn, tt) [] [] (refl, λ i l. absurd (omega arith)) in
      let src = r.0 in
      let s = r.1 in
      let a : All (λ x. x < n) src = all_get_d (λ x. x < n) src (λ i l. (s.1 i (omega (arith, s.0))).0) in
      let c : (x : ℕ) → count x src ≤ 1 = count_places (idx stmt kids st) 0 src (λ i l. (s.1 i (omega (arith, s.0))).2 ∙ omega arith) in
      let bound : (w : ℕ → ℕ) → tot w src ≤ sum_below w n = λ w. rw (tot_sum w n src a) (sum_le (λ x. count x src * w x) w n (λ x l. mul_le (count x src) (w x) (c x))) in (
        omega (arith, bound (λ x. 1), sum_one n, length_tot src, s.0),
        omega (
          arith,
          bound (λ x. length (kids x)),
          refs_tot (λ e. length (kids e)) st src s.0 (λ i l. org_size stmt kids low st (get_or src i 0) i (s.1 i l).1 (s.1 i l).2),
        ),
      )

  smaller : (p k : ℕ) → 1 ≤ count k (kids p) → size (tr stmt kids k) < size (tr stmt kids p)
  smaller p k h = rw (sub_eq kids low p) (size_tree stmt (sub kids) k (kids p) h)

  -- the store of the children of q, and the entry of q itself
  abbrev below : List Ent
  below = intern (tr stmt kids q) []

  abbrev root : Ent
  root = (stmt q, look below (tr stmt kids q))

  -- an entry with a smaller forest does not stand for q there: the store unfolds to both forests
  no_smaller : (e : ℕ) → size (tr stmt kids e) < size (tr stmt kids q) → Know stmt kids below e → found (is root) below ≡ true → ¬ (idx stmt kids below e ≡ at root below)
  no_smaller e less knows h here =
      let wf : Wf below = wf_intern (tr stmt kids q) [] (λ j. tt) in
      let other : Ent = (stmt e, look below (tr stmt kids e)) in
      let same-entry : root ≡ other = sym (at_is root below h) ∙ ap (λ (j : ℕ). get_or below j (0, [])) (sym here) ∙ at_is other below knows.1 in
      let same-tree : tr stmt kids q ≡ tr stmt kids e =
      sym (read_back below wf (tr stmt kids q) (intern_in (tr stmt kids q) []))
      ∙ ap (λ (x : Ent). relabel (stmt_S below) (trees (sub (kids_S below)) x.1)) same-entry
      ∙ read_back below wf (tr stmt kids e) knows.0 in
      omega (arith, ap size same-tree)

  -- but every entry of that store stands for one with a smaller forest
  root_new : found (is root) below ≡ false
  unfolding at
  root_new =
      boole (found (is root) below)
      (λ h.
      let P : ℕ → Type 0 = λ x. size (tr stmt kids x) < size (tr stmt kids q) in
      let down : (p k : ℕ) → P p → 1 ≤ count k (kids p) → P k = λ p k l c. omega (arith, smaller p k c) in
      let r = src_intern stmt want kids low P down (sub kids q) good.2 (rw (roots_sub kids low q) (all_count P (kids q) (smaller q))) [] [] (refl, λ i l. absurd (omega arith)) in
      let o = r.1.1 (find (is root) below) (found_lt (is root) below h) in
      absurd (no_smaller (get_or r.0 (find (is root) below) 0) o.0 o.1 h o.2))
      (λ h. h)

  -- so q's entry is the last
  pub last_entry : (1 ≤ length (intern (relabel stmt t) [])) × (idx stmt kids (intern (relabel stmt t) []) q ≡ length (intern (relabel stmt t) []) - 1)
  unfolding intern at
  last_entry =
      let grown : length (put root below) ≡ suc (length below) = ap length (put_new root below root_new) ∙ omega (arith, length-append below (root ∷ [])) in
      let place = (know_put stmt kids q (sub kids q) refl below (intern_in (tr stmt kids q) [])).1 in
      (omega arith, place ∙ find_none (is root) below root_new ∙ omega arith)
