-- Stores: the entries that a replay has built, each its statement and its children. Interning a forest puts each of its trees once.
use Rattle.std.specs.Prelude.{◌≡◌, refl, ℕ, suc, ◌+◌, ◌≤◌, ◌<◌, Bool, true, false, ◌&&◌, List, [], ◌∷◌, ◌++◌, map, length, get_or, eqb}
use Rattle.std.proofs.Common.{sym, ap, ap₂, ◌∙◌, arith, length-append, eqb→eq}
use Rattle.std.proofs.Math.Dec.{eqb_refl}
use Rattle.std.proofs.Math.Facts.{and_yes}
use Rattle.laws.specs.Tools.{pick, same}
use Rattle.laws.specs.Lists.{boole, T_of, of_T, same_refl, same_is, All, all_map, map_all, find, found, found_lt, found_more, find_more, find_none, found_end, find_end, find_is, snoc_cases}
use Rattle.lengths.specs.Forests.{Forest, nil, node, relabel, width, trees, sub, sub_eq}

abbrev pub Ent : Type 0
Ent = ℕ × List ℕ

-- the test by which an entry equal to k is looked for
abbrev pub is : Ent → Ent → Bool
is k x = eqb x.0 k.0 && same x.1 k.1

-- an entry's place; the store with the entry in it
unfoldable pub at : Ent → List Ent → ℕ
at k st = find (is k) st

unfoldable pub put : Ent → List Ent → List Ent
put k st = pick (found (is k) st) st (st ++ (k ∷ []))

abbrev pub stmt_S : List Ent → ℕ → ℕ
stmt_S st i = (get_or st i (0, [])).0

abbrev pub kids_S : List Ent → ℕ → List ℕ
kids_S st i = (get_or st i (0, [])).1

-- the child references of a store
unfoldable pub refs : List Ent → ℕ
refs [] = 0
refs (k ∷ st) = length k.1 + refs st

-- the places of a forest's roots in a store
unfoldable pub look : List Ent → Forest → List ℕ
look st nil = []
look st (node s c b) = at (s, look st c) st ∷ look st b

unfoldable pub intern : Forest → List Ent → List Ent
unfolding look
intern nil st = st
intern (node s c b) st = let st1 = intern c st in intern b (put (s, look st1 c) st1)

-- ---- one entry

pub is_self : (k : Ent) → is k k ≡ true
is_self k = rw (of_T (eqb k.0 k.0) (eqb_refl k.0)) (same_refl k.1)

pub is_same : (k l : Ent) → is k l ≡ true → l ≡ k
is_same k l e =
    let h = and_yes (eqb l.0 k.0) (same l.1 k.1) (T_of e) in
    λ i. (eqb→eq l.0 k.0 h.0 i, same_is l.1 k.1 h.1 i)

-- what stands at an entry's place
pub at_is : (k : Ent) (st : List Ent) → found (is k) st ≡ true → get_or st (at k st) (0, []) ≡ k
unfolding at
at_is k st h = is_same k _ (find_is (is k) st (0, []) h)

-- the store grew: what was found is found at its old place
abbrev pub Le : List Ent → List Ent → Type 0
Le st st' = (k : Ent) → found (is k) st ≡ true → (found (is k) st' ≡ true) × (at k st' ≡ at k st)

le_id : (st : List Ent) → Le st st
le_id st k e = (e, refl)

le_then : (a b c : List Ent) → Le a b → Le b c → Le a c
le_then a b c f g k e = let x = f k e in let y = g k x.0 in (y.0, y.1 ∙ x.1)

pub put_known : (k : Ent) (st : List Ent) → found (is k) st ≡ true → put k st ≡ st
unfolding put
put_known k st e = rw e

pub put_new : (k : Ent) (st : List Ent) → found (is k) st ≡ false → put k st ≡ st ++ (k ∷ [])
unfolding put
put_new k st e = rw e

pub put_le : (k : Ent) (st : List Ent) → Le st (put k st)
unfolding at
put_le k st l e =
    boole (found (is k) st)
    (λ h. rw (put_known k st h) (e, refl))
    (λ h. rw (put_new k st h) (found_more (is l) st (k ∷ []) e, find_more (is l) st (k ∷ []) e))

put_in : (k : Ent) (st : List Ent) → found (is k) (put k st) ≡ true
put_in k st =
    boole (found (is k) st) (λ h. rw (put_known k st h) h) (λ h. rw (put_new k st h) (found_end (is k) st k (is_self k)))

put_at : (k : Ent) (st : List Ent) → at k (put k st) ≡ at k st
unfolding at
put_at k st =
    boole (found (is k) st)
    (λ h. rw (put_known k st h))
    (λ h. rw (put_new k st h) (find_end (is k) st k (is_self k) h ∙ sym (find_none (is k) st h)))

-- ---- how large a store is

pub refs_end : (st : List Ent) (k : Ent) → refs (st ++ (k ∷ [])) ≡ refs st + length k.1
unfolding refs
refs_end [] k = omega arith
refs_end (x ∷ st) k = omega (arith, refs_end st k)

abbrev pub Grow : List Ent → List Ent → Type 0
Grow a b = (length a ≤ length b) × (refs a ≤ refs b)

pub put_grow : (k : Ent) (st : List Ent) → Grow st (put k st)
put_grow k st =
    boole (found (is k) st)
    (λ h. rw (put_known k st h) (omega arith))
    (λ h. rw (put_new k st h) (omega (arith, length-append st (k ∷ [])), omega (arith, refs_end st k)))

pub intern_grow : (t : Forest) (st : List Ent) → Grow st (intern t st)
unfolding intern
intern_grow nil st = omega arith
intern_grow (node s c b) st =
    let st1 = intern c st in
    let k : Ent = (s, look st1 c) in
    omega (arith, intern_grow c st, put_grow k st1, intern_grow b (put k st1))

-- ---- every tree of the forest is in the store

abbrev pub In : List Ent → Forest → Type 0
In st nil = Unit
In st (node s c b) = In st c × (found (is (s, look st c)) st ≡ true) × In st b

pub in_more : (st st' : List Ent) → Le st st' → (t : Forest) → In st t → In st' t × (look st' t ≡ look st t)
unfolding look
in_more st st' le nil h = (tt, refl)
in_more st st' le (node s c b) h =
    let x = in_more st st' le c h.0 in
    let y = le (s, look st c) h.1 in
    let z = in_more st st' le b h.2 in
    ((x.0, rw x.1 y.0, z.0), rw (x.1, z.1, y.1))

intern_known : (t : Forest) (st : List Ent) → In st t → intern t st ≡ st
unfolding intern
intern_known nil st h = refl
intern_known (node s c b) st h =
    rw (intern_known c st h.0, put_known (s, look st c) st h.1) (intern_known b st h.2)

intern_le : (t : Forest) (st : List Ent) → Le st (intern t st)
unfolding intern
intern_le nil st = le_id st
intern_le (node s c b) st =
    let st1 = intern c st in
    let k : Ent = (s, look st1 c) in
    le_then st st1 _ (intern_le c st) (le_then st1 (put k st1) _ (put_le k st1) (intern_le b (put k st1)))

-- after a tree and the forest behind it the children are where they were, and the tree is there
node_kept : (s : ℕ) (c b : Forest) (st : List Ent) → In (intern c st) c
    → In (intern (node s c b) st) c
    × (look (intern (node s c b) st) c ≡ look (intern c st) c)
    × (found (is (s, look (intern c st) c)) (intern (node s c b) st) ≡ true)
    × (at (s, look (intern c st) c) (intern (node s c b) st) ≡ at (s, look (intern c st) c) (intern c st))
unfolding intern
node_kept s c b st h =
    let st1 = intern c st in
    let k : Ent = (s, look st1 c) in
    let st2 = put k st1 in
    let ic = in_more st1 st2 (put_le k st1) c h in
    let jc = in_more st2 (intern b st2) (intern_le b st2) c ic.0 in
    let kept = intern_le b st2 k (put_in k st1) in
    (jc.0, jc.1 ∙ ic.1, kept.0, kept.1 ∙ put_at k st1)

pub intern_in : (t : Forest) (st : List Ent) → In (intern t st) t
unfolding intern
intern_in nil st = tt
intern_in (node s c b) st =
    let st1 = intern c st in
    let m = node_kept s c b st (intern_in c st) in
    (m.0, rw m.1 m.2, intern_in b (put (s, look st1 c) st1))

-- where interning puts a tree followed by a forest
pub look_node : (s : ℕ) (c b : Forest) (st : List Ent)
    → look (intern (node s c b) st) (node s c b)
    ≡ at (s, look (intern c st) c) (intern c st) ∷ look (intern b (put (s, look (intern c st) c) (intern c st))) b
unfolding intern look
look_node s c b st =
    let m = node_kept s c b st (intern_in c st) in
    rw m.1 (ap (λ (i : ℕ). i ∷ look (intern (node s c b) st) b) m.3)

-- a tree that is in the store adds nothing
pub intern_skip : (s : ℕ) (c b : Forest) (st : List Ent) → In st c → found (is (s, look st c)) st ≡ true
    → intern (node s c b) st ≡ intern b st
unfolding intern
intern_skip s c b st h e = rw (intern_known c st h, put_known (s, look st c) st e)

pub look_skip : (s : ℕ) (c b : Forest) (st : List Ent) → In st c → found (is (s, look st c)) st ≡ true
    → look (intern b st) (node s c b) ≡ at (s, look st c) st ∷ look (intern b st) b
unfolding look
look_skip s c b st h e =
    let x = in_more st (intern b st) (intern_le b st) c h in
    rw x.1 (ap (λ (i : ℕ). i ∷ look (intern b st) b) (intern_le b st (s, look st c) e).1)

pub look_length : (st : List Ent) (f : ℕ → ℕ) (t : Forest) → length (look st (relabel f t)) ≡ width t
unfolding look
look_length st f nil = refl
look_length st f (node e c b) = ap suc (look_length st f b)

-- ---- children lie below; what is in such a store unfolds to itself

abbrev pub Wf : List Ent → Type 0
Wf st = (i : ℕ) → All (λ k. k < i) (kids_S st i)

look_below : (st : List Ent) (t : Forest) → In st t → All (λ i. i < length st) (look st t)
unfolding look at
look_below st nil h = tt
look_below st (node s c b) h = (found_lt (is (s, look st c)) st h.1, look_below st b h.2)

wf_put : (k : Ent) (st : List Ent) → All (λ i. i < length st) k.1 → Wf st → Wf (put k st)
wf_put k st l w =
    boole (found (is k) st)
    (λ h. rw (put_known k st h) w)
    (λ h. rw (put_new k st h) (snoc_cases (λ x i. All (λ j. j < i) x.1) st k (0, []) (λ i m. w i) l (λ i m. tt)))

pub wf_intern : (t : Forest) (st : List Ent) → Wf st → Wf (intern t st)
unfolding intern
wf_intern nil st w = w
wf_intern (node s c b) st w =
    let st1 = intern c st in
    wf_intern b _ (wf_put (s, look st1 c) st1 (look_below st1 c (intern_in c st)) (wf_intern c st w))

pub read_back : (st : List Ent) → Wf st → (t : Forest) → In st t → relabel (stmt_S st) (trees (sub (kids_S st)) (look st t)) ≡ t
unfolding look
read_back st w nil h = refl
read_back st w (node s c b) h =
    let k : Ent = (s, look st c) in
    let e : get_or st (at k st) (0, []) ≡ k = at_is k st h.1 in
    let rest = relabel (stmt_S st) (trees (sub (kids_S st)) (look st b)) in
    ap₂ (λ (x : ℕ) (y : Forest). node x y rest)
    (ap (λ (x : Ent). x.0) e)
    (ap (relabel (stmt_S st)) (sub_eq (kids_S st) w (at k st) ∙ ap (trees (sub (kids_S st))) (ap (λ (x : Ent). x.1) e))
    ∙ read_back st w c h.0)
    ∙ ap (node s c) (read_back st w b h.2)

-- ---- the tree of a graph's entry in a store

module _ (stmt : ℕ → ℕ) (kids : ℕ → List ℕ) where
  -- the statement forest below an entry, its place in a store, and that its tree is there
  abbrev pub tr : ℕ → Forest
  tr e = relabel stmt (sub kids e)

  abbrev pub idx : List Ent → ℕ → ℕ
  idx st e = at (stmt e, look st (tr e)) st

  abbrev pub Know : List Ent → ℕ → Type 0
  Know st e = In st (tr e) × (found (is (stmt e, look st (tr e))) st ≡ true)

  pub know_more : (st st' : List Ent) → Le st st' → (e : ℕ) → Know st e → Know st' e × (idx st' e ≡ idx st e)
  know_more st st' le e h =
      let x = in_more st st' le (tr e) h.0 in
      let y = le (stmt e, look st (tr e)) h.1 in
      ((x.0, rw x.1 y.0), rw x.1 y.1)

  pub knows_more : (st st' : List Ent) → Le st st' → (mk : List ℕ) → All (Know st) mk → All (Know st') mk × (map (idx st') mk ≡ map (idx st) mk)
  knows_more st st' le mk h = (
    all_map (Know st) (Know st') (λ e k. (know_more st st' le e k).0) mk h,
    map_all (idx st') (idx st) (Know st) (λ e k. (know_more st st' le e k).1) mk h,
  )

  -- an entry whose children are interned, and then itself
  pub know_put : (e : ℕ) (c : Forest) → c ≡ sub kids e → (st : List Ent) → In st (relabel stmt c)
      → Know (put (stmt e, look st (relabel stmt c)) st) e
      × (idx (put (stmt e, look st (relabel stmt c)) st) e ≡ at (stmt e, look st (relabel stmt c)) st)
  know_put e c g st h =
      let k : Ent = (stmt e, look st (relabel stmt c)) in
      let x = in_more st (put k st) (put_le k st) (relabel stmt c) h in
      rw (← g) ((x.0, rw x.1 (put_in k st)), rw x.1 (put_at k st))
