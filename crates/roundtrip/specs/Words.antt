-- A store as the words that a replay writes: three to an entry, then their children. What is read from them is the store.
use Rattle.std.specs.Prelude.{◌≡◌, refl, ℕ, zero, suc, ◌+◌, ◌*◌, ◌<◌, Bool, ◌&&◌, List, [], ◌∷◌, ◌++◌, length, get_or, take, drop, eqb}
use Rattle.std.proofs.Common.{sym, ap, ap₂, ◌∙◌, zero-add, arith, append_assoc, append-nil, length-append}
use Rattle.std.proofs.Math.Decide.{dec_lt}
use Rattle.std.proofs.Math.ListN.{get_or-eq_default}
use Rattle.std.proofs.Math.Seq.{take-append_seam, drop-append-add}
use Rattle.laws.specs.Tools.{part, same, first_from}
use Rattle.defs.specs.Table.{children_in}
use Rattle.defs.specs.Graph.{Graph, graph_in}
use Rattle.defs.specs.Replay.{Replay, built_count, lookup}
use Rattle.laws.specs.Lists.{boole, find}
use Rattle.roundtrip.specs.Stores.{Ent, is, at, stmt_S, kids_S, refs}

-- three words an entry: statement, where its children start, how many
abbrev pub ents : ℕ → List Ent → List ℕ
ents o [] = []
ents o (k ∷ st) = k.0 ∷ o ∷ length k.1 ∷ ents (o + length k.1) st

abbrev pub chil : List Ent → List ℕ
chil [] = []
chil (k ∷ st) = k.1 ++ chil st

-- a replay that has built this store
abbrev pub rep : List Ent → List ℕ → List ℕ → Replay
rep st stk ms = record { built = ents 0 st; kids = chil st; stack = stk; named = ms }

-- ---- lengths, and one entry more

pub ents_length : (o : ℕ) (st : List Ent) → length (ents o st) ≡ 3 * length st
ents_length o [] = refl
ents_length o (k ∷ st) = omega (arith, ents_length (o + length k.1) st)

pub chil_length : (st : List Ent) → length (chil st) ≡ refs st
unfolding refs
chil_length [] = refl
chil_length (k ∷ st) = omega (arith, length-append k.1 (chil st), chil_length st)

pub built_count_lem : (st : List Ent) (stk ms : List ℕ) → built_count (rep st stk ms) ≡ length st
built_count_lem st stk ms = omega (arith, ents_length 0 st)

ents_end : (o : ℕ) (st : List Ent) (k : Ent) → ents o (st ++ (k ∷ [])) ≡ ents o st ++ (k.0 ∷ (o + refs st) ∷ length k.1 ∷ [])
unfolding refs
ents_end o [] k = ap (λ (j : ℕ). k.0 ∷ j ∷ length k.1 ∷ []) (omega arith)
ents_end o (x ∷ st) k =
    ap (λ (l : List ℕ). x.0 ∷ o ∷ length x.1 ∷ l)
    (ents_end (o + length x.1) st k ∙ ap (λ (j : ℕ). ents (o + length x.1) st ++ (k.0 ∷ j ∷ length k.1 ∷ [])) (omega arith))

pub ents_more : (st : List Ent) (k : Ent) → ents 0 (st ++ (k ∷ [])) ≡ ents 0 st ++ (k.0 ∷ length (chil st) ∷ length k.1 ∷ [])
ents_more st k = ents_end 0 st k ∙ ap (λ (j : ℕ). ents 0 st ++ (k.0 ∷ j ∷ length k.1 ∷ [])) (omega (arith, chil_length st))

pub chil_more : (st : List Ent) (k : Ent) → chil (st ++ (k ∷ [])) ≡ chil st ++ k.1
chil_more [] k = append-nil k.1
chil_more (x ∷ st) k = ap (λ (l : List ℕ). x.1 ++ l) (chil_more st k) ∙ sym (append_assoc x.1 (chil st) k.1)

-- ---- the words read

-- child starts are running sums
abbrev pub before : List Ent → ℕ → ℕ
before [] i = 0
before (k ∷ st) zero = 0
before (k ∷ st) (suc i) = length k.1 + before st i

three : (i : ℕ) → 3 * suc i ≡ suc (suc (suc (3 * i)))
three i = omega arith

pub ent_stmt : (o : ℕ) (st : List Ent) (i : ℕ) → get_or (ents o st) (3 * i) 0 ≡ stmt_S st i
ent_stmt o [] i = refl
ent_stmt o (k ∷ st) zero = refl
ent_stmt o (k ∷ st) (suc i) = rw (three i) (ent_stmt (o + length k.1) st i)

pub ent_start : (o : ℕ) (st : List Ent) (i : ℕ) → i < length st → get_or (ents o st) (suc (3 * i)) 0 ≡ o + before st i
ent_start o [] i l = absurd (omega arith)
ent_start o (k ∷ st) zero l = omega arith
ent_start o (k ∷ st) (suc i) l = rw (three i) (ent_start (o + length k.1) st i (omega arith) ∙ omega arith)

pub ent_count : (o : ℕ) (st : List Ent) (i : ℕ) → get_or (ents o st) (suc (suc (3 * i))) 0 ≡ length (kids_S st i)
ent_count o [] i = refl
ent_count o (k ∷ st) zero = refl
ent_count o (k ∷ st) (suc i) = rw (three i) (ent_count (o + length k.1) st i)

pub ent_kids : (st : List Ent) (i : ℕ) → take (length (kids_S st i)) (drop (before st i) (chil st)) ≡ kids_S st i
ent_kids [] i = refl
ent_kids (k ∷ st) zero = take-append_seam k.1 (chil st)
ent_kids (k ∷ st) (suc i) = rw (drop-append-add k.1 (chil st) (before st i)) (ent_kids st i)

pub graph_stmt : (st : List Ent) (i : ℕ) → (graph_in (ents 0 st) (chil st)).stmt i ≡ stmt_S st i
unfolding graph_in
graph_stmt st i = ent_stmt 0 st i

pub graph_kids : (st : List Ent) (i : ℕ) → (graph_in (ents 0 st) (chil st)).kids i ≡ kids_S st i
unfolding graph_in children_in
graph_kids st i =
    let two : 3 * i + 2 ≡ suc (suc (3 * i)) = omega arith in
    let one : 3 * i + 1 ≡ suc (3 * i) = omega arith in
    elim (dec_lt i (length st)) [
      | yes h ↦
          ap₂ (λ (a b : ℕ). part a b (chil st))
          (ap (λ (j : ℕ). get_or (ents 0 st) j 0) one ∙ ent_start 0 st i h ∙ zero-add (before st i))
          (ap (λ (j : ℕ). get_or (ents 0 st) j 0) two ∙ ent_count 0 st i)
          ∙ ent_kids st i
      | no h ↦
          let none : get_or st i (0, []) ≡ (0, []) = get_or-eq_default st (0, []) {n = i} (omega arith) in
          ap (λ (b : ℕ). part (get_or (ents 0 st) (3 * i + 1) 0) b (chil st))
          (ap (λ (j : ℕ). get_or (ents 0 st) j 0) two ∙ ent_count 0 st i ∙ ap (λ (x : Ent). length x.1) none)
          ∙ sym (ap (λ (x : Ent). x.1) none)
    ]

-- ---- lookup finds the entry's place

first_find : {A : Type 0} (test : ℕ → Bool) (p : A → Bool) (d : A) (start : ℕ) (xs : List A)
    → ((i : ℕ) → i < length xs → test (start + i) ≡ p (get_or xs i d)) → first_from test start (length xs) ≡ start + find p xs
unfolding first_from
first_find test p d start [] h = omega arith
first_find test p d start (x ∷ xs) h =
    let here : test start ≡ p x = ap test (omega arith) ∙ h 0 (omega arith) in
    let rest = first_find test p d (suc start) xs (λ i l. ap test (omega arith) ∙ h (suc i) (omega arith)) in
    rw here (boole (p x) (λ y. rw y (omega arith)) (λ y. rw y (rest ∙ omega arith)))

pub lookup_is : (st : List Ent) (stk ms : List ℕ) (k : ℕ) (cs : List ℕ) → lookup (rep st stk ms) k cs ≡ at (k, cs) st
unfolding lookup at
lookup_is st stk ms k cs =
    let g : Graph = graph_in (ents 0 st) (chil st) in
    let test : ℕ → Bool = λ e. eqb (g.stmt e) k && same (g.kids e) cs in
    ap (first_from test 0) (built_count_lem st stk ms)
    ∙ first_find test (is (k, cs)) (0, []) 0 st
    (λ i l. ap₂ (λ (s : ℕ) (c : List ℕ). eqb s k && same c cs) (ap g.stmt (omega arith) ∙ graph_stmt st i) (ap g.kids (omega arith) ∙ graph_kids st i))
    ∙ omega arith
