-- A table that is not refused passes each test; step lists as words; walks at any depth: what loops and recursions of code ask for.
use Rattle.std.specs.Prelude.{◌≡◌, refl, ℕ, zero, suc, ◌+◌, ◌*◌, ◌<◌, Bool, true, false, List, [], ◌∷◌, ◌++◌, map, length, get_or, T, ltb, eqb}
use Rattle.std.proofs.Common.{sym, ap, ap₂, ◌∙◌, not-suc-le-zero, add-zero, add-suc, suc-add, suc-ne-zero, add-one, arith, append_assoc, length-append, get_or-append-add, ltb→lt}
use Rattle.std.proofs.Math.ListN.{get_or-append}
use Rattle.std.proofs.Math.Facts.{and_yes}
use Rattle.laws.specs.Tools.{pick, total, all}
use Rattle.defs.specs.Check.{first_of, table_refusal, bad1, bad2, bad3, bad4, bad5, bad6, bad7}
use Rattle.defs.specs.Graph.{Graph, Tree, Trees, more_trees, node, trees_by, tree_within}
use Rattle.defs.specs.Steps.{Step, step_size, flat, step_words, list_children, normal_within, normal_steps, normal_size, normal_count, parent_word, index_word, NormalCountLaw, Walk, mark_of, each_child, finish, refer, visit}
use Rattle.defs.specs.Replay.{steps_in}

-- ---- a table that is not refused passes each test

pub record Good (w b : List ℕ) : Type 0 where
  pub ok1 : bad1 w ≡ false
  pub ok2 : bad2 w b ≡ false
  pub ok3 : bad3 w b ≡ false
  pub ok4 : bad4 w ≡ false
  pub ok5 : bad5 w ≡ false
  pub ok6 : bad6 w ≡ false
  pub ok7 : bad7 w ≡ false

pub passes : (fails : Bool) (k rest : ℕ) → pick fails (suc k) rest ≡ 0 → (fails ≡ false) × (rest ≡ 0)
passes true k rest e = absurd (suc-ne-zero k e)
passes false k rest e = (refl, e)

pub good : (w b : List ℕ) → table_refusal w b ≡ 0 → Good w b
unfolding table_refusal first_of
good w b e =
    let p1 = passes (bad1 w) _ _ e in
    let p2 = passes (bad2 w b) _ _ p1.1 in
    let p3 = passes (bad3 w b) _ _ p2.1 in
    let p4 = passes (bad4 w) _ _ p3.1 in
    let p5 = passes (bad5 w) _ _ p4.1 in
    let p6 = passes (bad6 w) _ _ p5.1 in
    let p7 = passes (bad7 w) _ _ p6.1 in
    record { ok1 = p1.0; ok2 = p2.0; ok3 = p3.0; ok4 = p4.0; ok5 = p5.0; ok6 = p6.0; ok7 = p7.0 }

-- ---- one more step: the laws that a loop over a list asks for

pub flat_append : (xs ys : List Step) → flat (xs ++ ys) ≡ flat xs ++ flat ys
unfolding flat
flat_append [] ys = refl
flat_append (t ∷ ts) ys = ap (λ (r : List ℕ). step_words t ++ r) (flat_append ts ys) ∙ sym (append_assoc (step_words t) (flat ts) (flat ys))

pub flat_length : (ts : List Step) → length (flat ts) ≡ step_size * length ts
unfolding flat step_words
flat_length [] = refl
flat_length (t ∷ ts) = omega (arith, flat_length ts)

-- word j of step i
pub flat_at : (ts : List Step) (d : Step) (i j : ℕ) → i < length ts → j < step_size → get_or (flat ts) (step_size * i + j) 0 ≡ get_or (step_words (get_or ts i d)) j 0
unfolding flat step_words
flat_at [] d i j l m = absurd (omega arith)
flat_at (t ∷ ts) d zero j l m = let e : step_size * 0 + j ≡ j = omega arith in rw e (get_or-append (step_words t) (flat ts) 0 j m)
flat_at (t ∷ ts) d (suc i) j l m =
    let e : step_size * suc i + j ≡ step_size + (step_size * i + j) = omega arith in
    rw e (get_or-append-add (step_words t) (flat ts) (step_size * i + j) 0 ∙ flat_at ts d i j (omega arith) m)

-- the words of a step list hold that list
pub steps_flat : (ts : List Step) → steps_in (flat ts) ≡ ts
unfolding steps_in flat step_words
steps_flat [] = refl
steps_flat (t ∷ ts) = ap (λ (r : List Step). t ∷ r) (steps_flat ts)

pub each_child_append : (f : ℕ → ℕ → Walk → Walk) (j : ℕ) (xs ys : List ℕ) (s : Walk)
    → each_child f j (xs ++ ys) s ≡ each_child f (j + length xs) ys (each_child f j xs s)
unfolding each_child
each_child_append f j [] ys s = ap (λ (k : ℕ). each_child f k ys s) (sym (add-zero j))
each_child_append f j (x ∷ xs) ys s =
    each_child_append f (suc j) xs ys (f x j s)
    ∙ ap (λ (k : ℕ). each_child f k ys (each_child f (suc j) xs (f x j s))) (suc-add j (length xs) ∙ sym (add-suc j (length xs)))

-- ---- the count of normal steps is the length of the normal list

children_size : (steps : ℕ → ℕ → List Step) (size : ℕ → ℕ) → ((c j : ℕ) → length (steps c j) ≡ size c) → (j : ℕ) (cs : List ℕ)
    → length (list_children steps j cs) ≡ total (map size cs)
unfolding list_children
children_size steps size h j [] = refl
children_size steps size h j (c ∷ cs) =
    length-append (steps c j) (list_children steps (suc j) cs) ∙ ap₂ (λ (a b : ℕ). a + b) (h c j) (children_size steps size h (suc j) cs)

within_size : (g : Graph) (explicit : Bool) (depth e parent index : ℕ) → length (normal_within g explicit depth e parent index) ≡ normal_size g depth e
unfolding normal_within normal_size
within_size g explicit zero e parent index = refl
within_size g explicit (suc depth) e parent index =
    length-append (list_children (λ c j. normal_within g explicit depth c (parent_word explicit (g.stmt e)) (index_word explicit j)) 0 (g.kids e)) _
    ∙ add-one _
    ∙ ap suc (children_size (λ c j. normal_within g explicit depth c (parent_word explicit (g.stmt e)) (index_word explicit j)) (λ c. normal_size g depth c) (λ c j. within_size g explicit depth c _ _) 0 (g.kids e))

pub normal_count_lem : NormalCountLaw
unfolding NormalCountLaw normal_steps normal_count
normal_count_lem g q explicit = within_size g explicit (suc q) q 0 0

-- ---- any depth past the entry's number gives the same: what a recursion on falling child numbers asks for

-- the children of the first n entries lie below their parents
unfoldable pub Falls : Graph → ℕ → Type 0
Falls g n = (e : ℕ) → e < n → T (all (λ c. ltb c e) (g.kids e))

pub trees_cong : (f h : ℕ → Tree) (e : ℕ) → ((c : ℕ) → c < e → f c ≡ h c) → (cs : List ℕ) → T (all (λ c. ltb c e) cs) → trees_by f cs ≡ trees_by h cs
unfolding trees_by all
trees_cong f h e same [] t = refl
trees_cong f h e same (c ∷ cs) t =
    let p = and_yes (ltb c e) (all (λ d. ltb d e) cs) t in
    ap₂ (λ (a : Tree) (b : Trees). more_trees a b) (same c (ltb→lt c e p.0)) (trees_cong f h e same cs p.1)

pub tree_depth : (g : Graph) (n : ℕ) → Falls g n → (d₁ d₂ e : ℕ) → e < n → e < d₁ → e < d₂ → tree_within g d₁ e ≡ tree_within g d₂ e
unfolding tree_within Falls
tree_depth g n falls zero d₂ e hn h₁ h₂ = absurd (not-suc-le-zero h₁)
tree_depth g n falls (suc d₁) zero e hn h₁ h₂ = absurd (not-suc-le-zero h₂)
tree_depth g n falls (suc d₁) (suc d₂) e hn h₁ h₂ =
    ap (λ (r : Trees). node (g.stmt e) r)
    (trees_cong (tree_within g d₁) (tree_within g d₂) e (λ c hc. tree_depth g n falls d₁ d₂ c (omega arith) (omega arith) (omega arith)) (g.kids e) (falls e hn))

sizes_cong : (f h : ℕ → ℕ) (e : ℕ) → ((c : ℕ) → c < e → f c ≡ h c) → (cs : List ℕ) → T (all (λ c. ltb c e) cs) → total (map f cs) ≡ total (map h cs)
unfolding all
sizes_cong f h e same [] t = refl
sizes_cong f h e same (c ∷ cs) t =
    let p = and_yes (ltb c e) (all (λ d. ltb d e) cs) t in
    ap₂ (λ (a b : ℕ). a + b) (same c (ltb→lt c e p.0)) (sizes_cong f h e same cs p.1)

pub size_depth : (g : Graph) (n : ℕ) → Falls g n → (d₁ d₂ e : ℕ) → e < n → e < d₁ → e < d₂ → normal_size g d₁ e ≡ normal_size g d₂ e
unfolding normal_size Falls
size_depth g n falls zero d₂ e hn h₁ h₂ = absurd (not-suc-le-zero h₁)
size_depth g n falls (suc d₁) zero e hn h₁ h₂ = absurd (not-suc-le-zero h₂)
size_depth g n falls (suc d₁) (suc d₂) e hn h₁ h₂ =
    ap suc (sizes_cong (normal_size g d₁) (normal_size g d₂) e (λ c hc. size_depth g n falls d₁ d₂ c (omega arith) (omega arith) (omega arith)) (g.kids e) (falls e hn))

lists_cong : (f h : ℕ → ℕ → List Step) (e : ℕ) → ((c j : ℕ) → c < e → f c j ≡ h c j) → (j : ℕ) (cs : List ℕ) → T (all (λ c. ltb c e) cs)
    → list_children f j cs ≡ list_children h j cs
unfolding list_children all
lists_cong f h e same j [] t = refl
lists_cong f h e same j (c ∷ cs) t =
    let p = and_yes (ltb c e) (all (λ d. ltb d e) cs) t in
    ap₂ (λ (a b : List Step). a ++ b) (same c j (ltb→lt c e p.0)) (lists_cong f h e same (suc j) cs p.1)

pub normal_depth : (g : Graph) (n : ℕ) → Falls g n → (explicit : Bool) (d₁ d₂ e parent index : ℕ) → e < n → e < d₁ → e < d₂
    → normal_within g explicit d₁ e parent index ≡ normal_within g explicit d₂ e parent index
unfolding normal_within Falls
normal_depth g n falls explicit zero d₂ e parent index hn h₁ h₂ = absurd (not-suc-le-zero h₁)
normal_depth g n falls explicit (suc d₁) zero e parent index hn h₁ h₂ = absurd (not-suc-le-zero h₂)
normal_depth g n falls explicit (suc d₁) (suc d₂) e parent index hn h₁ h₂ =
    ap (λ (r : List Step). r ++ record { ref = 0; mark = 0; stmt = g.stmt e; parent = parent; index = index } ∷ [])
    (lists_cong _ _ e (λ c j hc. normal_depth g n falls explicit d₁ d₂ c _ _ (omega arith) (omega arith) (omega arith)) 0 (g.kids e) (falls e hn))

walks_cong : (f h : ℕ → ℕ → Walk → Walk) (e : ℕ) → ((c j : ℕ) (s : Walk) → c < e → f c j s ≡ h c j s) → (j : ℕ) (cs : List ℕ) → T (all (λ c. ltb c e) cs)
    → (s : Walk) → each_child f j cs s ≡ each_child h j cs s
unfolding each_child all
walks_cong f h e same j [] t s = refl
walks_cong f h e same j (c ∷ cs) t s =
    let p = and_yes (ltb c e) (all (λ d. ltb d e) cs) t in
    ap (λ (r : Walk). each_child f (suc j) cs r) (same c j s (ltb→lt c e p.0)) ∙ walks_cong f h e same (suc j) cs p.1 (h c j s)

pub visit_depth : (g : Graph) (n : ℕ) → Falls g n → (ps : List ℕ) (explicit : Bool) (d₁ d₂ e parent index : ℕ) (s : Walk) → e < n → e < d₁ → e < d₂
    → visit g ps explicit d₁ e parent index s ≡ visit g ps explicit d₂ e parent index s
unfolding visit Falls
visit_depth g n falls ps explicit zero d₂ e parent index s hn h₁ h₂ = absurd (not-suc-le-zero h₁)
visit_depth g n falls ps explicit (suc d₁) zero e parent index s hn h₁ h₂ = absurd (not-suc-le-zero h₂)
visit_depth g n falls ps explicit (suc d₁) (suc d₂) e parent index s hn h₁ h₂ =
    ap (λ (r : Walk). pick (eqb (mark_of s e) 0) (finish g ps e parent index r) (refer e parent index s))
    (walks_cong _ _ e (λ c j r hc. visit_depth g n falls ps explicit d₁ d₂ c _ _ r (omega arith) (omega arith) (omega arith)) 0 (g.kids e) (falls e hn) s)
