-- An explicit list and the plain one have the same reference, mark and statement at each step, so the same length.
use Rattle.std.specs.Prelude.{◌≡◌, refl, ℕ, zero, suc, Bool, false, List, [], ◌∷◌, ◌++◌, map, length, replicate, eqb}
use Rattle.std.proofs.Common.{sym, ap, ap₂, ◌∙◌}
use Rattle.std.proofs.lemmas.List.{map-append, length-map}
use Rattle.laws.specs.Lists.{boole, map_snoc}
use Rattle.defs.specs.Graph.{Graph}
use Rattle.defs.specs.Steps.{Step, Walk, mark_of, parent_word, index_word, refer, finish, each_child, visit, packed_with, list_children, normal_within, normal_steps}

-- the step as a list that is not explicit has it: the last two words 0
abbrev pub plain : Step → Step
plain t = record { ref = t.ref; mark = t.mark; stmt = t.stmt; parent = 0; index = 0 }

-- ---- the packed walk

-- a walk with its steps made plain
abbrev pub plain_walk : Walk → Walk
plain_walk s = record { marks = s.marks; given = s.given; out = map plain s.out }

-- a back reference carries the parent and index words, and nothing else of it depends on them
refer_plain : (e parent index : ℕ) (s : Walk) → plain_walk (refer e parent index s) ≡ refer e 0 0 (plain_walk s)
unfolding refer
refer_plain e parent index s = ap (λ (o : List Step). record { marks = s.marks; given = s.given; out = o }) (map_snoc plain s.out _)

-- an entry's own step likewise
finish_plain : (g : Graph) (ps : List ℕ) (e parent index : ℕ) (s : Walk) → plain_walk (finish g ps e parent index s) ≡ finish g ps e 0 0 (plain_walk s)
unfolding finish
finish_plain g ps e parent index s =
    let t : Walk = finish g ps e parent index s in
    ap (λ (o : List Step). record { marks = t.marks; given = t.given; out = o }) (map_snoc plain s.out _)

-- the children, where each child's visit is known to do the same
each_plain : (f h : ℕ → ℕ → Walk → Walk) → ((c j : ℕ) (s : Walk) → plain_walk (f c j s) ≡ h c j (plain_walk s))
    → (j : ℕ) (cs : List ℕ) (s : Walk) → plain_walk (each_child f j cs s) ≡ each_child h j cs (plain_walk s)
unfolding each_child
each_plain f h same j [] s = refl
each_plain f h same j (c ∷ cs) s = each_plain f h same (suc j) cs (f c j s) ∙ ap (each_child h (suc j) cs) (same c j s)

-- a visit in an explicit list does what it does in a plain one, whatever parent and index words it carries
pub visit_plain : (g : Graph) (ps : List ℕ) (explicit : Bool) (depth e parent index : ℕ) (s : Walk)
    → plain_walk (visit g ps explicit depth e parent index s) ≡ visit g ps false depth e 0 0 (plain_walk s)
unfolding visit
visit_plain g ps explicit zero e parent index s = refl
visit_plain g ps explicit (suc depth) e parent index s =
    let f : ℕ → ℕ → Walk → Walk = λ c j. visit g ps explicit depth c (parent_word explicit (g.stmt e)) (index_word explicit j) in
    let h : ℕ → ℕ → Walk → Walk = λ c j. visit g ps false depth c 0 0 in
    let below = each_plain f h (λ c j r. visit_plain g ps explicit depth c (parent_word explicit (g.stmt e)) (index_word explicit j) r) 0 (g.kids e) s in
    boole (eqb (mark_of s e) 0)
    (λ y. rw y (finish_plain g ps e parent index (each_child f 0 (g.kids e) s) ∙ ap (finish g ps e 0 0) below))
    (λ y. rw y (refer_plain e parent index s))

-- the packed list with its steps made plain is the packed list that is not explicit
pub packed_plain : (ps : List ℕ) (g : Graph) (n q : ℕ) (explicit : Bool) → map plain (packed_with ps g n q explicit) ≡ packed_with ps g n q false
unfolding packed_with
packed_plain ps g n q explicit = ap (λ (s : Walk). s.out) (visit_plain g ps explicit (suc q) q 0 0 (record { marks = replicate n 0; given = 0; out = [] }))

-- so both have the same length
pub packed_same_length : (ps : List ℕ) (g : Graph) (n q : ℕ) (explicit : Bool) → length (packed_with ps g n q explicit) ≡ length (packed_with ps g n q false)
packed_same_length ps g n q explicit = sym (length-map (packed_with ps g n q explicit) plain) ∙ ap length (packed_plain ps g n q explicit)

-- ---- the normal walk

-- the children, where each child's list is known to be alike
children_plain : (f h : ℕ → ℕ → List Step) → ((c j : ℕ) → map plain (f c j) ≡ h c j)
    → (j : ℕ) (cs : List ℕ) → map plain (list_children f j cs) ≡ list_children h j cs
unfolding list_children
children_plain f h same j [] = refl
children_plain f h same j (c ∷ cs) =
    map-append plain (f c j) (list_children f (suc j) cs) ∙ ap₂ (λ (a b : List Step). a ++ b) (same c j) (children_plain f h same (suc j) cs)

-- the list of an entry, at any depth
within_plain : (g : Graph) (explicit : Bool) (depth e parent index : ℕ) → map plain (normal_within g explicit depth e parent index) ≡ normal_within g false depth e 0 0
unfolding normal_within
within_plain g explicit zero e parent index = refl
within_plain g explicit (suc depth) e parent index =
    let f : ℕ → ℕ → List Step = λ c j. normal_within g explicit depth c (parent_word explicit (g.stmt e)) (index_word explicit j) in
    let h : ℕ → ℕ → List Step = λ c j. normal_within g false depth c 0 0 in
    map_snoc plain (list_children f 0 (g.kids e)) _
    ∙ ap (λ (l : List Step). l ++ record { ref = 0; mark = 0; stmt = g.stmt e; parent = 0; index = 0 } ∷ [])
    (children_plain f h (λ c j. within_plain g explicit depth c (parent_word explicit (g.stmt e)) (index_word explicit j)) 0 (g.kids e))

-- the normal list with its steps made plain is the normal list that is not explicit (its length is `normal_count_lem` of module Laws)
pub normal_plain : (g : Graph) (q : ℕ) (explicit : Bool) → map plain (normal_steps g q explicit) ≡ normal_steps g q false
unfolding normal_steps
normal_plain g q explicit = within_plain g explicit (suc q) q 0 0
