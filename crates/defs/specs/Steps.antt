-- Step lists of document 01: the packed walk, the normal walk, and the five words of a step.
use Rattle.std.specs.Prelude.{◌≡◌, ℕ, zero, suc, ◌+◌, Bool, ◌&&◌, List, [], ◌∷◌, ◌++◌, map, get_or, set, replicate, length, eqb, ltb}
use Rattle.laws.specs.Tools.{pick, keep, total}
use Rattle.defs.specs.Graph.{Graph}
use Rattle.defs.specs.Counts.{parents}

-- a step: reference (0 for a normal step), mark or 0, statement (0 for a reference), parent statement plus 1, hypothesis index
pub record Step : Type 0 where
  pub ref : ℕ
  pub mark : ℕ
  pub stmt : ℕ
  pub parent : ℕ
  pub index : ℕ

-- how many words that is
abbrev pub step_size : ℕ
step_size = 5

unfoldable pub step_words : Step → List ℕ
step_words t = t.ref ∷ t.mark ∷ t.stmt ∷ t.parent ∷ t.index ∷ []

-- a step list as words, five to a step
unfoldable pub flat : List Step → List ℕ
flat [] = []
flat (t ∷ ts) = step_words t ++ flat ts

abbrev pub is_normal : Step → Bool
is_normal t = eqb t.ref 0

-- the statements of the normal steps of a list, with repeats
abbrev pub normal_stmts : List Step → List ℕ
normal_stmts ts = map (λ (t : Step). t.stmt) (keep is_normal ts)

-- a child's last two words under a parent of statement k, as its j-th hypothesis; 0 unless the list is explicit
abbrev pub parent_word : Bool → ℕ → ℕ
parent_word explicit k = pick explicit (k + 1) 0

abbrev pub index_word : Bool → ℕ → ℕ
index_word explicit j = pick explicit j 0

-- ---- the packed walk

-- where it stands: each entry's mark (0: none), how many marks are given, the steps so far
pub record Walk : Type 0 where
  pub marks : List ℕ
  pub given : ℕ
  pub out : List Step

abbrev pub mark_of : Walk → ℕ → ℕ
mark_of s e = get_or s.marks e 0

-- an entry met again with a mark: a back reference
unfoldable pub refer : ℕ → ℕ → ℕ → Walk → Walk
refer e parent index s =
    record {
      marks = s.marks;
      given = s.given;
      out = s.out ++ record { ref = mark_of s e; mark = 0; stmt = 0; parent = parent; index = index } ∷ [];
    }

-- an entry gets a mark if it has children and more than one counted parent; childless entries are never marked
unfoldable pub gets_mark : Graph → (ps : List ℕ) → ℕ → Bool
gets_mark g ps e = ltb 0 (length (g.kids e)) && ltb 1 (get_or ps e 0)

-- after its children an entry lists itself, with the next mark from 1 if it gets one
unfoldable pub finish : Graph → List ℕ → ℕ → ℕ → ℕ → Walk → Walk
finish g ps e parent index s =
    let marked : Bool = gets_mark g ps e in
    let next : ℕ = suc s.given in
    record {
      marks = pick marked (set s.marks e next) s.marks;
      given = pick marked next s.given;
      out = s.out ++ record { ref = 0; mark = pick marked next 0; stmt = g.stmt e; parent = parent; index = index } ∷ [];
    }

-- the children in order, each with its index from j on
unfoldable pub each_child : (ℕ → ℕ → Walk → Walk) → ℕ → List ℕ → Walk → Walk
each_child visit j [] s = s
each_child visit j (c ∷ cs) s = each_child visit (suc j) cs (visit c j s)

-- visit entry e, with the parent and index words that its step is to carry
unfoldable pub visit : Graph → List ℕ → Bool → ℕ → ℕ → ℕ → ℕ → Walk → Walk
visit g ps explicit zero e parent index s = s
visit g ps explicit (suc depth) e parent index s =
    let below : Walk = each_child (λ c j. visit g ps explicit depth c (parent_word explicit (g.stmt e)) (index_word explicit j)) 0 (g.kids e) s in
    let unmarked : Walk = finish g ps e parent index below in
    let again : Walk = refer e parent index s in
    pick (eqb (mark_of s e) 0) unmarked again

-- the packed list of n entries from QED q, with their parent counts: no marks at first; the root carries 0 and 0
unfoldable pub packed_with : (ps : List ℕ) → Graph → (n q : ℕ) → Bool → List Step
packed_with ps g n q explicit = (visit g ps explicit (suc q) q 0 0 (record { marks = replicate n 0; given = 0; out = [] })).out

unfoldable pub packed_steps : Graph → (n q : ℕ) → Bool → List Step
packed_steps g n q explicit = packed_with (parents g n) g n q explicit

-- ---- the normal walk: no marks, everything repeated

unfoldable pub list_children : (ℕ → ℕ → List Step) → ℕ → List ℕ → List Step
list_children steps j [] = []
list_children steps j (c ∷ cs) = steps c j ++ list_children steps (suc j) cs

unfoldable pub normal_within : Graph → Bool → ℕ → ℕ → ℕ → ℕ → List Step
normal_within g explicit zero e parent index = []
normal_within g explicit (suc depth) e parent index =
    list_children (λ c j. normal_within g explicit depth c (parent_word explicit (g.stmt e)) (index_word explicit j)) 0 (g.kids e)
    ++ record { ref = 0; mark = 0; stmt = g.stmt e; parent = parent; index = index } ∷ []

unfoldable pub normal_steps : Graph → ℕ → Bool → List Step
normal_steps g q explicit = normal_within g explicit (suc q) q 0 0

-- how many steps the normal list has, without building it
unfoldable pub normal_size : Graph → ℕ → ℕ → ℕ
normal_size g zero e = 0
normal_size g (suc depth) e = suc (total (map (λ c. normal_size g depth c) (g.kids e)))

unfoldable pub normal_count : Graph → ℕ → ℕ
normal_count g q = normal_size g (suc q) q

-- the law (proved in module Laws): that is its length
unfoldable pub NormalCountLaw : Type 0
NormalCountLaw = (g : Graph) (q : ℕ) (explicit : Bool) → length (normal_steps g q explicit) ≡ normal_count g q
