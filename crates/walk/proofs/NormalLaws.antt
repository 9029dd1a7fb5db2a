-- What is left of the normal walk: a push leaves it as it was, a pop takes its head.
-- Assumes nothing.
use mathlib.Core.Path.{◌≡◌, refl, sym, ap, subst, ◌∙◌}
use mathlib.Core.Logic.{⊎_elim}
use mathlib.Core.Bool.{Bool, true, false}
use mathlib.Core.List.{List, [], ◌∷◌, ◌++◌, append_assoc, append-nil}
use Prim.Native.Nat.{ℕ, zero, suc, ◌+◌, ◌*◌, ◌-◌, ◌<◌, ◌≤◌}
use native.Mathlib.Nat.{eq-or-lt_of_le}
use native.Mathlib.Numerals.{add-one}
use native.Mathlib.Omega.{arith}
use lib.ListN.{length, get_or, set, length-set, drop_of_length-le}
use lib.Seq.{get_or-set_same, get_or-set_other, drop-cons}
use Rattle.defs.specs.Table.{word, max_statements, max_child_refs, entry_stmt_in, child_start_in, child_count_in}
use Rattle.defs.specs.Graph.{Graph, graph_in}
use Rattle.defs.specs.Steps.{Step, parent_word, index_word, list_children, normal_within, normal_steps}
use Rattle.defs.specs.Laws.{normal_depth}
use Rattle.defs.specs.Sections.{child_at}
use Rattle.walk.specs.Entries.{size, Entries, kids_length, kid_below, entries_fall}
use Rattle.walk.specs.Hyps.{parent_of, index_of}
use Rattle.walk.specs.Steps.{step}
use Rattle.walk.specs.Normal.{pair_size, entry_on, next_on, Stacked, rest, parent_at, index_at, left, Begins, came}
use Rattle.std.specs.Prelude.{Some, None}
use Rattle.walk.specs.declared.hyps.ParentHyp.{ParentHyp}
use Rattle.table.specs.declared.numbers.StatementNo.{StatementNo}

-- ---- of one entry

module _ (g : Graph) (explicit : Bool) where
  -- all of it: the entry's list
  rest_all : (parent index e : ℕ) → normal_within g explicit (suc e) e parent index ≡ rest g explicit parent index e 0
  unfolding normal_within rest
  rest_all parent index e = refl

  -- the next child's list, then the rest
  rest_more : (parent index e k : ℕ) → k < length (g.kids e)
      → rest g explicit parent index e k
      ≡ normal_within g explicit e (get_or (g.kids e) k 0) (parent_word explicit (g.stmt e)) (index_word explicit k) ++ rest g explicit parent index e (k + 1)
  unfolding rest list_children
  rest_more parent index e k h =
      rw (drop-cons (g.kids e) k 0 h, add-one k)
      (append_assoc (normal_within g explicit e (get_or (g.kids e) k 0) (parent_word explicit (g.stmt e)) (index_word explicit k)) _ (step 0 0 (g.stmt e) parent index ∷ []))

  -- no child left: itself
  rest_none : (parent index e k : ℕ) → length (g.kids e) ≤ k → rest g explicit parent index e k ≡ step 0 0 (g.stmt e) parent index ∷ []
  unfolding rest list_children
  rest_none parent index e k h = rw (drop_of_length-le (g.kids e) h)

-- ---- of the stack: the words below a pair are all that matters to what lies below it

module _ (es cs : List ℕ) (explicit : Bool) (s t : List ℕ) where
  parent_same : (d : ℕ) → ((j : ℕ) → j < pair_size * d → word s j ≡ word t j) → parent_at es explicit s d ≡ parent_at es explicit t d
  unfolding parent_at
  parent_same zero h = refl
  parent_same (suc d) h = rw (h (pair_size * d) (omega arith))

  index_same : (d : ℕ) → ((j : ℕ) → j < pair_size * d → word s j ≡ word t j) → index_at explicit s d ≡ index_at explicit t d
  unfolding index_at
  index_same zero h = refl
  index_same (suc d) h = rw (h (pair_size * d + 1) (omega arith))

  left_same : (d : ℕ) → ((j : ℕ) → j < pair_size * d → word s j ≡ word t j) → left es cs explicit s d ≡ left es cs explicit t d
  unfolding left
  left_same zero h = refl
  left_same (suc d) h =
      let a : entry_on s d ≡ entry_on t d = h (pair_size * d) (omega arith) in
      let b : next_on s d ≡ next_on t d = h (pair_size * d + 1) (omega arith) in
      let c : left es cs explicit s d ≡ left es cs explicit t d = left_same d (λ j l. h j (omega arith)) in
      let p : parent_at es explicit s d ≡ parent_at es explicit t d = parent_same d (λ j l. h j (omega arith)) in
      let i : index_at explicit s d ≡ index_at explicit t d = index_same d (λ j l. h j (omega arith)) in
      rw (a, b, c, p, i)

-- ---- a push

-- the stack with child c of the top pair pushed
abbrev pub pushed : List ℕ → ℕ → ℕ → List ℕ
pushed s d c = set (set (set s (pair_size * d + 1) (next_on s d + 1)) (pair_size * d + 2) c) (pair_size * d + 3) 0

-- the three stores, word by word
module _ (s : List ℕ) (i x y z : ℕ) where
  abbrev s1 : List ℕ
  s1 = set s (i + 1) x

  abbrev s2 : List ℕ
  s2 = set s1 (i + 2) y

  below_stores : (j : ℕ) → j < i + 1 → word (set s2 (i + 3) z) j ≡ word s j
  below_stores j h =
      get_or-set_other s2 (i + 3) j z 0 (λ e. let a : j ≡ i + 3 = e in omega arith)
      ∙ get_or-set_other s1 (i + 2) j y 0 (λ e. let a : j ≡ i + 2 = e in omega arith)
      ∙ get_or-set_other s (i + 1) j x 0 (λ e. let a : j ≡ i + 1 = e in omega arith)

  module _ (w : i + 3 < length s) where
    store_1 : word (set s2 (i + 3) z) (i + 1) ≡ x
    store_1 =
        get_or-set_other s2 (i + 3) (i + 1) z 0 (λ e. let a : i + 1 ≡ i + 3 = e in omega arith)
        ∙ get_or-set_other s1 (i + 2) (i + 1) y 0 (λ e. let a : i + 1 ≡ i + 2 = e in omega arith)
        ∙ get_or-set_same s (i + 1) x 0 (omega arith)

    store_2 : word (set s2 (i + 3) z) (i + 2) ≡ y
    store_2 =
        get_or-set_other s2 (i + 3) (i + 2) z 0 (λ e. let a : i + 2 ≡ i + 3 = e in omega arith)
        ∙ get_or-set_same s1 (i + 2) y 0 (simp length-set (omega arith))

    store_3 : word (set s2 (i + 3) z) (i + 3) ≡ z
    store_3 = get_or-set_same s2 (i + 3) z 0 (simp length-set w)

-- what holds of the pairs below the top, and of the top, holds of all
top_or_below : (P : ℕ → Type 0) (d j : ℕ) → j < d + 1 → P d → (j < d → P j) → P j
top_or_below P d j l top low = ⊎_elim (λ z. subst P (sym z) top) low (eq-or-lt_of_le (let q : j ≤ d = omega arith in q))

module _ (es cs : List ℕ) (ok : Entries es cs) (s : List ℕ) (d : ℕ) (st : Stacked es s (d + 1)) (more : next_on s d < child_count_in es (entry_on s d))
    (c : ℕ) (is : c ≡ word cs (child_start_in es (entry_on s d) + next_on s d)) where
  abbrev g : Graph
  g = graph_in es cs

  abbrev e : ℕ
  e = entry_on s d

  abbrev k : ℕ
  k = next_on s d

  -- the top entry is one, and the child is one below it
  top_in : e < size es
  top_in = omega (arith, st.falls d (omega arith))

  kid_more : k < length (g.kids e)
  kid_more = omega (arith, more, kids_length es cs (size es) ok.ok e top_in)

  child_is : c ≡ get_or (g.kids e) k 0
  child_is = is ∙ sym (child_at es cs e k more)

  below_top : c < e
  below_top = omega (arith, child_is, kid_below es cs (size es) ok.ok e k top_in kid_more)

  wide : pair_size * d + 3 < length s
  wide = omega (arith, st.falls d (omega arith), st.room, below_top)

  top_entry : word (pushed s d c) (pair_size * d + 2) ≡ c
  top_entry = store_2 s (pair_size * d) (k + 1) c 0 wide

  top_next : word (pushed s d c) (pair_size * d + 3) ≡ 0
  top_next = store_3 s (pair_size * d) (k + 1) c 0 wide

  under_next : next_on (pushed s d c) d ≡ k + 1
  under_next = store_1 s (pair_size * d) (k + 1) c 0 wide

  under : (j : ℕ) → j < pair_size * d + 1 → word (pushed s d c) j ≡ word s j
  under j l = below_stores s (pair_size * d) (k + 1) c 0 j l

  -- what is to come is as it was
  pub push : (explicit : Bool) → left es cs explicit (pushed s d c) (d + 1 + 1) ≡ left es cs explicit s (d + 1)
  unfolding left parent_at index_at graph_in
  push explicit =
      let p : ℕ = parent_at es explicit s d in
      let i : ℕ = index_at explicit s d in
      let i2 : pair_size * suc d ≡ pair_size * d + 2 = omega arith in
      let i3 : pair_size * d + 2 + 1 ≡ pair_size * d + 3 = omega arith in
      let agree : (j : ℕ) → j < pair_size * d → word (pushed s d c) j ≡ word s j = λ j l. under j (omega arith) in
      let same-below : left es cs explicit (pushed s d c) d ≡ left es cs explicit s d = left_same es cs explicit (pushed s d c) s d agree in
      let sp : parent_at es explicit (pushed s d c) d ≡ p = parent_same es cs explicit (pushed s d c) s d agree in
      let si : index_at explicit (pushed s d c) d ≡ i = index_same es cs explicit (pushed s d c) s d agree in
      let entry : entry_on (pushed s d c) d ≡ e = under (pair_size * d) (omega arith) in
      let one : k + 1 - 1 ≡ k = omega arith in
      let child-list : normal_within g explicit e (get_or (g.kids e) k 0) (parent_word explicit (g.stmt e)) (index_word explicit k) ≡ rest g explicit (parent_word explicit (g.stmt e)) (index_word explicit k) c 0 =
      ap (λ (x : ℕ). normal_within g explicit e x (parent_word explicit (g.stmt e)) (index_word explicit k)) (sym child_is)
      ∙ normal_depth g (size es) (entries_fall es cs (size es) ok.ok) explicit e (suc c) c _ _ (omega (arith, below_top, top_in)) below_top (omega arith)
      ∙ rest_all g explicit _ _ c in
      rw (add-one (d + 1), add-one d, i2, i3, top_entry, top_next, entry, under_next, same-below, sp, si, one)
      (rw (rest_more g explicit p i e k kid_more, child-list)
      (sym (append_assoc (rest g explicit (parent_word explicit (g.stmt e)) (index_word explicit k) c 0) (rest g explicit p i e (k + 1)) (left es cs explicit s d))))

  pub push_stacked : Stacked es (pushed s d c) (d + 1 + 1)
  push_stacked =
      let i2 : pair_size * (d + 1) ≡ pair_size * d + 2 = omega arith in
      record {
        room = simp length-set st.room;
        begun = λ j l. top_or_below (λ x. 0 < next_on (pushed s d c) x) d j (omega arith) (omega (arith, under_next))
            (λ m. rw (under (pair_size * j + 1) (omega arith)) (st.begun j (omega arith)));
        falls = λ j l. top_or_below (λ x. entry_on (pushed s d c) x + x < size es) (d + 1) j l
            (rw i2 (omega (arith, top_entry, below_top, st.falls d (omega arith))))
            (λ m. rw (under (pair_size * j) (omega arith)) (st.falls j m));
      }

  -- the top entry falls: the measure of the way down
  pub push_less : entry_on (pushed s d c) (d + 1) < e
  push_less = let i2 : pair_size * (d + 1) ≡ pair_size * d + 2 = omega arith in rw i2 (omega (arith, top_entry, below_top))

  -- the room that the push needs
  pub push_room : (child_start_in es e + k < length cs) × ((pair_size * d + 3 < length s) × (k < max_child_refs))
  push_room = let o = ok.ok in (omega (arith, o.inside e top_in, more), (wide, omega (arith, o.inside e top_in, more, o.few_children)))

-- ---- a pop

-- the parent word of a pair is that of an entry's statement, or 0
word_few : (explicit : Bool) (k : ℕ) → k < max_statements → parent_word explicit k ≤ max_statements
word_few true k l = omega arith
word_few false k l = omega arith

parent_few : (es cs : List ℕ) → Entries es cs → (explicit : Bool) (s : List ℕ) (d : ℕ) → Stacked es s (d + 1) → parent_at es explicit s d ≤ max_statements
unfolding parent_at
parent_few es cs ok explicit s zero st = omega arith
parent_few es cs ok explicit s (suc d) st = word_few explicit _ (ok.statements_few (entry_on s d) (omega (arith, st.falls d (omega arith))))

module _ (es cs : List ℕ) (ok : Entries es cs) (explicit : Bool) (l : List Step) (s : List ℕ) (d : ℕ) (to_come : left es cs explicit s (d + 1) ≡ l)
    (done : child_count_in es (entry_on s d) ≤ next_on s d) (st : Stacked es s (d + 1)) where
  -- the top entry's own step was the head, and what lies below it is left
  pub popped : (statement : StatementNo) (hyp : ParentHyp) → statement.0 ≡ entry_stmt_in es (entry_on s d) → parent_of hyp ≡ parent_at es explicit s d
      → index_of hyp ≡ index_at explicit s d → came es cs explicit l s (Some (record { statement = statement; hyp = hyp; depth = d }))
  unfolding came left graph_in
  popped statement hyp is parent index =
      let e : ℕ = entry_on s d in
      let few : length ((graph_in es cs).kids e) ≤ next_on s d = omega (arith, done, kids_length es cs (size es) ok.ok e (omega (arith, st.falls d (omega arith)))) in
      let head : left es cs explicit s (d + 1) ≡ step 0 0 (entry_stmt_in es e) (parent_at es explicit s d) (index_at explicit s d) ∷ left es cs explicit s d =
      rw (add-one d) (ap (λ (r : List Step). r ++ left es cs explicit s d) (rest_none (graph_in es cs) explicit (parent_at es explicit s d) (index_at explicit s d) e (next_on s d) few)) in
      record {
        taken = sym to_come ∙ head ∙ rw (is, parent, index);
        stacked = record { room = st.room; begun = λ j m. st.begun j (omega arith); falls = λ j m. st.falls j (omega arith) };
        parent_few = rw parent (parent_few es cs ok explicit s d st);
      }

pub none_left : (es cs : List ℕ) (explicit : Bool) (s : List ℕ) (d : ℕ) → d ≡ 0 → came es cs explicit (left es cs explicit s d) s None
unfolding came left
none_left es cs explicit s d z = rw z

-- ---- the pair below the top

module _ (es : List ℕ) (explicit : Bool) (s : List ℕ) where
  pub root_parent : parent_at es explicit s 0 ≡ 0
  unfolding parent_at
  root_parent = refl

  pub root_index : index_at explicit s 0 ≡ 0
  unfolding index_at
  root_index = refl

  pub below_parent : (d : ℕ) → 0 < d → parent_at es explicit s d ≡ parent_word explicit (entry_stmt_in es (entry_on s (d - 1)))
  unfolding parent_at
  below_parent d l = let z : d ≡ suc (d - 1) = omega arith in ap (parent_at es explicit s) z

  pub below_index : (d : ℕ) → 0 < d → index_at explicit s d ≡ index_word explicit (next_on s (d - 1) - 1)
  unfolding index_at
  below_index d l = let z : d ≡ suc (d - 1) = omega arith in ap (index_at explicit s) z

-- ---- the root alone

module _ (es cs : List ℕ) (s : List ℕ) (root : ℕ) (l : root < size es) (room : pair_size * size es ≤ length s) where
  abbrev begun : List ℕ
  begun = set (set s 0 root) 1 0

  root_entry : word begun 0 ≡ root
  root_entry = get_or-set_other (set s 0 root) 1 0 0 0 (λ e. let a : ◌≡◌ {A = ℕ} 0 1 = e in omega arith) ∙ get_or-set_same s 0 root 0 (omega arith)

  root_next : word begun 1 ≡ 0
  root_next = get_or-set_same (set s 0 root) 1 0 0 (simp length-set (omega arith))

  pub begins : Begins es cs root begun
  unfolding left normal_steps parent_at index_at
  begins =
      record {
        stacked = record {
          room = simp length-set room;
          begun = λ j m. absurd (omega arith);
          falls = λ j m. let z : j ≡ 0 = omega arith in rw z (omega (arith, root_entry));
        };
        all_left = λ explicit. rw (root_entry, root_next) (append-nil (rest (graph_in es cs) explicit 0 0 root 0) ∙ sym (rest_all (graph_in es cs) explicit 0 0 root));
      }
