-- The packed walk in the working slice: a step more and a mark more keep what the words hold, so each part of a visit does.
-- Assumes nothing.
use mathlib.Core.Path.{◌≡◌, refl, sym, ap, ap₂, subst, ◌∙◌}
use mathlib.Core.Logic.{◌≢◌}
use mathlib.Core.Bool.{Bool, true, false, ◌&&◌}
use mathlib.Core.List.{List, [], ◌∷◌, ◌++◌, append-nil}
use Prim.Native.Nat.{ℕ, suc, ◌+◌, ◌*◌, ◌-◌, ◌≤◌, ◌<◌}
use native.Mathlib.Omega.{arith}
use native.Mathlib.Decide.{ℕ_discrete}
use lib.Dec.{ltb}
use lib.ListN.{length, get_or, take, set, length-append, length-set}
use lib.Seq.{get_or-set_same, get_or-set_other, drop-set-lt}
use borrow.Author.Tests.{ne_eqb, lt-ltb}
use Rattle.laws.specs.Lists.{boole, clash}
use Rattle.laws.specs.Tools.{part}
use Rattle.defs.specs.Table.{word, max_child_refs, child_start_in, child_count_in, entry_stmt_in}
use Rattle.defs.specs.Graph.{Graph, graph_in}
use Rattle.defs.specs.Counts.{parents}
use Rattle.defs.specs.Steps.{Step, step_size, step_words, flat, Walk, mark_of, parent_word, index_word, gets_mark, refer, finish, visit, packed_with, packed_steps}
use Rattle.defs.specs.Laws.{flat_append, flat_length}
use Rattle.defs.specs.Sections.{EntriesOk, child_at}
use Rattle.lengths.specs.Bound.{Grown}
use Rattle.lengths.proofs.Bound.{longer, refer_one, visit_grows, after_children, children_none, children_next, visit_met, visit_new, child_within, children_within, children_room, child_depth}
use Rattle.walk.specs.Entries.{size, kids_length, kid_below, entries_fall}
use Rattle.walk.specs.Marks.{counts_below, marked}
use Rattle.walk.specs.Steps.{step, with_step}
use Rattle.walk.specs.Packed.{Held, held, entry_at, steps_from, single, finishes, Room, Stands, Fits, visit_from, Visitable, Ready, Listed, Visited, walk_start, Begun, Packable, Packed}
use Rattle.walk.proofs.OwnLaws.{finishes_plain, finishes_marked}
use Rattle.walk.proofs.StepLaws.{before_step, step_more}

-- ---- the one step of an entry that lists no children first

-- without a mark it is its own
single_own : (e statement parent index : ℕ) (h : Held) → word h.words (entry_at e) - marked ≡ 0 → single e statement parent index h ≡ finishes false e statement parent index h
unfolding single
single_own e statement parent index h plain = rw (plain, finishes_plain false e statement parent index h refl)

and_second : (a b : Bool) → (a && b) ≡ true → b ≡ true
and_second true b e = e
and_second false b e = clash false e refl

-- ---- what the words hold

module _ (g : Graph) (counts : List ℕ) (n : ℕ) (h : Held) (t : Walk) (st : Stands g counts n h t) (room : h.end + step_size ≤ length h.words) where
  -- with a step more
  stands_step : (x : Step) → Stands g counts n (held (with_step h.words h.end x) (h.end + step_size)) (record { marks = t.marks; given = t.given; out = t.out ++ (x ∷ []) })
  unfolding flat
  stands_step x =
      let k : ℕ = step_size * length t.out in
      let low : steps_from n ≤ h.end = omega (arith, st.end_is) in
      let one : step_size * length (t.out ++ (x ∷ [])) ≡ k + step_size = omega (arith, length-append t.out (x ∷ [])) in
      let same : (j : ℕ) → j < steps_from n → word (with_step h.words h.end x) j ≡ word h.words j = λ j l. before_step h.words h.end x room j (omega arith) in
      record {
        shared = λ j l. st.shared j l ∙ ap (ltb 1) (sym (same (entry_at j) (omega arith)));
        apart = λ j l. subst (λ (v : ℕ). max_child_refs < v → marked < v) (sym (same (entry_at j) (omega arith))) (st.apart j l);
        places = st.places;
        marks = λ j l. st.marks j l ∙ ap (λ (v : ℕ). v - marked) (sym (same (entry_at j) (omega arith)));
        given_is = same 0 (omega arith) ∙ st.given_is;
        end_is = omega (arith, st.end_is, one);
        steps = ap (λ (m : ℕ). part (steps_from n) m (with_step h.words h.end x)) one
            ∙ ap (λ (m : ℕ). part (steps_from n) (k + step_size) (with_step h.words m x)) st.end_is
            ∙ step_more h.words (steps_from n) k x (omega (arith, st.end_is))
            ∙ ap (λ (l : List ℕ). l ++ step_words x) st.steps
            ∙ ap (λ (l : List ℕ). flat t.out ++ l) (sym (append-nil (step_words x)))
            ∙ sym (flat_append t.out (x ∷ []));
      }

  module _ (e : ℕ) (l : e < n) where
    -- with a mark more
    abbrev next : ℕ
    next = word h.words 0 + 1

    abbrev counted : List ℕ
    counted = set h.words 0 next

    abbrev noted : List ℕ
    noted = set counted (entry_at e) (marked + next)

    low : steps_from n ≤ length h.words
    low = omega (arith, st.end_is)

    -- the word of entry e, that of another, and the count
    its_word : word noted (entry_at e) ≡ marked + next
    its_word = get_or-set_same counted (entry_at e) (marked + next) 0 (rw (length-set h.words 0 next) (omega (arith, low)))

    other_word : (j : ℕ) → j ≢ e → word noted (entry_at j) ≡ word h.words (entry_at j)
    other_word j d =
        get_or-set_other counted (entry_at e) (entry_at j) (marked + next) 0 (λ z. d (omega arith))
        ∙ get_or-set_other h.words 0 (entry_at j) next 0 (λ z. let y : entry_at j ≡ 0 = z in omega arith)

    count_word : word noted 0 ≡ next
    count_word =
        get_or-set_other counted (entry_at e) 0 (marked + next) 0 (λ z. let y : 0 ≡ entry_at e = z in omega arith)
        ∙ get_or-set_same h.words 0 next 0 (omega (arith, low))

    stands_mark : ltb 1 (word counts e) ≡ true → Stands g counts n (held noted h.end) (record { marks = set t.marks e (suc t.given); given = suc t.given; out = t.out })
    stands_mark y =
        let given = st.given_is in
        record {
          shared = λ j m. elim (ℕ_discrete j e) [
            | yes i ↦ rw (i, its_word) (y ∙ sym (lt-ltb 1 (marked + next) (omega arith)))
            | no i ↦ st.shared j m ∙ ap (ltb 1) (sym (other_word j i))
          ];
          apart = λ j m. elim (ℕ_discrete j e) [
            | yes i ↦ rw (i, its_word) (λ _. omega arith)
            | no i ↦ subst (λ (v : ℕ). max_child_refs < v → marked < v) (sym (other_word j i)) (st.apart j m)
          ];
          places = length-set t.marks e (suc t.given) ∙ st.places;
          marks = λ j m. elim (ℕ_discrete j e) [
            | yes i ↦ rw (i, its_word) (get_or-set_same t.marks e (suc t.given) 0 (omega (arith, st.places)) ∙ omega arith)
            | no i ↦ get_or-set_other t.marks e j (suc t.given) 0 i ∙ st.marks j m ∙ ap (λ (v : ℕ). v - marked) (sym (other_word j i))
          ];
          given_is = count_word ∙ omega arith;
          end_is = st.end_is;
          steps = ap (take (step_size * length t.out))
              (drop-set-lt (steps_from n) counted (entry_at e) (marked + next) (omega arith) ∙ drop-set-lt (steps_from n) h.words 0 next (omega arith))
              ∙ st.steps;
        }

    -- after a back reference to it
    stands_refer : marked < word h.words (entry_at e) → (statement parent index : ℕ) → Stands g counts n (single e statement parent index h) (refer e parent index t)
    unfolding single refer
    stands_refer met statement parent index =
        rw (st.marks e l, ne_eqb (word h.words (entry_at e) - marked) 0 (λ z. omega arith))
        (stands_step (step (word h.words (entry_at e) - marked) 0 0 parent index))

-- after an entry's own step
stands_finish : (g : Graph) (counts : List ℕ) (n : ℕ) (h : Held) (t : Walk) → Stands g counts n h t → h.end + step_size ≤ length h.words
    → (e : ℕ) → e < n → (gets : Bool) → gets ≡ gets_mark g counts e → (parent index : ℕ) → Stands g counts n (finishes gets e (g.stmt e) parent index h) (finish g counts e parent index t)
unfolding finish gets_mark
stands_finish g counts n h t st room e l gets is parent index =
    boole gets
    (λ y.
    let yes : gets_mark g counts e ≡ true = sym is ∙ y in
    let next : word h.words 0 + 1 ≡ suc t.given = omega (arith, st.given_is) in
    let long : h.end + step_size ≤ length (set (set h.words 0 (word h.words 0 + 1)) (entry_at e) (marked + (word h.words 0 + 1))) = simp length-set room in
    let more = stands_step g counts n _ _ (stands_mark g counts n h t st room e l (and_second (ltb 0 (length (g.kids e))) (ltb 1 (word counts e)) yes)) long (step 0 (word h.words 0 + 1) (g.stmt e) parent index) in
    rw (finishes_marked gets e (g.stmt e) parent index h y, yes) (rw (← next) (rw (← next) at more)))
    (λ z.
    let no : gets_mark g counts e ≡ false = sym is ∙ z in
    rw (finishes_plain gets e (g.stmt e) parent index h z, no) (stands_step g counts n h t st room (step 0 0 (g.stmt e) parent index)))

-- ---- a visit, part by part

-- after none they hold it as it was
pub no_children : (es cs : List ℕ) (explicit : Bool) (e : ℕ) (h : Held) → Listed es cs explicit e 0 h h
unfolding Listed
no_children es cs explicit e h counts from st = rw (children_none (graph_in es cs) counts explicit e e from) st

-- c is child k of entry e
pub record Child (es cs : List ℕ) (e k c : ℕ) : Type 0 where
  pub more : k < child_count_in es e
  pub child_is : c ≡ word cs (child_start_in es e + k)

-- a walk that goes on to one that has room has room
within : (es cs : List ℕ) (s t : Walk) → Grown s t → Fits es cs t → Fits es cs s
within es cs s t grown f = record { few_steps = omega (arith, longer s t grown, f.few_steps); few_marks = omega (arith, grown.given_more, f.few_marks) }

module _ (es cs : List ℕ) (explicit : Bool) (e parent index : ℕ) (h : Held) (ready : Visitable es cs explicit e parent index h) where
  abbrev g : Graph
  g = graph_in es cs

  abbrev n : ℕ
  n = size es

  abbrev ok : EntriesOk es cs (size es)
  ok = ready.entries.ok

  few : n ≤ 8192
  few = ok.few

  -- its children and its word say whether it gets a mark
  abbrev gets : Held → Bool
  gets h₁ = ltb 0 (child_count_in es e) && ltb 1 (word h₁.words (entry_at e))

  gets_is : (counts : List ℕ) (h₁ : Held) (t : Walk) → Stands g counts n h₁ t → gets h₁ ≡ gets_mark g counts e
  unfolding gets_mark
  gets_is counts h₁ t st =
      ap₂ (λ (a : ℕ) (b : Bool). ltb 0 a && b) (sym (kids_length es cs n ok e ready.inside)) (sym (st.shared e ready.inside))

  -- the words have room for the step that comes after the walk t
  room_after : (h₁ : Held) (t : Walk) → length h₁.words ≡ length h.words → Stands g ready.counts n h₁ t → length t.out ≤ length cs → t.given ≤ n → Room e h₁
  room_after h₁ t same st l m =
      let long = ready.long in
      record {
        entry_in = omega (arith, ready.inside);
        step_in = omega (arith, st.end_is);
        mark_fits = omega (arith, st.given_is, few);
      }

  module _ (met : marked < word h.words (entry_at e)) where
    marked_before : (counts : List ℕ) (from : Walk) → Stands g counts n h from → mark_of from e ≢ 0
    marked_before counts from st z = omega (arith, st.marks e ready.inside)

    room_met : Room e h
    room_met =
        let from = ready.from in
        let t = visit_from es cs ready.counts explicit e parent index from in
        let one = ap (λ (s : Walk). length s.out) (visit_met g ready.counts explicit e e parent index from (marked_before ready.counts from ready.stands)) in
        room_after h from refl ready.stands
        (omega (arith, one, refer_one e parent index from, ready.fits.few_steps))
        (omega (arith, (visit_grows g ready.counts explicit (suc e) e parent index from).given_more, ready.fits.few_marks))

    -- a back reference is the visit of an entry met again
    visited_met : (h' : Held) (statement : ℕ) → h' ≡ single e statement parent index h → Visited es cs explicit e parent index h h'
    unfolding Visited
    visited_met h' statement same counts from st =
        rw (same, visit_met g counts explicit e e parent index from (marked_before counts from st))
        (stands_refer g counts n h from st room_met.step_in e ready.inside met statement parent index)

  module _ (new : word h.words (entry_at e) ≤ marked) where
    unmarked : (counts : List ℕ) (from : Walk) → Stands g counts n h from → mark_of from e ≡ 0
    unmarked counts from st = omega (arith, st.marks e ready.inside)

    module _ (k : ℕ) (h₁ : Held) (same : length h₁.words ≡ length h.words) (held : Listed es cs explicit e k h h₁) where
      module _ (c : ℕ) (child : Child es cs e k c) where
        more : k < length (g.kids e)
        more = omega (arith, child.more, kids_length es cs n ok e ready.inside)

        child_is : c ≡ get_or (g.kids e) k 0
        child_is = child.child_is ∙ sym (child_at es cs e k child.more)

        -- the visit that the recursion does is that of the child
        visits_child : (counts : List ℕ) (s : Walk) → visit_from es cs counts explicit c (parent_word explicit (entry_stmt_in es e)) (index_word explicit k) s ≡ visit g counts explicit e (get_or (g.kids e) k 0) (parent_word explicit (g.stmt e)) (index_word explicit k) s
        unfolding graph_in
        visits_child counts s =
            rw child_is (child_depth g n (entries_fall es cs n ok) counts explicit e k (parent_word explicit (g.stmt e)) (index_word explicit k) s ready.inside more)

        pub child_visitable : Visitable es cs explicit c (parent_word explicit (entry_stmt_in es e)) (index_word explicit k) h₁
        unfolding Listed
        child_visitable =
            let s : Walk = after_children g ready.counts explicit e e k ready.from in
            record {
              entries = ready.entries;
              inside = omega (arith, child_is, kid_below es cs n ok e k ready.inside more, ready.inside);
              long = rw same ready.long;
              counts = ready.counts;
              from = s;
              stands = held ready.counts ready.from ready.stands;
              fits = rw (visits_child ready.counts s)
                  (within es cs _ _ (child_within g ready.counts explicit e e parent index ready.from (unmarked ready.counts ready.from ready.stands) k more) ready.fits);
            }

        -- one child more
        pub next_child : (h₂ : Held) → Visited es cs explicit c (parent_word explicit (entry_stmt_in es e)) (index_word explicit k) h₁ h₂ → Listed es cs explicit e (k + 1) h h₂
        unfolding Listed Visited
        next_child h₂ visited counts from st =
            rw (visits_child counts (after_children g counts explicit e e k from) ∙ children_next g counts explicit e e k from more)
            at (visited counts (after_children g counts explicit e e k from) (held counts from st))

      module _ (all : k ≡ child_count_in es e) where
        all_kids : k ≡ length (g.kids e)
        all_kids = omega (arith, kids_length es cs n ok e ready.inside)

        pub room_last : Room e h₁
        unfolding Listed
        room_last =
            let from = ready.from in
            let z = unmarked ready.counts from ready.stands in
            let room = children_room g ready.counts explicit e e parent index from z k (omega (arith, all_kids)) in
            room_after h₁ (after_children g ready.counts explicit e e k from) same (held ready.counts from ready.stands)
            (omega (arith, room, ready.fits.few_steps))
            (omega (arith, (children_within g ready.counts explicit e e parent index from z k (omega (arith, all_kids))).given_more, ready.fits.few_marks))

        -- the own step after them ends the visit
        visited_by : (marks : Bool) → marks ≡ gets h₁ → (h' : Held) → h' ≡ finishes marks e (entry_stmt_in es e) parent index h₁ → Visited es cs explicit e parent index h h'
        unfolding Visited Listed graph_in
        visited_by marks is h' end counts from st =
            rw (end, visit_new g counts explicit e e parent index from (unmarked counts from st), ← all_kids)
            (stands_finish g counts n h₁ (after_children g counts explicit e e k from) (held counts from st) room_last.step_in e ready.inside marks (is ∙ gets_is counts h₁ _ (held counts from st)) parent index)

        pub visited_new : 0 < child_count_in es e → (h' : Held) (statement p i : ℕ) → statement ≡ entry_stmt_in es e → p ≡ parent → i ≡ index
            → h' ≡ finishes (ltb 1 (word h₁.words (entry_at e))) e statement p i h₁ → Visited es cs explicit e parent index h h'
        visited_new some h' statement p i is parent_is index_is end =
            visited_by (ltb 1 (word h₁.words (entry_at e))) (rw (lt-ltb 0 (child_count_in es e) some)) h' (rw (is, parent_is, index_is) at end)

  -- an entry whose word is not below counts_below times its children is met again or childless
  module _ (once : counts_below * child_count_in es e ≤ word h.words (entry_at e)) where
    childless : word h.words (entry_at e) ≤ marked → child_count_in es e ≡ 0
    childless new =
        elim (ℕ_discrete (child_count_in es e) 0) [
          | yes z ↦ z
          | no z ↦ absurd (omega (arith, ready.stands.apart e ready.inside (omega arith)))
        ]

    pub room_single : Room e h
    room_single =
        elim (ℕ_discrete (word h.words (entry_at e) - marked) 0) [
          | yes z ↦ (let new : word h.words (entry_at e) ≤ marked = omega arith in room_last new 0 h refl (no_children es cs explicit e h) (sym (childless new)))
          | no z ↦ room_met (omega arith)
        ]

    -- one step is its visit
    pub visited_single : (h' : Held) (statement p i : ℕ) → statement ≡ entry_stmt_in es e → p ≡ parent → i ≡ index → h' ≡ single e statement p i h → Visited es cs explicit e parent index h h'
    visited_single h' statement p i is parent_is index_is end =
        elim (ℕ_discrete (word h.words (entry_at e) - marked) 0) [
          | yes z ↦ (
              let new : word h.words (entry_at e) ≤ marked = omega arith in
              visited_by new 0 h refl (no_children es cs explicit e h) (sym (childless new)) false (rw (childless new)) h'
              (rw (is, parent_is, index_is) at (end ∙ single_own e statement p i h z)))
          | no z ↦ visited_met (omega arith) h' statement (rw (parent_is, index_is) at end)
        ]

-- ---- the whole walk: the children of QED, then QED itself

module _ (es cs : List ℕ) (explicit : Bool) (q room : ℕ) (p : Packable es cs explicit q room) (h : Held) (begun : Begun es cs h) (same : length h.words ≡ room) where
  root_visitable : Visitable es cs explicit q 0 0 h
  root_visitable =
      record {
        entries = p.packing.entries;
        inside = p.inside;
        long = rw same p.long;
        counts = parents (graph_in es cs) (size es);
        from = walk_start (size es);
        stands = begun.stands;
        fits = p.fits;
      }

  root_new : word h.words (entry_at q) ≤ marked
  root_new = begun.unmarked q p.inside

  pub root_ready : Ready es cs explicit q h
  root_ready = record { parent = 0; index = 0; visitable = root_visitable; new = root_new }

  -- its visit gives the packed list
  packed : (h' : Held) → Visited es cs explicit q 0 0 h h' → Packed es cs explicit q h'
  unfolding Visited packed_steps packed_with
  packed h' visited =
      let st = visited (parents (graph_in es cs) (size es)) (walk_start (size es)) begun.stands in
      let long = flat_length (packed_steps (graph_in es cs) (size es) q explicit) in
      record { end_is = omega (arith, st.end_is, long); steps = rw long st.steps }

  module _ (none : child_count_in es q ≡ 0) where
    pub root_alone : Room q h
    root_alone = room_single es cs explicit q 0 0 h root_visitable (omega arith)

    pub root_single : (h' : Held) (statement : ℕ) → statement ≡ entry_stmt_in es q → h' ≡ single q statement 0 0 h → Packed es cs explicit q h'
    root_single h' statement is end = packed h' (visited_single es cs explicit q 0 0 h root_visitable (omega arith) h' statement 0 0 is refl refl end)

  module _ (h₁ : Held) (kept : length h₁.words ≡ length h.words) (listed : Listed es cs explicit q (child_count_in es q) h h₁) where
    pub root_room : Room q h₁
    root_room = room_last es cs explicit q 0 0 h root_visitable root_new _ h₁ kept listed refl

    pub root_packed : 0 < child_count_in es q → (h' : Held) (statement : ℕ) → statement ≡ entry_stmt_in es q
        → h' ≡ finishes (ltb 1 (word h₁.words (entry_at q))) q statement 0 0 h₁ → Packed es cs explicit q h'
    root_packed some h' statement is end = packed h' (visited_new es cs explicit q 0 0 h root_visitable root_new _ h₁ kept listed refl some h' statement 0 0 is refl refl end)
