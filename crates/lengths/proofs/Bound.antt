-- How much room the packed walk needs, for its steps and its marks: at every moment of it, and at its end over a good table.
use Rattle.std.specs.Prelude.{◌≡◌, ◌≢◌, ℕ, zero, suc, ◌+◌, ◌-◌, ◌≤◌, ◌<◌, Bool, get_or, drop, eqb}
use Rattle.std.proofs.Math.Path.{refl, sym, ap}
use Rattle.std.proofs.Common.{◌∙◌, add-one, length-append, length-set}
use native.Mathlib.Omega.{arith}
use mathlib.Core.List.{List, [], ◌∷◌, ◌++◌, append_assoc, append-nil}
use Rattle.std.proofs.Math.ListN.{length, take}
use Rattle.std.proofs.Math.Seq.{take-suc, take-add, take-length, length-take-le}
use Rattle.laws.specs.Tools.{pick}
use Rattle.laws.specs.Lists.{boole, eqb_yes, eqb_no, all_at, all_below_lem}
use Rattle.laws.specs.Sums.{sum_le}
use Rattle.defs.specs.Table.{entries, child_refs, qed}
use Rattle.defs.specs.Check.{table_refusal}
use Rattle.defs.specs.Graph.{Graph, graph_of}
use Rattle.defs.specs.Counts.{parents, shared_size}
use Rattle.defs.specs.Steps.{Step, Walk, mark_of, parent_word, index_word, refer, gets_mark, finish, each_child, visit, packed_with, packed_steps}
use Rattle.defs.specs.Text.{packed_of}
use Rattle.defs.specs.Laws.{Falls, each_child_append, visit_depth}
use Rattle.defs.proofs.Ranges.{packed_marks_fit}
use Rattle.lengths.specs.Tables.{kids, agree, kids_sum, reach}
use Rattle.lengths.specs.TableWalks.{packed_length}
use Rattle.lengths.specs.Explicit.{packed_same_length}
use Rattle.lengths.specs.Bound.{Grown, packed_walk}

-- so the steps of s have room where those of t have it
pub longer : (s t : Walk) → Grown s t → length s.out ≤ length t.out
longer s t h = omega (arith, ap length h.added ∙ length-append s.out h.steps)

-- a walk that stands still
pub grown_same : (s : Walk) → Grown s s
grown_same s = record { steps = []; added = sym (append-nil s.out); given_more = omega arith; same_places = refl }

-- one walk after another
pub grown_then : (s t u : Walk) → Grown s t → Grown t u → Grown s u
grown_then s t u p q =
    record {
      steps = p.steps ++ q.steps;
      added = q.added ∙ ap (λ (o : List Step). o ++ q.steps) p.added ∙ append_assoc s.out p.steps q.steps;
      given_more = omega (arith, p.given_more, q.given_more);
      same_places = q.same_places ∙ p.same_places;
    }

-- a back reference adds
pub refer_grows : (e parent index : ℕ) (s : Walk) → Grown s (refer e parent index s)
unfolding refer
refer_grows e parent index s = record { steps = _; added = refl; given_more = omega arith; same_places = refl }

-- just one step
pub refer_one : (e parent index : ℕ) (s : Walk) → length (refer e parent index s).out ≡ length s.out + 1
unfolding refer
refer_one e parent index s = length-append s.out _

-- an entry that lists itself adds
pub finish_grows : (g : Graph) (ps : List ℕ) (e parent index : ℕ) (s : Walk) → Grown s (finish g ps e parent index s)
unfolding finish
finish_grows g ps e parent index s =
    boole (gets_mark g ps e)
    (λ y. rw y (record { steps = _; added = refl; given_more = omega arith; same_places = length-set s.marks e (suc s.given) }))
    (λ y. rw y (record { steps = _; added = refl; given_more = omega arith; same_places = refl }))

-- just one step
pub finish_one : (g : Graph) (ps : List ℕ) (e parent index : ℕ) (s : Walk) → length (finish g ps e parent index s).out ≡ length s.out + 1
unfolding finish
finish_one g ps e parent index s = length-append s.out _

-- the children add where each child's visit does
pub each_grows : (f : ℕ → ℕ → Walk → Walk) → ((c j : ℕ) (s : Walk) → Grown s (f c j s)) → (j : ℕ) (cs : List ℕ) (s : Walk) → Grown s (each_child f j cs s)
unfolding each_child
each_grows f h j [] s = grown_same s
each_grows f h j (c ∷ cs) s = grown_then s (f c j s) _ (h c j s) (each_grows f h (suc j) cs (f c j s))

-- a visit only adds
pub visit_grows : (g : Graph) (ps : List ℕ) (explicit : Bool) (depth e parent index : ℕ) (s : Walk) → Grown s (visit g ps explicit depth e parent index s)
unfolding visit
visit_grows g ps explicit zero e parent index s = grown_same s
visit_grows g ps explicit (suc depth) e parent index s =
    let f : ℕ → ℕ → Walk → Walk = λ c j. visit g ps explicit depth c (parent_word explicit (g.stmt e)) (index_word explicit j) in
    let below : Walk = each_child f 0 (g.kids e) s in
    boole (eqb (mark_of s e) 0)
    (λ y. rw y (grown_then s below _
    (each_grows f (λ c j. visit_grows g ps explicit depth c (parent_word explicit (g.stmt e)) (index_word explicit j)) 0 (g.kids e) s)
    (finish_grows g ps e parent index below)))
    (λ y. rw y (refer_grows e parent index s))

-- so it never shortens the list
pub visit_longer : (g : Graph) (ps : List ℕ) (explicit : Bool) (depth e parent index : ℕ) (s : Walk)
    → length s.out ≤ length (visit g ps explicit depth e parent index s).out
visit_longer g ps explicit depth e parent index s = longer s _ (visit_grows g ps explicit depth e parent index s)

-- nor do the children
pub each_longer : (f : ℕ → ℕ → Walk → Walk) → ((c j : ℕ) (s : Walk) → Grown s (f c j s)) → (j : ℕ) (cs : List ℕ) (s : Walk)
    → length s.out ≤ length (each_child f j cs s).out
each_longer f h j cs s = longer s _ (each_grows f h j cs s)

-- ---- a visit at each of its moments, as code does it: the children one by one, then the entry itself

module _ (g : Graph) (ps : List ℕ) (explicit : Bool) (depth e : ℕ) where
  -- the visit of the child with index j
  abbrev pub visit_child : ℕ → ℕ → Walk → Walk
  visit_child c j = visit g ps explicit depth c (parent_word explicit (g.stmt e)) (index_word explicit j)

  -- the first k children
  unfoldable pub after_children : ℕ → Walk → Walk
  after_children k s = each_child visit_child 0 (take k (g.kids e)) s

  -- none yet
  pub children_none : (s : Walk) → after_children 0 s ≡ s
  unfolding after_children each_child
  children_none s = refl

  -- one more
  pub children_next : (k : ℕ) (s : Walk) → k < length (g.kids e) → visit_child (get_or (g.kids e) k 0) k (after_children k s) ≡ after_children (k + 1) s
  unfolding after_children each_child
  children_next k s l =
      let at : 0 + length (take k (g.kids e)) ≡ k = omega (arith, length-take-le k (g.kids e) (omega arith)) in
      sym (ap (λ (cs : List ℕ). each_child visit_child 0 cs s) (ap (λ (m : ℕ). take m (g.kids e)) (add-one k) ∙ take-suc (g.kids e) k 0 l)
      ∙ each_child_append visit_child 0 (take k (g.kids e)) (get_or (g.kids e) k 0 ∷ []) s
      ∙ ap (λ (j : ℕ). visit_child (get_or (g.kids e) k 0) j (each_child visit_child 0 (take k (g.kids e)) s)) at)

  -- more children add more
  pub children_grow : (j k : ℕ) (s : Walk) → j ≤ k → Grown (after_children j s) (after_children k s)
  unfolding after_children
  children_grow j k s l =
      let m : k ≡ j + (k - j) = omega arith in
      let more : take k (g.kids e) ≡ take j (g.kids e) ++ take (k - j) (drop j (g.kids e)) =
      ap (λ (i : ℕ). take i (g.kids e)) m ∙ take-add j (k - j) (g.kids e) in
      rw (more, each_child_append visit_child 0 (take j (g.kids e)) (take (k - j) (drop j (g.kids e))) s)
      (each_grows visit_child (λ c i. visit_grows g ps explicit depth c (parent_word explicit (g.stmt e)) (index_word explicit i)) _ _ _)

  module _ (parent index : ℕ) (s : Walk) where
    -- an entry with a mark is referred to
    pub visit_met : mark_of s e ≢ 0 → visit g ps explicit (suc depth) e parent index s ≡ refer e parent index s
    unfolding visit
    visit_met h = rw (eqb_no (mark_of s e) 0 h)

    module _ (new : mark_of s e ≡ 0) where
      -- an entry without one lists its children, then itself
      pub visit_new : visit g ps explicit (suc depth) e parent index s ≡ finish g ps e parent index (after_children (length (g.kids e)) s)
      unfolding visit after_children
      visit_new = rw (eqb_yes (mark_of s e) 0 new) (ap (λ (cs : List ℕ). finish g ps e parent index (each_child visit_child 0 cs s)) (sym (take-length (g.kids e))))

      -- what stands after some of the children, the entry's visit goes on from
      pub children_within : (k : ℕ) → k ≤ length (g.kids e) → Grown (after_children k s) (visit g ps explicit (suc depth) e parent index s)
      children_within k l =
          rw visit_new
          (grown_then (after_children k s) (after_children (length (g.kids e)) s) _ (children_grow k (length (g.kids e)) s l) (finish_grows g ps e parent index _))

      -- so a child's visit needs no more room than the entry's
      pub child_within : (k : ℕ) → k < length (g.kids e)
          → Grown (visit_child (get_or (g.kids e) k 0) k (after_children k s)) (visit g ps explicit (suc depth) e parent index s)
      child_within k l = rw (children_next k s l) (children_within (k + 1) (omega arith))

      -- and there is room for the entry's own step after them
      pub children_room : (k : ℕ) → k ≤ length (g.kids e) → length (after_children k s).out + 1 ≤ length (visit g ps explicit (suc depth) e parent index s).out
      children_room k l =
          rw (visit_new, finish_one g ps e parent index (after_children (length (g.kids e)) s))
          (omega (arith, longer _ _ (children_grow k (length (g.kids e)) s l)))

-- where children lie below their parents, a child's visit may be as deep as the child's own number asks: what a recursion that knows no depth does
pub child_depth : (g : Graph) (n : ℕ) → Falls g n → (ps : List ℕ) (explicit : Bool) (e k parent index : ℕ) (s : Walk) → e < n → k < length (g.kids e)
    → let c = get_or (g.kids e) k 0 in visit g ps explicit (suc c) c parent index s ≡ visit g ps explicit e c parent index s
unfolding Falls
child_depth g n falls ps explicit e k parent index s l m =
    let c = get_or (g.kids e) k 0 in
    let below : c < e = all_at (λ x. x < e) (g.kids e) 0 (all_below_lem e (g.kids e) (falls e l)) k m in
    visit_depth g n falls ps explicit (suc c) e c parent index s (omega arith) (omega arith) below

-- its steps are the packed list
pub packed_walk_lem : (w : List ℕ) (explicit : Bool) → (packed_walk w explicit).out ≡ packed_of w explicit
unfolding packed_of packed_steps packed_with
packed_walk_lem w explicit = refl

-- the packed list, explicit or not, has one step for QED and one for each child of each reachable entry
pub packed_length_exact : (w b : List ℕ) → table_refusal w b ≡ 0 → (explicit : Bool) → length (packed_of w explicit) ≡ shared_size (graph_of w) (entries w) (qed w)
unfolding packed_of packed_steps
packed_length_exact w b ok explicit = packed_same_length (parents (graph_of w) (entries w)) (graph_of w) (entries w) (qed w) explicit ∙ packed_length w b ok

-- reachable or not, an entry counts no more than its children
some_kids : (t : Bool) (m : ℕ) → pick t m 0 ≤ m
some_kids t m = boole t (λ h. rw h (omega arith)) (λ h. rw h (omega arith))

-- so at most one more step than the table has child references
pub packed_most : (w b : List ℕ) → table_refusal w b ≡ 0 → (explicit : Bool) → length (packed_of w explicit) ≤ child_refs w + 1
unfolding shared_size
packed_most w b ok explicit =
    omega (
      arith,
      packed_length_exact w b ok explicit,
      sum_le (λ e. pick (reach w b ok e) (length ((graph_of w).kids e)) 0) (λ e. length (kids w b ok e)) (entries w)
          (λ e l. rw (agree w b ok e l) (some_kids (reach w b ok e) (length (kids w b ok e)))),
      kids_sum w b ok,
    )

-- and at most as many marks are given as it has entries
pub marks_most : (w b : List ℕ) → table_refusal w b ≡ 0 → (explicit : Bool) → (packed_walk w explicit).given ≤ entries w
marks_most = packed_marks_fit
