-- Ranges of what is written: step words, parents and distances fit their words, letters are bytes.
use Rattle.std.specs.Prelude.{◌≡◌, refl, Bool, true, false, length, get_or, set, eqb}
use Rattle.std.proofs.Common.{◌∙◌, arith}
use Prim.Native.Nat.{ℕ, zero, suc, ◌+◌, ◌-◌, ◌/◌, ◌≤◌, ◌<◌}
use mathlib.Core.List.{List, [], ◌∷◌, ◌++◌}
use Rattle.std.proofs.Math.ListN.{replicate, length-set}
use Rattle.std.proofs.lemmas.List.{length-replicate}
use Rattle.std.proofs.Math.Seq.{get_or-set_other}
use Rattle.std.proofs.Math.Dec.{eqb→eq, eqb-zero-suc}
use Rattle.laws.specs.Tools.{pick, range, keep, count}
use Rattle.defs.specs.Table.{max_word, max_statements, max_entries, max_child_refs, statements, entries, child_refs, qed, label_length, child_count, children}
use Rattle.defs.specs.Check.{table_refusal}
use Rattle.defs.specs.Graph.{Graph, graph_in, graph_of}
use Rattle.defs.specs.Counts.{parent_count, parents, lower, descend, distances, unreached}
use Rattle.defs.specs.Steps.{Step, is_normal, step_words, flat, Walk, mark_of, parent_word, index_word, refer, gets_mark, finish, each_child, visit, packed_with, packed_steps, list_children, normal_within, normal_steps}
use Rattle.defs.specs.Text.{packed_of, normal_of, labels_of}
use Rattle.defs.specs.Letters.{leading, code, step_number, step_letters, letters_of}
use Rattle.defs.specs.Order.{used}
use Rattle.defs.specs.Layout.{Layout, line_room}
use Rattle.defs.specs.Refusals.{bad12}
use Rattle.defs.specs.Outcome.{step_list_words}
use Rattle.laws.specs.Sums.{count_most, sum_le, all_count, count_all}
use Rattle.defs.proofs.LabelLaws.{count_labels, labels_narrow}
use Rattle.laws.specs.Lists.{all_set, all_replicate, all_keep, all_image, boole, T_of, All, all_map, all_append, all_snoc, all_below_lem, all_at}
use Rattle.defs.specs.Laws.{good, Falls}
use Rattle.defs.specs.Checked.{header, entry_ok, falls, qed_below, theorem_below, children_sum}
use Rattle.defs.specs.Ranges.{Letter, StepFits}

fits_more : (s m k : ℕ) → m ≤ k → (t : Step) → StepFits s m t → StepFits s k t
fits_more s m k l t f =
    record { ref_most = omega (arith, f.ref_most); mark_most = omega (arith, f.mark_most); stmt_below = f.stmt_below; parent_most = f.parent_most; index_most = f.index_most }

-- one zero fewer
zeros_set : (ms : List ℕ) (e v : ℕ) → e < length ms → get_or ms e 0 ≡ 0 → count 0 (set ms e (suc v)) + 1 ≡ count 0 ms
zeros_set [] e v l z = absurd (omega arith)
zeros_set (x ∷ ms) zero v l z = rw (eqb-zero-suc v, z) (omega arith)
zeros_set (x ∷ ms) (suc e) v l z = omega (arith, zeros_set ms e v (omega arith) z)

zeros_all : (n : ℕ) → count 0 (replicate n 0) ≡ n
zeros_all zero = refl
zeros_all (suc n) = omega (arith, zeros_all n)

parent_small : (s k : ℕ) (explicit : Bool) → k < s → parent_word explicit k ≤ s
parent_small s k true l = omega arith
parent_small s k false l = omega arith

index_small : (j : ℕ) (explicit : Bool) → j ≤ max_child_refs → index_word explicit j ≤ max_child_refs
index_small j true l = l
index_small j false l = omega arith

module _ (g : Graph) (n s : ℕ) (fall : Falls g n) (stmts : (e : ℕ) → e < n → g.stmt e < s) (few : (e : ℕ) → e < n → length (g.kids e) ≤ max_child_refs) (some : 1 ≤ s) where
  -- where a walk stands: a mark for each mark given, no more than entries; the steps fit
  record Sound (r : Walk) : Type 0 where
    len : length r.marks ≡ n
    zeros : r.given + count 0 r.marks ≡ n
    marks_most : All (λ m. m ≤ r.given) r.marks
    outs : All (StepFits s r.given) r.out

  -- from r to t nothing is lost, and the marks of the entries from e on stay
  record After (e : ℕ) (r t : Walk) : Type 0 where
    sound : Sound t
    grows : r.given ≤ t.given
    rest : (x : ℕ) → e ≤ x → mark_of t x ≡ mark_of r x

  after_same : (e : ℕ) (r : Walk) → Sound r → After e r r
  after_same e r h = record { sound = h; grows = omega arith; rest = λ x l. refl }

  after_then : (e f : ℕ) (a b c : Walk) → e ≤ f → After e a b → After f b c → After f a c
  after_then e f a b c l p q = record { sound = q.sound; grows = omega (arith, p.grows, q.grows); rest = λ x m. q.rest x m ∙ p.rest x (omega arith) }

  mark_small : (r : Walk) → Sound r → (e : ℕ) → e < n → mark_of r e ≤ r.given
  mark_small r h e l = all_at (λ m. m ≤ r.given) r.marks 0 h.marks_most e (omega (arith, h.len))

  refer_after : (e parent index : ℕ) (r : Walk) → Sound r → e < n → parent ≤ s → index ≤ max_child_refs → After (suc e) r (refer e parent index r)
  unfolding refer
  refer_after e parent index r h l p i =
      record {
        sound = record {
          len = h.len;
          zeros = h.zeros;
          marks_most = h.marks_most;
          outs = all_snoc (StepFits s r.given) r.out _ h.outs
              (record { ref_most = mark_small r h e l; mark_most = omega arith; stmt_below = omega arith; parent_most = p; index_most = i });
        };
        grows = omega arith;
        rest = λ x m. refl;
      }

  finish_after : (ps : List ℕ) (e parent index : ℕ) (r : Walk) → Sound r → e < n → mark_of r e ≡ 0 → parent ≤ s → index ≤ max_child_refs
      → After (suc e) r (finish g ps e parent index r)
  unfolding finish
  finish_after ps e parent index r h l z p i =
      boole (gets_mark g ps e)
      (λ y. rw y (record {
        sound = record {
          len = length-set r.marks e (suc r.given) ∙ h.len;
          zeros = omega (arith, zeros_set r.marks e r.given (omega (arith, h.len)) z, h.zeros);
          marks_most = all_set (λ m. m ≤ suc r.given) r.marks e (suc r.given) (all_map (λ m. m ≤ r.given) _ (λ m k. omega arith) r.marks h.marks_most) (omega arith);
          outs = all_snoc (StepFits s (suc r.given)) r.out _ (all_map (StepFits s r.given) _ (fits_more s r.given (suc r.given) (omega arith)) r.out h.outs)
              (record { ref_most = omega arith; mark_most = omega arith; stmt_below = stmts e l; parent_most = p; index_most = i });
        };
        grows = omega arith;
        rest = λ x m. get_or-set_other r.marks e x (suc r.given) 0 (λ q. omega arith);
      }))
      (λ y. rw y (record {
        sound = record {
          len = h.len;
          zeros = h.zeros;
          marks_most = h.marks_most;
          outs = all_snoc (StepFits s r.given) r.out _ h.outs
              (record { ref_most = omega arith; mark_most = omega arith; stmt_below = stmts e l; parent_most = p; index_most = i });
        };
        grows = omega arith;
        rest = λ x m. refl;
      }))

  each_after : (e : ℕ) (f : ℕ → ℕ → Walk → Walk)
      → ((c j : ℕ) (r : Walk) → c < e → j ≤ max_child_refs → Sound r → After (suc c) r (f c j r))
      → (j : ℕ) (cs : List ℕ) → j + length cs ≤ max_child_refs → All (λ c. c < e) cs → (r : Walk) → Sound r → After e r (each_child f j cs r)
  unfolding each_child
  each_after e f h j [] l a r k = after_same e r k
  each_after e f h j (c ∷ cs) l a r k =
      let one = h c j r a.0 (omega arith) k in
      after_then (suc c) e r (f c j r) _ (omega (arith, a.0)) one (each_after e f h (suc j) cs (omega arith) a.1 (f c j r) one.sound)

  visit_after : (ps : List ℕ) (explicit : Bool) (depth e parent index : ℕ) (r : Walk) → Sound r → e < n → parent ≤ s → index ≤ max_child_refs
      → After (suc e) r (visit g ps explicit depth e parent index r)
  unfolding visit Falls
  visit_after ps explicit zero e parent index r h l p i = after_same (suc e) r h
  visit_after ps explicit (suc depth) e parent index r h l p i =
      let f : ℕ → ℕ → Walk → Walk = λ c j. visit g ps explicit depth c (parent_word explicit (g.stmt e)) (index_word explicit j) in
      let below = each_after e f (λ c j t m k q. visit_after ps explicit depth c _ _ t q (omega arith) (parent_small s (g.stmt e) explicit (stmts e l)) (index_small j explicit k))
      0 (g.kids e) (omega (arith, few e l)) (all_below_lem e (g.kids e) (fall e l)) r h in
      let b = each_child f 0 (g.kids e) r in
      boole (eqb (mark_of r e) 0)
      (λ y. rw y (after_then e (suc e) r b _ (omega arith) below
      (finish_after ps e parent index b below.sound l (below.rest e (omega arith) ∙ eqb→eq _ _ (T_of y)) p i)))
      (λ y. rw y (refer_after e parent index r h l p i))

  -- where the packed walk from QED ends
  packed_sound : (ps : List ℕ) (explicit : Bool) (q : ℕ) → q < n → Sound (visit g ps explicit (suc q) q 0 0 (record { marks = replicate n 0; given = 0; out = [] }))
  packed_sound ps explicit q l =
      (visit_after ps explicit (suc q) q 0 0 (record { marks = replicate n 0; given = 0; out = [] })
      (record { len = length-replicate n 0; zeros = omega (arith, zeros_all n); marks_most = all_replicate (λ m. m ≤ 0) n 0 (omega arith); outs = tt }) l (omega arith) (omega arith)
      ).sound

  -- it gives no more marks than there are entries
  pub given_most : (ps : List ℕ) (explicit : Bool) (q : ℕ) → q < n
      → (visit g ps explicit (suc q) q 0 0 (record { marks = replicate n 0; given = 0; out = [] })).given ≤ n
  given_most ps explicit q l = omega (arith, (packed_sound ps explicit q l).zeros)

  pub packed_fits : (ps : List ℕ) (explicit : Bool) (q : ℕ) → q < n → All (StepFits s n) (packed_with ps g n q explicit)
  unfolding packed_with
  packed_fits ps explicit q l =
      let end : Walk = visit g ps explicit (suc q) q 0 0 (record { marks = replicate n 0; given = 0; out = [] }) in
      all_map (StepFits s end.given) _ (fits_more s end.given n (given_most ps explicit q l)) end.out (packed_sound ps explicit q l).outs

  children_fit : (e : ℕ) (f : ℕ → ℕ → List Step) → ((c j : ℕ) → c < e → j ≤ max_child_refs → All (StepFits s 0) (f c j))
      → (j : ℕ) (cs : List ℕ) → j + length cs ≤ max_child_refs → All (λ c. c < e) cs → All (StepFits s 0) (list_children f j cs)
  unfolding list_children
  children_fit e f h j [] l a = tt
  children_fit e f h j (c ∷ cs) l a = all_append (StepFits s 0) (f c j) _ (h c j a.0 (omega arith)) (children_fit e f h (suc j) cs (omega arith) a.1)

  pub normal_fits : (explicit : Bool) (depth e parent index : ℕ) → e < n → parent ≤ s → index ≤ max_child_refs
      → All (StepFits s 0) (normal_within g explicit depth e parent index)
  unfolding normal_within Falls
  normal_fits explicit zero e parent index l p i = tt
  normal_fits explicit (suc depth) e parent index l p i =
      let last : Step = record { ref = 0; mark = 0; stmt = g.stmt e; parent = parent; index = index } in
      let f : ℕ → ℕ → List Step = λ c j. normal_within g explicit depth c (parent_word explicit (g.stmt e)) (index_word explicit j) in
      all_snoc (StepFits s 0) (list_children f 0 (g.kids e)) last
      (children_fit e f (λ c j m k. normal_fits explicit depth c _ _ (omega arith) (parent_small s (g.stmt e) explicit (stmts e l)) (index_small j explicit k))
      0 (g.kids e) (omega (arith, few e l)) (all_below_lem e (g.kids e) (fall e l)))
      (record { ref_most = omega arith; mark_most = omega arith; stmt_below = stmts e l; parent_most = p; index_most = i })

-- the steps of a good table: at most as many marks as entries
few_kids : (w b : List ℕ) → table_refusal w b ≡ 0 → (e : ℕ) → e < entries w → length ((graph_of w).kids e) ≤ max_child_refs
unfolding graph_of graph_in
few_kids w b ok e l = let h = entry_ok w b ok e l in omega (arith, h.have_length, h.inside, (header w (good w b ok).ok1).c_most)

pub packed_steps_fit : (w b : List ℕ) → table_refusal w b ≡ 0 → (explicit : Bool) → All (StepFits (statements w) (entries w)) (packed_of w explicit)
unfolding packed_of packed_steps graph_of graph_in
packed_steps_fit w b ok explicit =
    packed_fits (graph_of w) (entries w) (statements w) (falls w b ok) (λ e l. (entry_ok w b ok e l).stmt_below) (few_kids w b ok) (omega (arith, theorem_below w b ok))
    (parents (graph_of w) (entries w)) explicit (qed w) (qed_below w b ok)

-- and its packed walk gives no more
pub packed_marks_fit : (w b : List ℕ) → table_refusal w b ≡ 0 → (explicit : Bool)
    → (visit (graph_of w) (parents (graph_of w) (entries w)) explicit (suc (qed w)) (qed w) 0 0 (record { marks = replicate (entries w) 0; given = 0; out = [] })).given ≤ entries w
unfolding graph_of graph_in
packed_marks_fit w b ok explicit =
    given_most (graph_of w) (entries w) (statements w) (falls w b ok) (λ e l. (entry_ok w b ok e l).stmt_below) (few_kids w b ok) (omega (arith, theorem_below w b ok))
    (parents (graph_of w) (entries w)) explicit (qed w) (qed_below w b ok)

pub normal_steps_fit : (w b : List ℕ) → table_refusal w b ≡ 0 → (explicit : Bool) → All (StepFits (statements w) 0) (normal_of w explicit)
unfolding normal_of normal_steps graph_of graph_in
normal_steps_fit w b ok explicit =
    normal_fits (graph_of w) (entries w) (statements w) (falls w b ok) (λ e l. (entry_ok w b ok e l).stmt_below) (few_kids w b ok) (omega (arith, theorem_below w b ok))
    explicit (suc (qed w)) (qed w) 0 0 (qed_below w b ok) (omega arith) (omega arith)

-- so every number of a step list fits its word
flat_fits : (s m : ℕ) → s ≤ max_statements → m ≤ max_entries → (ts : List Step) → All (StepFits s m) ts → All (λ x. x ≤ max_word) (flat ts)
unfolding flat step_words
flat_fits s m hs hm [] a = tt
flat_fits s m hs hm (t ∷ ts) a =
    let f = a.0 in
    (omega (arith, f.ref_most), (omega (arith, f.mark_most), (omega (arith, f.stmt_below), (omega (arith, f.parent_most), (omega (arith, f.index_most), flat_fits s m hs hm ts a.1)))))

pub step_words_fit : (w b : List ℕ) → table_refusal w b ≡ 0 → (packed explicit : Bool) → All (λ x. x ≤ max_word) (step_list_words w packed explicit)
unfolding step_list_words
step_words_fit w b ok true explicit =
    let h = header w (good w b ok).ok1 in flat_fits (statements w) (entries w) h.s_most h.n_most (packed_of w explicit) (packed_steps_fit w b ok explicit)
step_words_fit w b ok false explicit =
    let h = header w (good w b ok).ok1 in flat_fits (statements w) 0 h.s_most (omega arith) (normal_of w explicit) (normal_steps_fit w b ok explicit)

-- ---- parents: no more than child references

pub parents_most : (w b : List ℕ) → table_refusal w b ≡ 0 → All (λ x. x ≤ child_refs w) (parents (graph_of w) (entries w))
unfolding parents parent_count graph_of graph_in
parents_most w b ok =
    all_image (λ x. x ≤ child_refs w) _ (range 0 (entries w))
    (all_count _ (range 0 (entries w)) (λ e h. omega (
      arith,
      sum_le (λ p. count e (children w p)) (child_count w) (entries w)
          (λ p l. omega (arith, count_most e (children w p), (entry_ok w b ok p l).have_length)),
      children_sum w b ok,
    )))

-- ---- distances: at most that of what cannot be reached

lower_most : (d : ℕ) (cs ds : List ℕ) → d ≤ unreached → All (λ x. x ≤ unreached) ds → All (λ x. x ≤ unreached) (lower d cs ds)
unfolding lower
lower_most d [] ds l a = a
lower_most d (c ∷ cs) ds l a = lower_most d cs _ l (all_set (λ x. x ≤ unreached) ds c _ a (omega arith))

descend_most : (g : Graph) (e : ℕ) (ds : List ℕ) → All (λ x. x ≤ unreached) ds → All (λ x. x ≤ unreached) (descend g e ds)
unfolding descend
descend_most g zero ds a = a
descend_most g (suc e) ds a = descend_most g e _ (lower_most _ (g.kids e) ds (omega arith) a)

pub distances_most : (g : Graph) (n q : ℕ) → All (λ x. x ≤ unreached) (distances g n q)
unfolding distances
distances_most g n q =
    descend_most g n _ (all_set (λ x. x ≤ unreached) (replicate n unreached) q 0 (all_replicate (λ x. x ≤ unreached) n unreached (omega arith)) (omega arith))

-- ---- the label list: statements of the table

-- each is a statement, with a label no longer than line width minus indent
pub labels_listed : (w b : List ℕ) (l : Layout) → table_refusal w b ≡ 0 → bad12 w l ≡ false
    → All (λ k. (k < statements w) × (label_length w k ≤ l.width - l.indent)) (labels_of w l)
unfolding labels_of line_room bad12 used
labels_listed w b l ok fit =
    let steps = packed_of w false in
    let room : ℕ = l.width - l.indent in
    let P : ℕ → Type 0 = λ k. k < statements w in
    let from : All P (used w steps) =
    all_keep P _ _ (all_image P (λ (t : Step). t.stmt) (keep is_normal steps) (all_keep (λ (t : Step). P t.stmt) is_normal steps (all_map (StepFits (statements w) (entries w)) _ (λ t f. f.stmt_below) steps (packed_steps_fit w b ok false)))) in
    all_count _ (labels_of w l)
    (λ k h. let there : 1 ≤ count k (used w steps) = omega (arith, count_labels w room steps fit k) in
    (count_all P (used w steps) from k there, labels_narrow w room steps fit k there))

leading_letters : (turns q : ℕ) (xs : List ℕ) → All Letter xs → All Letter (leading turns q xs)
unfolding leading
leading_letters zero q xs a = a
leading_letters (suc turns) zero xs a = a
leading_letters (suc turns) (suc q) xs a = leading_letters turns (q / 5) _ ((omega arith, omega arith), a)

code_letters : (v : ℕ) → All Letter (code v)
unfolding code
code_letters v = leading_letters (v / 20) (v / 20) _ ((omega arith, omega arith), tt)

pub all_letters_lem : (thm labels : List ℕ) (ts : List Step) → All Letter (letters_of thm labels ts)
unfolding letters_of step_letters
all_letters_lem thm labels [] = tt
all_letters_lem thm labels (t ∷ ts) =
    let z : List ℕ = pick (eqb t.mark 0) [] (90 ∷ []) in
    all_append Letter (code (step_number thm labels t) ++ z) (letters_of thm labels ts)
    (all_append Letter (code (step_number thm labels t)) z (code_letters (step_number thm labels t))
    (boole (eqb t.mark 0) (λ h. rw h tt) (λ h. rw h ((omega arith, omega arith), tt))))
    (all_letters_lem thm labels ts)
