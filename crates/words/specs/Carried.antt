-- What every step of a packed or normal list carries: the parent and index words of the root or of a child, and a mark only where it is
-- no reference.
use Rattle.std.specs.Prelude.{◌≡◌, refl, Bool, length, eqb}
use Rattle.std.proofs.Math.Bool.{true, false}
use mathlib.Core.List.{List, [], ◌∷◌}
use Prim.Native.Nat.{ℕ, zero, suc, ◌+◌, ◌-◌, ◌≤◌, ◌<◌}
use native.Mathlib.Omega.{arith}
use Rattle.std.proofs.Math.ListN.{replicate}
use Rattle.laws.specs.Lists.{All, all_append, all_snoc, all_below_lem, boole}
use Rattle.defs.specs.Table.{statements, entries, qed, statement_words, hyp_count_in}
use Rattle.defs.specs.Check.{table_refusal}
use Rattle.defs.specs.Graph.{Graph, graph_in, graph_of}
use Rattle.defs.specs.Counts.{parents}
use Rattle.defs.specs.Steps.{Step, Walk, mark_of, parent_word, index_word, refer, finish, each_child, visit, packed_with, packed_steps, list_children, normal_within, normal_steps}
use Rattle.defs.specs.Text.{packed_of, normal_of}
use Rattle.defs.specs.Laws.{Falls}
use Rattle.defs.specs.Checked.{entry_ok, falls, qed_below}
use Rattle.defs.specs.Ranges.{StepFits}
use Rattle.defs.proofs.Ranges.{packed_steps_fit, normal_steps_fit}

-- ---- whatever holds of the words of the root, and of those of each child

module _ (g : Graph) (n : ℕ) (fall : Falls g n) (explicit : Bool) (Q : ℕ → ℕ → Type 0) (root : Q 0 0)
    (child : (e j : ℕ) → e < n → j < length (g.kids e) → Q (parent_word explicit (g.stmt e)) (index_word explicit j)) where
  -- holds of each step
  abbrev Carries : Step → Type 0
  Carries t = Q t.parent t.index × (¬ (t.ref ≡ 0) → t.mark ≡ 0)

  refer_carries : (e parent index : ℕ) (r : Walk) → Q parent index → All Carries r.out → All Carries (refer e parent index r).out
  unfolding refer
  refer_carries e parent index r q a = all_snoc Carries r.out _ a (q, λ h. refl)

  finish_carries : (ps : List ℕ) (e parent index : ℕ) (r : Walk) → Q parent index → All Carries r.out → All Carries (finish g ps e parent index r).out
  unfolding finish
  finish_carries ps e parent index r q a = all_snoc Carries r.out _ a (q, λ h. absurd (h refl))

  each_carries : (e m : ℕ) (f : ℕ → ℕ → Walk → Walk) → ((c j : ℕ) (r : Walk) → c < e → j < m → All Carries r.out → All Carries (f c j r).out)
      → (j : ℕ) (cs : List ℕ) → j + length cs ≤ m → All (λ c. c < e) cs → (r : Walk) → All Carries r.out → All Carries (each_child f j cs r).out
  unfolding each_child
  each_carries e m f h j [] l a r k = k
  each_carries e m f h j (c ∷ cs) l a r k = each_carries e m f h (suc j) cs (omega arith) a.1 (f c j r) (h c j r a.0 (omega arith) k)

  visit_carries : (ps : List ℕ) (depth e parent index : ℕ) (r : Walk) → e < n → Q parent index → All Carries r.out
      → All Carries (visit g ps explicit depth e parent index r).out
  unfolding visit Falls
  visit_carries ps zero e parent index r l q a = a
  visit_carries ps (suc depth) e parent index r l q a =
      let f : ℕ → ℕ → Walk → Walk = λ c j. visit g ps explicit depth c (parent_word explicit (g.stmt e)) (index_word explicit j) in
      let below = each_carries e (length (g.kids e)) f (λ c j t h m k. visit_carries ps depth c _ _ t (omega arith) (child e j l m) k)
      0 (g.kids e) (omega arith) (all_below_lem e (g.kids e) (fall e l)) r a in
      boole (eqb (mark_of r e) 0)
      (λ y. rw y (finish_carries ps e parent index (each_child f 0 (g.kids e) r) q below))
      (λ y. rw y (refer_carries e parent index r q a))

  pub packed_carries : (ps : List ℕ) (q : ℕ) → q < n → All Carries (packed_with ps g n q explicit)
  unfolding packed_with
  packed_carries ps q l = visit_carries ps (suc q) q 0 0 (record { marks = replicate n 0; given = 0; out = [] }) l root tt

  children_carry : (e m : ℕ) (f : ℕ → ℕ → List Step) → ((c j : ℕ) → c < e → j < m → All Carries (f c j))
      → (j : ℕ) (cs : List ℕ) → j + length cs ≤ m → All (λ c. c < e) cs → All Carries (list_children f j cs)
  unfolding list_children
  children_carry e m f h j [] l a = tt
  children_carry e m f h j (c ∷ cs) l a = all_append Carries (f c j) _ (h c j a.0 (omega arith)) (children_carry e m f h (suc j) cs (omega arith) a.1)

  within_carries : (depth e parent index : ℕ) → e < n → Q parent index → All Carries (normal_within g explicit depth e parent index)
  unfolding normal_within Falls
  within_carries zero e parent index l q = tt
  within_carries (suc depth) e parent index l q =
      let f : ℕ → ℕ → List Step = λ c j. normal_within g explicit depth c (parent_word explicit (g.stmt e)) (index_word explicit j) in
      all_snoc Carries (list_children f 0 (g.kids e)) _
      (children_carry e (length (g.kids e)) f (λ c j h m. within_carries depth c _ _ (omega arith) (child e j l m))
      0 (g.kids e) (omega arith) (all_below_lem e (g.kids e) (fall e l)))
      (q, λ h. refl)

  pub normal_carries : (q : ℕ) → q < n → All Carries (normal_steps g q explicit)
  unfolding normal_steps
  normal_carries q l = within_carries (suc q) q 0 0 l root

-- ---- of a table that is not refused: a parent is a statement, and the index lies in its list

pub record HypOk (ss : List ℕ) (s parent index : ℕ) : Type 0 where
  pub at_root : parent ≡ 0 → index ≡ 0
  pub parent_below : ¬ (parent ≡ 0) → parent - 1 < s
  pub index_below : ¬ (parent ≡ 0) → index < hyp_count_in ss (parent - 1)

-- the words of each step are in their ranges too, where m marks are given
pub record StepSound (w : List ℕ) (m : ℕ) (t : Step) : Type 0 where
  pub fits : StepFits (statements w) m t
  pub hyp : HypOk (statement_words w) (statements w) t.parent t.index
  pub one_name : ¬ (t.ref ≡ 0) → t.mark ≡ 0

module _ (w b : List ℕ) (ok : table_refusal w b ≡ 0) where
  root_ok : HypOk (statement_words w) (statements w) 0 0
  root_ok = record { at_root = λ e. refl; parent_below = λ h. absurd (h refl); index_below = λ h. absurd (h refl) }

  child_ok : (explicit : Bool) (e j : ℕ) → e < entries w → j < length ((graph_of w).kids e)
      → HypOk (statement_words w) (statements w) (parent_word explicit ((graph_of w).stmt e)) (index_word explicit j)
  unfolding graph_of graph_in
  child_ok true e j l m =
      let k = entry_ok w b ok e l in
      let p : (graph_of w).stmt e + 1 - 1 ≡ (graph_of w).stmt e = omega arith in
      record {
        at_root = λ z. absurd (omega arith);
        parent_below = λ h. omega (arith, k.stmt_below);
        index_below = λ h. rw p (omega (arith, k.as_many, k.have_length));
      }
  child_ok false e j l m = root_ok

  sound : (m : ℕ) (ts : List Step) → All (StepFits (statements w) m) ts
      → All (λ t. HypOk (statement_words w) (statements w) t.parent t.index × (¬ (t.ref ≡ 0) → t.mark ≡ 0)) ts → All (StepSound w m) ts
  sound m [] f c = tt
  sound m (t ∷ ts) f c = (record { fits = f.0; hyp = c.0.0; one_name = c.0.1 }, sound m ts f.1 c.1)

  pub packed_sound : (explicit : Bool) → All (StepSound w (entries w)) (packed_of w explicit)
  unfolding packed_of packed_steps
  packed_sound explicit =
      sound (entries w) (packed_of w explicit) (packed_steps_fit w b ok explicit)
      (packed_carries (graph_of w) (entries w) (falls w b ok) explicit (HypOk (statement_words w) (statements w)) root_ok (child_ok explicit)
      (parents (graph_of w) (entries w)) (qed w) (qed_below w b ok))

  pub normal_sound : (explicit : Bool) → All (StepSound w 0) (normal_of w explicit)
  unfolding normal_of
  normal_sound explicit =
      sound 0 (normal_of w explicit) (normal_steps_fit w b ok explicit)
      (normal_carries (graph_of w) (entries w) (falls w b ok) explicit (HypOk (statement_words w) (statements w)) root_ok (child_ok explicit) (qed w) (qed_below w b ok))
