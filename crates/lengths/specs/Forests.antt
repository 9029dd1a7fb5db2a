-- Forests: a list of trees in first-child next-sibling form, one data type for the recursions of the proof.
-- The forest below an entry is labelled by entries; relabelled by statements it is the tree that the entry unfolds to.
use Rattle.std.specs.Prelude.{◌≡◌, List, [], ◌∷◌, length}
use Rattle.std.proofs.Math.Path.{refl, sym}
use Rattle.std.proofs.Common.{ap, ap₂, ◌∙◌, arith}
use Prim.Native.Nat.{ℕ, zero, suc, ◌+◌, ◌≤◌, ◌<◌}
use Rattle.defs.specs.Graph.{Graph, Tree, Trees, no_trees, more_trees, trees_by, tree_within, tree_of}
use Rattle.defs.specs.Graph as G
use Rattle.laws.specs.Lists.{All, all_map}

pub data Forest : Type 0 where
  nil : Forest
  node : ℕ → Forest → Forest → Forest

abbrev pub width : Forest → ℕ
width nil = 0
width (node e c b) = suc (width b)

abbrev pub relabel : (ℕ → ℕ) → Forest → Forest
relabel f nil = nil
relabel f (node e c b) = node (f e) (relabel f c) (relabel f b)

-- the forest of a list of entries, given each entry's children forest
abbrev pub trees : (ℕ → Forest) → List ℕ → Forest
trees h [] = nil
trees h (e ∷ es) = node e (h e) (trees h es)

-- the children forest of e, by fuel
unfoldable pub sub_F : (ℕ → List ℕ) → ℕ → ℕ → Forest
sub_F kids zero e = nil
sub_F kids (suc f) e = trees (λ k. sub_F kids f k) (kids e)

-- children lie below their parent, so e is fuel enough
unfoldable pub sub : (ℕ → List ℕ) → ℕ → Forest
unfolding sub_F
sub kids e = sub_F kids e e

-- strong induction
pub by_below {ℓ} : (P : ℕ → Type ℓ) → ((e : ℕ) → ((k : ℕ) → k < e → P k) → P e) → (e : ℕ) → P e
by_below P f e = go (suc e) e (omega arith)
  where
    go : (n e : ℕ) → e < n → P e
    go zero e h = absurd (omega arith)
    go (suc n) e h = f e (λ k l. go n k (omega arith))

trees_cong : (g h : ℕ → Forest) (P : ℕ → Type 0) → ((k : ℕ) → P k → g k ≡ h k) → (es : List ℕ) → All P es → trees g es ≡ trees h es
trees_cong g h P f [] l = refl
trees_cong g h P f (e ∷ es) l = ap₂ (node e) (f e l.0) (trees_cong g h P f es l.1)

pub width_trees : (h : ℕ → Forest) (es : List ℕ) → width (trees h es) ≡ length es
width_trees h [] = refl
width_trees h (e ∷ es) = ap suc (width_trees h es)

trees_none : (h : ℕ → Forest) (n : ℕ) → n ≤ 0 → (es : List ℕ) → All (λ k. k < n) es → nil ≡ trees h es
trees_none h n z [] l = refl
trees_none h n z (e ∷ es) l = absurd (omega (arith, l.0))

module _ (kids : ℕ → List ℕ) (low : (e : ℕ) → All (λ k. k < e) (kids e)) where
  sub_same : (f g e : ℕ) → e ≤ f → e ≤ g → sub_F kids f e ≡ sub_F kids g e
  unfolding sub_F
  sub_same zero zero e a b = refl
  sub_same zero (suc g) e a b = trees_none (sub_F kids g) e a (kids e) (low e)
  sub_same (suc f) zero e a b = sym (trees_none (sub_F kids f) e b (kids e) (low e))
  sub_same (suc f) (suc g) e a b =
      trees_cong (sub_F kids f) (sub_F kids g) (λ k. k < e) (λ k l. sub_same f g k (omega arith) (omega arith)) (kids e) (low e)

  pub sub_fuel : (f e : ℕ) → e ≤ f → sub_F kids f e ≡ sub kids e
  unfolding sub
  sub_fuel f e h = sub_same f e e h (omega arith)

  pub sub_eq : (e : ℕ) → sub kids e ≡ trees (sub kids) (kids e)
  unfolding sub
  sub_eq zero = trees_none (sub kids) 0 (omega arith) (kids 0) (low 0)
  sub_eq (suc f) = trees_cong (sub_F kids f) (sub kids) (λ k. k < suc f) (λ k l. sub_fuel f k (omega arith)) (kids (suc f)) (low (suc f))

-- two graphs that agree below n have the same forests there
pub sub_agree : (a b : ℕ → List ℕ) (n : ℕ) → ((e : ℕ) → e < n → a e ≡ b e) → ((e : ℕ) → All (λ k. k < e) (b e))
    → (f e : ℕ) → e < n → sub_F a f e ≡ sub_F b f e
unfolding sub_F
sub_agree a b n same low zero e l = refl
sub_agree a b n same low (suc f) e l =
    ap (trees (sub_F a f)) (same e l)
    ∙ trees_cong (sub_F a f) (sub_F b f) (λ k. k < e) (λ k m. sub_agree a b n same low f k (omega arith)) (b e) (low e)

-- each node has the children forest of its entry, as many as its statement asks for
abbrev pub Good : (ℕ → ℕ) → (ℕ → List ℕ) → Forest → Type 0
Good want kids nil = Unit
Good want kids (node e c b) = (c ≡ sub kids e) × (want e ≡ width c) × Good want kids c × Good want kids b

module _ (want : ℕ → ℕ) (kids : ℕ → List ℕ) (low : (e : ℕ) → All (λ k. k < e) (kids e)) (n : ℕ)
    (fit : (e : ℕ) → e < n → want e ≡ length (kids e)) where
  good_trees : (es : List ℕ) → All (λ k. (want k ≡ width (sub kids k)) × Good want kids (sub kids k)) es → Good want kids (trees (sub kids) es)
  good_trees [] h = tt
  good_trees (e ∷ es) h = (refl, h.0.0, h.0.1, good_trees es h.1)

  wide : (e : ℕ) → e < n → want e ≡ width (sub kids e)
  wide e l = fit e l ∙ sym (ap width (sub_eq kids low e) ∙ width_trees (sub kids) (kids e))

  pub good_sub : (e : ℕ) → e < n → Good want kids (sub kids e)
  good_sub =
      by_below (λ e. e < n → Good want kids (sub kids e))
      (λ e ih l. rw (sub_eq kids low e)
      (good_trees (kids e) (all_map (λ k. k < e) _ (λ k m. (wide k (omega arith), ih k m (omega arith))) (kids e) (low e))))

  pub good_tree : (e : ℕ) → e < n → Good want kids (node e (sub kids e) nil)
  good_tree e l = (refl, wide e l, good_sub e l, tt)

-- the roots of a forest; every label lies below m
abbrev pub roots : Forest → List ℕ
roots nil = []
roots (node e c b) = e ∷ roots b

abbrev pub Under : ℕ → Forest → Type 0
Under m nil = Unit
Under m (node e c b) = (e < m) × Under m c × Under m b

pub under_more : (m k : ℕ) → m ≤ k → (t : Forest) → Under m t → Under k t
under_more m k l nil u = tt
under_more m k l (node e c b) u = (omega (arith, u.0), under_more m k l c u.1, under_more m k l b u.2)

roots_trees : (h : ℕ → Forest) (es : List ℕ) → roots (trees h es) ≡ es
roots_trees h [] = refl
roots_trees h (e ∷ es) = ap (λ (l : List ℕ). e ∷ l) (roots_trees h es)

under_trees : (h : ℕ → Forest) (m : ℕ) (es : List ℕ) → All (λ k. (k < m) × Under m (h k)) es → Under m (trees h es)
under_trees h m [] a = tt
under_trees h m (e ∷ es) a = (a.0.0, a.0.1, under_trees h m es a.1)

pub width_roots : (t : Forest) → width t ≡ length (roots t)
width_roots nil = refl
width_roots (node e c b) = ap suc (width_roots b)

module _ (kids : ℕ → List ℕ) (low : (e : ℕ) → All (λ k. k < e) (kids e)) where
  pub roots_sub : (e : ℕ) → roots (sub kids e) ≡ kids e
  roots_sub e = ap roots (sub_eq kids low e) ∙ roots_trees (sub kids) (kids e)

  pub under_sub : (e : ℕ) → Under e (sub kids e)
  under_sub =
      by_below (λ e. Under e (sub kids e))
      (λ e ih. rw (sub_eq kids low e)
      (under_trees (sub kids) e (kids e)
      (all_map (λ k. k < e) _ (λ k l. (l, under_more k e (omega arith) (sub kids k) (ih k l))) (kids e) (low e))))

-- how many nodes a forest has: a child's forest has fewer than its parent's
abbrev pub size : Forest → ℕ
size nil = 0
size (node e c b) = suc (size c + size b)

-- ---- the trees of module Graph

abbrev pub as_trees : Forest → Trees
as_trees nil = no_trees
as_trees (node s c b) = more_trees (G.node s (as_trees c)) (as_trees b)

-- the first tree of a forest
abbrev pub as_tree : Forest → Tree
as_tree nil = G.node 0 no_trees
as_tree (node s c b) = G.node s (as_trees c)

-- the tree of an entry, cut below a depth, is the relabelled forest, cut alike
trees_are : (g : Graph) (f : ℕ → Tree) (h : ℕ → Forest) → ((e : ℕ) → f e ≡ G.node (g.stmt e) (as_trees (relabel g.stmt (h e))))
    → (es : List ℕ) → trees_by f es ≡ as_trees (relabel g.stmt (trees h es))
unfolding trees_by
trees_are g f h same [] = refl
trees_are g f h same (e ∷ es) = ap₂ more_trees (same e) (trees_are g f h same es)

tree_within_lem : (g : Graph) (d e : ℕ) → tree_within g d e ≡ G.node (g.stmt e) (as_trees (relabel g.stmt (sub_F g.kids d e)))
unfolding tree_within sub_F
tree_within_lem g zero e = refl
tree_within_lem g (suc d) e = ap (G.node (g.stmt e)) (trees_are g (tree_within g d) (sub_F g.kids d) (tree_within_lem g d) (g.kids e))

pub tree_of_lem : (g : Graph) (e : ℕ) → tree_of g e ≡ G.node (g.stmt e) (as_trees (relabel g.stmt (sub_F g.kids (suc e) e)))
unfolding tree_of
tree_of_lem g e = tree_within_lem g (suc e) e
