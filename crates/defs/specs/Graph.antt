-- Entries as a graph: what a walk needs to know of a table, or of the entries that a replay built.
use Rattle.std.specs.Prelude.{ℕ, zero, suc, List, [], ◌∷◌}
use Rattle.defs.specs.Table.{entry_words, child_words, entry_stmt_in, children_in}

-- each entry's statement and its children in order
pub record Graph : Type 0 where
  pub stmt : ℕ → ℕ
  pub kids : ℕ → List ℕ

-- the entries that stand in an entry section and its child section: a table's, or as replay writes them
unfoldable pub graph_in : (es cs : List ℕ) → Graph
graph_in es cs = record { stmt = entry_stmt_in es; kids = children_in es cs }

-- a table's entries
unfoldable pub graph_of : List ℕ → Graph
graph_of w = graph_in (entry_words w) (child_words w)

-- a proof tree: a statement applied to the trees of its hypotheses, in order (antt has no lists of the type being declared)
mutual
  pub data Tree : Type 0 where
    node : ℕ → Trees → Tree

  pub data Trees : Type 0 where
    no_trees : Trees
    more_trees : Tree → Trees → Trees

-- the trees of a list of entries
unfoldable pub trees_by : (ℕ → Tree) → List ℕ → Trees
trees_by tree [] = no_trees
trees_by tree (e ∷ es) = more_trees (tree e) (trees_by tree es)

-- the tree of entry e, cut below `depth`
unfoldable pub tree_within : Graph → ℕ → ℕ → Tree
tree_within g zero e = node (g.stmt e) no_trees
tree_within g (suc depth) e = node (g.stmt e) (trees_by (λ c. tree_within g depth c) (g.kids e))

-- what an entry unfolds to: children lie below their parents, so nothing is cut at depth e + 1
unfoldable pub tree_of : Graph → ℕ → Tree
tree_of g e = tree_within g (suc e) e
