-- The two walks of a good table, not explicit, as recursions on QED's unfolding; the length of the packed list.
use Rattle.std.specs.Prelude.{◌≡◌, ℕ, suc, ◌+◌, ◌<◌, false, ◌&&◌}
use Rattle.std.proofs.Common.{sym, ◌∙◌, arith}
use Rattle.std.proofs.Math.Path.{ap, ap₂}
use mathlib.Core.List.{List, []}
use Rattle.std.proofs.Math.ListN.{length}
use Rattle.std.proofs.Math.Dec.{ltb}
use Rattle.laws.specs.Tools.{pick}
use Rattle.laws.specs.Sums.{sum_eq}
use Rattle.defs.specs.Table.{entries, qed, hyp_count}
use Rattle.defs.specs.Check.{table_refusal}
use Rattle.defs.specs.Graph.{graph_of}
use Rattle.defs.specs.Counts.{parents, shared_size}
use Rattle.defs.specs.Steps.{gets_mark, packed_with, packed_steps, normal_steps}
use Rattle.defs.specs.Text.{packed_of, normal_of}
use Rattle.defs.specs.Checked.{qed_below}
use Rattle.lengths.specs.Forests.{Forest, nil, node, sub, Good, good_tree, Under, under_sub, under_more}
use Rattle.lengths.specs.Walks.{never, packed, visit_packed, normal_packed}
use Rattle.lengths.specs.Lengths.{shared, packed_count}
use Rattle.lengths.specs.Lengths as L
use Rattle.lengths.specs.Tables.{kids, agree, low, fit, parents_at, reach, reach_root, reach_down, reach_least}

module _ (w b : List ℕ) (ok : table_refusal w b ≡ 0) where
  abbrev q : ℕ
  q = qed w

  abbrev stmt : ℕ → ℕ
  stmt = (graph_of w).stmt

  abbrev k : ℕ → List ℕ
  k = kids w b ok

  qn : q < entries w
  qn = qed_below w b ok

  -- QED's unfolding, by entries
  abbrev pub tree : Forest
  tree = node q (sub k q) nil

  -- each node of it has the children of its entry
  pub good_q : Good (λ e. hyp_count w (stmt e)) k tree
  good_q = good_tree (λ e. hyp_count w (stmt e)) k (low w b ok) (entries w) (fit w b ok) q qn

  -- its labels are entries of the table
  pub under_q : Under (entries w) tree
  under_q = (qn, under_more q (entries w) (omega (arith, qn)) (sub k q) (under_sub k (low w b ok) q), tt)

  -- which entries are marked: with children and more than one counted parent
  pub pol_is : (e : ℕ) → e < entries w → gets_mark (graph_of w) (parents (graph_of w) (entries w)) e ≡ shared k (entries w) e
  unfolding gets_mark shared L.parents
  pol_is e l = ap₂ (λ (c : List ℕ) (p : ℕ). ltb 0 (length c) && ltb 1 p) (agree w b ok e l) (parents_at w b ok e l)

  -- the packed list marks those
  pub packed_is_lem : packed_of w false ≡ packed (shared k (entries w)) stmt tree []
  unfolding packed_of packed_steps packed_with
  packed_is_lem = visit_packed (graph_of w) (entries w) k (agree w b ok) (low w b ok) (parents (graph_of w) (entries w)) (shared k (entries w)) pol_is q qn

  -- the normal list marks none
  pub normal_is : normal_of w false ≡ packed never stmt tree []
  unfolding normal_of normal_steps
  normal_is = normal_packed (graph_of w) (entries w) k (agree w b ok) (low w b ok) (suc q) q (omega arith) qn

  -- the packed list has the size that demand 3 asks
  pub packed_length : length (packed_of w false) ≡ shared_size (graph_of w) (entries w) (qed w)
  unfolding shared_size
  packed_length =
      ap length packed_is_lem
      ∙ packed_count (λ e. hyp_count w (stmt e)) k (low w b ok) (entries w) (fit w b ok) q qn (reach w b ok) (reach_root w b ok) (reach_down w b ok) (reach_least w b ok) stmt
      ∙ ap (λ (m : ℕ). 1 + m) (sum_eq _ _ (entries w) (λ x l. ap (λ (c : List ℕ). pick (reach w b ok x) (length c) 0) (sym (agree w b ok x l))))
