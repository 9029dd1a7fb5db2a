-- Reading back a table's walks: both give one new table, whose last entry unfolds to the QED tree.
use Rattle.std.specs.Prelude.{◌≡◌, ℕ, suc, ◌-◌, ◌*◌, ◌/◌, ◌%◌, ◌≤◌, ◌<◌, Bool, false, length}
use Rattle.std.proofs.Math.Path.{sym, ap, fun_ext}
use Rattle.std.proofs.Common.{ap₂, ◌∙◌, arith}
use mathlib.Core.List.{List, [], ◌∷◌, append-nil}
use Rattle.defs.specs.Table.{entries, child_refs, qed, hyp_count}
use Rattle.defs.specs.Check.{table_refusal, first_of, or_else}
use Rattle.defs.specs.Graph.{graph_of, graph_in, tree_of}
use Rattle.defs.specs.Graph as G
use Rattle.defs.specs.Steps.{Step, step_size, flat}
use Rattle.defs.specs.Text.{packed_of, normal_of}
use Rattle.defs.specs.Replay.{going, fresh, all_steps, replayed, replay_first, settled, replay_outcome}
use Rattle.roundtrip.specs.Terms.{new_table, Reads}
use Rattle.defs.specs.Laws.{flat_length, steps_flat, good}
use Rattle.defs.specs.Checked.{qed_below, header}
use Rattle.laws.specs.Lists.{eqb_yes, leb_no, All}
use Rattle.lengths.specs.Forests.{Forest, relabel, trees, sub_F, sub, sub_fuel, sub_agree, as_tree, as_trees, tree_of_lem}
use Rattle.lengths.specs.Walks.{never, packed}
use Rattle.lengths.specs.Lengths.{shared}
use Rattle.lengths.specs.Tables.{kids, agree, low, fit, stmt_below, kids_sum}
use Rattle.lengths.specs.TableWalks.{tree, good_q, under_q, packed_is_lem, normal_is}
use Rattle.roundtrip.specs.Stores.{Ent, stmt_S, kids_S, refs, look, intern, intern_in, Wf, wf_intern, read_back, idx}
use Rattle.roundtrip.specs.Words.{ents, chil, rep, ents_length, graph_stmt, graph_kids}
use Rattle.roundtrip.specs.Replays.{Room, run}
use Rattle.roundtrip.specs.NewTables.{Fine}
use Rattle.roundtrip.proofs.NewTables.{fine_intern, graph_is, new_good}
use Rattle.roundtrip.specs.Sizes.{store_size, last_entry}

-- a replay of these steps that ends with the store st is read as its words
reads : (w b : List ℕ) (list : List Step) (st : List Ent) → table_refusal w b ≡ 0 → length st ≤ entries w → refs st ≤ child_refs w
    → ((rb rk : ℕ) → Room w rb rk st → (stk ms : List ℕ) × (all_steps w rb rk list fresh ≡ going (rep st stk ms)))
    → Reads w b (flat list) (ents 0 st) (chil st)
unfolding Reads replay_outcome replay_first or_else first_of replayed settled
reads w b list st ok hn hc does work outBuilt outKids hw hb hk =
    let h = header w (good w b ok).ok1 in
    let d = does (length outBuilt) (length outKids) (omega (arith, h.n_most, h.c_most)) in
    rw (
      ok,
      eqb_yes (length (flat list) % step_size) 0 (omega (arith, flat_length list)),
      leb_no (suc (length work)) (2 * (length (flat list) / step_size)) (omega (arith, flat_length list)),
      steps_flat list,
      d.2,
    )

module _ (w b : List ℕ) (ok : table_refusal w b ≡ 0) where
  abbrev q : ℕ
  q = qed w

  abbrev stmt : ℕ → ℕ
  stmt = (graph_of w).stmt

  abbrev k : ℕ → List ℕ
  k = kids w b ok

  qn : q < entries w
  qn = qed_below w b ok

  -- QED's unfolding, by entries
  abbrev t : Forest
  t = tree w b ok

  -- what is built
  unfoldable pub store : List Ent
  store = intern (relabel stmt t) []

  -- ---- replay

  replay_any : (pol : ℕ → Bool) (rb rk : ℕ) → Room w rb rk store
      → (stk ms : List ℕ) × (all_steps w rb rk (packed pol stmt t []) fresh ≡ going (rep store stk ms))
  unfolding store fresh all_steps look
  replay_any pol rb rk room =
      let r = (run w rb rk stmt k (entries w) (stmt_below w b ok) pol t (good_q w b ok) (under_q w b ok) [] [] tt room).0 [] [] in
      (_, _, ap (λ (l : List Step). all_steps w rb rk l fresh) (sym (append-nil (packed pol stmt t []))) ∙ r)

  store_fits : (length store ≤ entries w) × (refs store ≤ child_refs w)
  unfolding store
  store_fits =
      let s = store_size stmt (λ e. hyp_count w (stmt e)) k (low w b ok) (entries w) (fit w b ok) q qn in
      (s.0, omega (arith, s.1, kids_sum w b ok))

  any_read : (pol : ℕ → Bool) → Reads w b (flat (packed pol stmt t [])) (ents 0 store) (chil store)
  any_read pol = reads w b (packed pol stmt t []) store ok store_fits.0 store_fits.1 (replay_any pol)

  pub normal_reads : Reads w b (flat (normal_of w false)) (ents 0 store) (chil store)
  normal_reads = rw (normal_is w b ok) (any_read never)

  pub packed_reads : Reads w b (flat (packed_of w false)) (ents 0 store) (chil store)
  packed_reads = rw (packed_is_lem w b ok) (any_read (shared k (entries w)))

  -- ---- the last entry, and its tree

  last : (1 ≤ length store) × (idx stmt k store q ≡ length store - 1)
  unfolding store
  last = last_entry stmt (λ e. hyp_count w (stmt e)) k (low w b ok) (entries w) (fit w b ok) q qn

  wf : Wf store
  unfolding store
  wf = wf_intern (relabel stmt t) [] (λ i. tt)

  -- the tree of a place in the store
  new_tree : (i : ℕ) → tree_of (graph_in (ents 0 store) (chil store)) i ≡ as_tree (relabel (stmt_S store) (trees (sub (kids_S store)) (i ∷ [])))
  new_tree i =
      let g' = graph_in (ents 0 store) (chil store) in
      let es : g'.stmt ≡ stmt_S store = fun_ext (graph_stmt store) in
      let ek : g'.kids ≡ kids_S store = fun_ext (graph_kids store) in
      tree_of_lem g' i
      ∙ ap₂ (λ (s : ℕ → ℕ) (c : ℕ → List ℕ). G.node (s i) (as_trees (relabel s (sub_F c (suc i) i)))) es ek
      ∙ ap (λ (f : Forest). G.node (stmt_S store i) (as_trees (relabel (stmt_S store) f))) (sub_fuel (kids_S store) wf (suc i) i (omega arith))

  old_tree : tree_of (graph_of w) q ≡ as_tree (relabel stmt t)
  old_tree =
      tree_of_lem (graph_of w) q
      ∙ ap (λ (f : Forest). G.node (stmt q) (as_trees (relabel stmt f)))
      (sub_agree (graph_of w).kids k (entries w) (agree w b ok) (low w b ok) (suc q) q qn ∙ sub_fuel k (low w b ok) (suc q) q (omega arith))

  in_store : relabel (stmt_S store) (trees (sub (kids_S store)) (look store (relabel stmt t))) ≡ relabel stmt t
  unfolding store
  in_store = read_back store wf (relabel stmt t) (intern_in (relabel stmt t) [])

  -- ---- the new table

  abbrev pub new : List ℕ
  new = new_table w (ents 0 store) (chil store)

  fine : All (Fine w) store
  unfolding store
  fine = fine_intern w stmt k (entries w) (stmt_below w b ok) t (good_q w b ok) (under_q w b ok) [] tt

  pub new_table_lem : table_refusal new b ≡ 0
  new_table_lem = new_good w b ok store last.0 store_fits wf fine

  pub unfold_back : tree_of (graph_of new) (qed new) ≡ tree_of (graph_of w) q
  unfolding look new_table
  unfold_back =
      let i : qed new ≡ idx stmt k store q = omega (arith, ents_length 0 store, last.1) in
      ap (tree_of (graph_of new)) i
      ∙ ap (λ (g : G.Graph). tree_of g (idx stmt k store q)) (graph_is w b ok store last.0 store_fits wf fine)
      ∙ new_tree (idx stmt k store q) ∙ ap as_tree in_store ∙ sym old_tree
