-- The statements of the packed list's normal steps are those of the entries that can be reached: so refusal 11 can be read off the list.
use Rattle.std.specs.Prelude.{◌≡◌, refl, true, ◌&&◌, List, [], ◌∷◌, ◌++◌, map}
use Rattle.std.proofs.Math.Path.{sym}
use Rattle.std.proofs.Common.{ap, ap₂, ◌∙◌, arith}
use Prim.Native.Nat.{ℕ, suc, ◌≤◌, ◌<◌, min}
use Rattle.std.proofs.Math.Bool.{Bool, false, not}
use Rattle.std.proofs.Math.Dec.{eqb}
use Rattle.std.proofs.Math.Facts.{and_yes}
use Rattle.laws.specs.Tools.{any, keep, member, count, some_below, firsts}
use Rattle.laws.specs.Lists.{boole, T_of, of_T, eqb_no, find, map-append, keep_append}
use Rattle.laws.specs.Below.{some_below_yes, some_below_at}
use Rattle.laws.specs.Sums.{count_all}
use Rattle.laws.specs.Counting.{some_is, any_map, any_keep, any_same, none_is, count_halves, count_firsts}
use Rattle.defs.specs.Table.{entries, qed, kind, mandatory, hyp_count}
use Rattle.defs.specs.Check.{table_refusal}
use Rattle.defs.specs.Graph.{graph_in, graph_of}
use Rattle.defs.specs.Steps.{Step, is_normal, normal_stmts}
use Rattle.defs.specs.Text.{packed_of}
use Rattle.defs.specs.Order.{used, listed}
use Rattle.defs.specs.Refusals.{bad11}
use Rattle.defs.specs.Checked.{qed_below}
use Rattle.lengths.specs.Forests.{Forest, nil, node}
use Rattle.lengths.specs.Walks.{norm_step, marked, mark, mark_no, marks, packed, packed_back, packed_open}
use Rattle.lengths.specs.Lengths.{exps, exps_back, exps_list, X, X_low, reach_met, met_reach, shared}
use Rattle.lengths.specs.Tables.{kids, low, fit, reach, reach_root, reach_down, reach_least}
use Rattle.lengths.specs.TableWalks.{tree, packed_is_lem}

stmts_append : (xs ys : List Step) → normal_stmts (xs ++ ys) ≡ normal_stmts xs ++ normal_stmts ys
stmts_append xs ys = ap (map (λ (t : Step). t.stmt)) (keep_append is_normal xs ys) ∙ map-append (λ (t : Step). t.stmt) (keep is_normal xs) (keep is_normal ys)

-- those of a packed walk are those of the entries that it goes into
walk_stmts : (pol : ℕ → Bool) (stmt : ℕ → ℕ) (t : Forest) (mk : List ℕ) → normal_stmts (packed pol stmt t mk) ≡ map stmt (exps pol t mk)
unfolding packed exps keep
walk_stmts pol stmt nil mk = refl
walk_stmts pol stmt (node e c b) mk =
    boole (marked e mk)
    (λ h. rw (packed_back pol stmt e c b mk h, exps_back pol e c b mk h, eqb_no (suc (find (eqb e) mk)) 0 (omega arith)) (walk_stmts pol stmt b mk))
    (λ h.
    let mk2 = mark pol e (marks pol c mk) in
    rw (packed_open pol stmt e c b mk h, exps_list pol e c b mk h)
    (stmts_append (packed pol stmt c mk) (norm_step (mark_no pol e (marks pol c mk)) (stmt e) ∷ packed pol stmt b mk2)
    ∙ ap₂ (λ (x y : List ℕ). x ++ (stmt e ∷ y)) (walk_stmts pol stmt c mk) (walk_stmts pol stmt b mk2)
    ∙ sym (map-append stmt (exps pol c mk) (e ∷ exps pol b mk2))))

module _ (w b : List ℕ) (ok : table_refusal w b ≡ 0) where
  abbrev stmt : ℕ → ℕ
  stmt = (graph_of w).stmt

  -- the entries gone into are the reachable ones
  abbrev gone : List ℕ
  gone = X (λ e. hyp_count w (stmt e)) (kids w b ok) (low w b ok) (entries w) (fit w b ok) (qed w) (qed_below w b ok)

  gone_below : (x : ℕ) → 1 ≤ count x gone → x < entries w
  gone_below x h =
      omega (
        arith,
        count_all (λ y. y ≤ qed w) gone (X_low (λ e. hyp_count w (stmt e)) (kids w b ok) (low w b ok) (entries w) (fit w b ok) (qed w) (qed_below w b ok)) x h,
        qed_below w b ok,
      )

  gone_reached : (x : ℕ) → 1 ≤ count x gone → reach w b ok x ≡ true
  gone_reached =
      met_reach (λ e. hyp_count w (stmt e)) (kids w b ok) (low w b ok) (entries w) (fit w b ok) (qed w) (qed_below w b ok) (reach w b ok)
      (reach_root w b ok) (reach_down w b ok) (reach_least w b ok)

  reached_gone : (x : ℕ) → x < entries w → reach w b ok x ≡ true → 1 ≤ count x gone
  reached_gone =
      reach_met (λ e. hyp_count w (stmt e)) (kids w b ok) (low w b ok) (entries w) (fit w b ok) (qed w) (qed_below w b ok) (reach w b ok)
      (reach_root w b ok) (reach_down w b ok) (reach_least w b ok)

  -- a test holds of the statement of some normal step of the packed list exactly where it holds of that of some entry that can be reached
  pub some_reached : (test : ℕ → Bool) → any test (normal_stmts (packed_of w false)) ≡ some_below (λ e. reach w b ok e && test (stmt e)) (entries w)
  some_reached test =
      let both : ℕ → Bool = λ e. reach w b ok e && test (stmt e) in
      let in_list : any test (normal_stmts (packed_of w false)) ≡ any (λ e. test (stmt e)) gone =
      ap (λ (l : List Step). any test (normal_stmts l)) (packed_is_lem w b ok)
      ∙ ap (any test) (walk_stmts (shared (kids w b ok) (entries w)) stmt (tree w b ok) [])
      ∙ any_map test stmt gone in
      in_list
      ∙ boole (some_below both (entries w))
      (λ e.
      let r = some_below_yes both (entries w) e in
      let p = and_yes (reach w b ok r.0) (test (stmt r.0)) (T_of r.2) in
      some_is (λ x. test (stmt x)) gone r.0 (reached_gone r.0 r.1 (of_T (reach w b ok r.0) p.0)) (of_T (test (stmt r.0)) p.1) ∙ sym e)
      (λ e.
      none_is (λ x. test (stmt x)) gone
      (λ x h. rw (gone_reached x h) at (some_below_at both x (entries w) (gone_below x h) e))
      ∙ sym e)

  -- 11: a reachable essential not in the theorem's list is a listed statement of kind 2
  pub stray_listed : bad11 w ≡ any (λ k. eqb (kind w k) 2) (listed w (packed_of w false))
  unfolding bad11 used listed graph_of graph_in
  stray_listed =
      let steps = packed_of w false in
      let essential : ℕ → Bool = λ k. eqb (kind w k) 2 in
      let other : ℕ → Bool = λ k. not (member k (mandatory w)) in
      let each : (k : ℕ) → count k (listed w steps) ≡ min 1 (count k (used w steps)) =
      λ k. count_halves (λ j. eqb (kind w j) 0) k (firsts (used w steps)) ∙ count_firsts k (used w steps) in
      sym (
      any_same essential (listed w steps) (used w steps) (λ x h. omega (arith, each x)) (λ x h. omega (arith, each x))
      ∙ any_keep essential other (normal_stmts steps)
      ∙ some_reached (λ k. essential k && other k)
      )
