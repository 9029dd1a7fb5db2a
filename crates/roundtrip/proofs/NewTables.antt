-- The new table: a table's statements with the words of a store. Its sections are the old ones and the store's words,
-- so that tests 2 to 4 are those of the old table, and tests 5 and 6 those of the store.
use Rattle.std.specs.Prelude.{◌≡◌, false, get_or, take, T}
use Rattle.std.proofs.Math.Path.{refl, sym, ap}
use Rattle.std.proofs.Common.{◌∙◌, arith, take_at, drop_at}
use Prim.Native.Nat.{ℕ, zero, suc, ◌+◌, ◌*◌, ◌/◌, ◌≤◌, ◌<◌}
use Rattle.std.proofs.Math.Bool.{Bool}
use mathlib.Core.List.{List, [], ◌∷◌, ◌++◌, append_assoc, append-nil}
use Rattle.std.proofs.Math.ListN.{length, length-append}
use Rattle.laws.specs.Tools.{part, all_of, all_below, sum_below}
use Rattle.laws.specs.Lists.{boole, found, all_snoc, all_at, below_all, of_T, not_no, eqb_yes, leb_yes, All}
use Rattle.laws.specs.Below.{all_below_all}
use Rattle.laws.specs.Sums.{sum_eq}
use Rattle.defs.specs.Table.{header_size, max_entries, max_child_refs, stmt_size, entry_size, statements, references, entries, child_refs, theorem, qed, hyps_from, entries_from, statement_words, hyp_words, entry_words, child_words, entry_stmt_in, child_start_in, child_count_in, kind, hyp_count}
use Rattle.defs.specs.Check.{table_refusal, first_of, header_rules, entry_rules, entries_rules, children_below, goal_rules, bad1, bad2, bad3, bad4, bad5, bad6, bad7}
use Rattle.defs.specs.Graph.{graph_in, graph_of}
use Rattle.defs.specs.Laws.{good}
use Rattle.defs.specs.Checked.{header, sections, theorem_below, theorem_kind}
use Rattle.roundtrip.specs.Terms.{new_table}
use Rattle.roundtrip.specs.Stores.{Ent, is, stmt_S, kids_S, refs, look, put, put_known, put_new, look_length, intern, Wf}
use Rattle.lengths.specs.Forests.{Forest, nil, node, relabel, Under}
use Rattle.lengths.specs.Forests as F
use Rattle.roundtrip.specs.Words.{ents, chil, ents_length, chil_length, before, ent_stmt, ent_start, ent_count, graph_kids}
use Rattle.roundtrip.specs.NewTables.{Fine}

-- a part between two others
part_seam : (a n : ℕ) (xs ys zs : List ℕ) → length xs ≡ a → length ys ≡ n → part a n (xs ++ (ys ++ zs)) ≡ ys
part_seam a n xs ys zs ea en = ap (take n) (drop_at xs (ys ++ zs) a ea) ∙ take_at ys zs n en

-- ---- child starts are running sums

before_most : (st : List Ent) (i : ℕ) → before st i ≤ refs st
unfolding refs
before_most [] i = omega arith
before_most (k ∷ st) zero = omega arith
before_most (k ∷ st) (suc i) = omega (arith, before_most st i)

before_next : (st : List Ent) (i : ℕ) → i < length st → before st (suc i) ≡ before st i + length (kids_S st i)
before_next [] i l = absurd (omega arith)
before_next (k ∷ []) zero l = omega arith
before_next (k ∷ x ∷ st) zero l = omega arith
before_next (k ∷ st) (suc i) l = omega (arith, before_next st i (omega arith))

before_first : (st : List Ent) → before st 0 ≡ 0
before_first [] = refl
before_first (k ∷ st) = refl

before_sum : (st : List Ent) (i : ℕ) → i ≤ length st → sum_below (λ x. length (kids_S st x)) i ≡ before st i
unfolding sum_below
before_sum st zero l = sym (before_first st)
before_sum st (suc i) l = omega (arith, before_sum st i (omega arith), before_next st i l)

before_all : (st : List Ent) → before st (length st) ≡ refs st
unfolding refs
before_all [] = refl
before_all (k ∷ st) = omega (arith, before_all st)

-- interning a table's forest puts only such
pub fine_intern : (w : List ℕ) (stmt : ℕ → ℕ) (kids : ℕ → List ℕ) (n : ℕ) → ((e : ℕ) → e < n → stmt e < statements w) → (t : Forest)
    → F.Good (λ e. hyp_count w (stmt e)) kids t → Under n t → (st : List Ent) → All (Fine w) st → All (Fine w) (intern (relabel stmt t) st)
unfolding intern
fine_intern w stmt kids n below nil g u st a = a
fine_intern w stmt kids n below (node e c t) g u st a =
    let st1 = intern (relabel stmt c) st in
    let k : Ent = (stmt e, look st1 (relabel stmt c)) in
    let fine-k : Fine w k = (below e u.0, look_length st1 stmt c ∙ sym g.1) in
    let a1 = fine_intern w stmt kids n below c g.2 u.1 st a in
    fine_intern w stmt kids n below t g.3 u.2 (put k st1)
    (boole (found (is k) st1) (λ h. rw (put_known k st1 h) a1) (λ h. rw (put_new k st1 h) (all_snoc (Fine w) st1 k a1 fine-k)))

module _ (w b : List ℕ) (ok : table_refusal w b ≡ 0) (st : List Ent) (some_one : 1 ≤ length st) (fits : (length st ≤ entries w) × (refs st ≤ child_refs w))
    (wf : Wf st) (fine : All (Fine w) st) where
  abbrev v : List ℕ
  v = new_table w (ents 0 st) (chil st)

  -- its header, statements and hypotheses
  abbrev head : List ℕ
  head = take header_size v

  abbrev ss : List ℕ
  ss = statement_words w

  abbrev hs : List ℕ
  hs = hyp_words w

  as_many : length (ents 0 st) / entry_size ≡ length st
  as_many = omega (arith, ents_length 0 st)

  -- ---- its sections

  same_statements : statement_words v ≡ ss
  unfolding new_table statement_words
  same_statements = part_seam header_size (stmt_size * statements w) head ss (hs ++ (ents 0 st ++ chil st)) refl (sections w (good w b ok).ok1).statements_long

  front : length (head ++ ss) ≡ hyps_from w
  unfolding new_table
  front = length-append head ss ∙ omega (arith, (sections w (good w b ok).ok1).statements_long)

  front2 : length ((head ++ ss) ++ hs) ≡ entries_from w
  front2 = length-append (head ++ ss) hs ∙ omega (arith, front, (sections w (good w b ok).ok1).hyps_long)

  -- the words, with the seam after the statements, after the hypotheses, after the entries
  seam1 : v ≡ (head ++ ss) ++ (hs ++ (ents 0 st ++ chil st))
  unfolding new_table
  seam1 = sym (append_assoc head ss (hs ++ (ents 0 st ++ chil st)))

  seam2 : v ≡ ((head ++ ss) ++ hs) ++ (ents 0 st ++ chil st)
  seam2 = seam1 ∙ sym (append_assoc (head ++ ss) hs (ents 0 st ++ chil st))

  seam3 : v ≡ (((head ++ ss) ++ hs) ++ ents 0 st) ++ (chil st ++ [])
  seam3 = seam2 ∙ sym (append_assoc ((head ++ ss) ++ hs) (ents 0 st) (chil st)) ∙ ap (λ (l : List ℕ). (((head ++ ss) ++ hs) ++ ents 0 st) ++ l) (sym (append-nil (chil st)))

  same_hyps : hyp_words v ≡ hs
  unfolding new_table hyp_words
  same_hyps =
      ap (part (hyps_from w) (references w)) seam1
      ∙ part_seam (hyps_from w) (references w) (head ++ ss) hs (ents 0 st ++ chil st) front (sections w (good w b ok).ok1).hyps_long

  entries_are : entry_words v ≡ ents 0 st
  unfolding new_table entry_words
  entries_are =
      ap (part (entries_from w) (entry_size * (length (ents 0 st) / entry_size))) seam2
      ∙ part_seam (entries_from w) (entry_size * (length (ents 0 st) / entry_size)) ((head ++ ss) ++ hs) (ents 0 st) (chil st) front2 (omega (arith, ents_length 0 st))

  children_are : child_words v ≡ chil st
  unfolding new_table child_words
  children_are =
      let from : ℕ = entries_from w + entry_size * (length (ents 0 st) / entry_size) in
      ap (part from (length (chil st))) seam3
      ∙ part_seam from (length (chil st)) (((head ++ ss) ++ hs) ++ ents 0 st) (chil st) []
      (length-append ((head ++ ss) ++ hs) (ents 0 st) ∙ omega (arith, front2, ents_length 0 st)) refl

  -- so its entries are those of the words read
  pub graph_is : graph_of v ≡ graph_in (ents 0 st) (chil st)
  unfolding graph_of
  graph_is = rw (entries_are, children_are)

  v_length : length v ≡ entries_from w + entry_size * length st + refs st
  v_length = ap length seam2 ∙ length-append ((head ++ ss) ++ hs) (ents 0 st ++ chil st) ∙ omega (arith, front2, length-append (ents 0 st) (chil st), ents_length 0 st, chil_length st)

  -- ---- the tests

  good1 : bad1 v ≡ false
  unfolding bad1 header_rules all_of new_table
  good1 =
      let h = header w (good w b ok).ok1 in
      let n : ℕ = length (ents 0 st) / entry_size in
      rw (
        leb_yes header_size (length v) (omega (arith, v_length)),
        leb_yes _ _ h.s_most,
        leb_yes _ _ h.h_most,
        leb_yes n max_entries (omega (arith, h.n_most, as_many)),
        leb_yes (length (chil st)) max_child_refs (omega (arith, h.c_most, chil_length st)),
        eqb_yes (hyps_from w) _ refl,
        eqb_yes (entries_from w) _ refl,
        eqb_yes (entries_from w + entry_size * n) _ refl,
        eqb_yes (length v) (entries_from w + entry_size * n + length (chil st)) (omega (arith, v_length, as_many, chil_length st)),
      )

  good2 : bad2 v b ≡ false
  unfolding bad2 new_table
  good2 = rw same_statements (good w b ok).ok2

  good3 : bad3 v b ≡ false
  unfolding bad3 new_table
  good3 = rw same_statements (good w b ok).ok3

  good4 : bad4 v ≡ false
  unfolding bad4 new_table
  good4 = rw (same_statements, same_hyps) (good w b ok).ok4

  -- the line of an entry of the store
  good_line : (e : ℕ) → e < length st → (entry_stmt_in (ents 0 st) e ≡ stmt_S st e) × (child_start_in (ents 0 st) e ≡ before st e) × (child_count_in (ents 0 st) e ≡ length (kids_S st e))
  good_line e l = (
    ent_stmt 0 st e,
    ap (λ (j : ℕ). get_or (ents 0 st) j 0) (omega arith) ∙ ent_start 0 st e l ∙ omega arith,
    ap (λ (j : ℕ). get_or (ents 0 st) j 0) (omega arith) ∙ ent_count 0 st e,
  )

  starts : (e : ℕ) → e ≤ length st → sum_below (child_count_in (ents 0 st)) e ≡ before st e
  starts e l = sum_eq (child_count_in (ents 0 st)) (λ x. length (kids_S st x)) e (λ x m. (good_line x (omega arith)).2) ∙ before_sum st e l

  good_entry : (e : ℕ) → e < length st → T (all_of (entry_rules ss (ents 0 st) (statements w) (length (chil st)) e))
  unfolding entry_rules all_of
  good_entry e l =
      let es = ents 0 st in
      let c : ℕ = length (chil st) in
      let line = good_line e l in
      let f : Fine w (get_or st e (0, [])) = all_at (Fine w) st (0, []) fine e l in
      rw (
        leb_yes (suc (entry_stmt_in es e)) (statements w) (omega (arith, line.0, f.0)),
        eqb_yes (child_start_in es e) (sum_below (child_count_in es) e) (line.1 ∙ sym (starts e (omega arith))),
        eqb_yes (child_count_in es e) (hyp_count w (entry_stmt_in es e)) (line.2 ∙ f.1 ∙ ap (hyp_count w) (sym line.0)),
        leb_yes (child_start_in es e + child_count_in es e) c (omega (arith, line.1, line.2, before_next st e l, before_most st (suc e), chil_length st)),
      )
      tt

  good5 : bad5 v ≡ false
  unfolding bad5 entries_rules all_of new_table
  good5 =
      let es = ents 0 st in
      let c : ℕ = length (chil st) in
      let n : ℕ = length es / entry_size in
      let test : ℕ → Bool = λ e. all_of (entry_rules ss es (statements w) c e) in
      rw (
        same_statements,
        entries_are,
        of_T (all_below test n) (all_below_all test n (λ e l. good_entry e (omega (arith, as_many)))),
        eqb_yes (sum_below (child_count_in es) n) c (ap (sum_below (child_count_in es)) as_many ∙ starts (length st) (omega arith) ∙ before_all st ∙ sym (chil_length st)),
      )

  good6 : bad6 v ≡ false
  unfolding bad6 children_below new_table graph_in
  good6 =
      let test : ℕ → Bool = children_below (ents 0 st) (chil st) in
      rw (entries_are, children_are)
      (not_no (all_below test (length (ents 0 st) / entry_size))
      (all_below_all test (length (ents 0 st) / entry_size) (λ e l. rw (graph_kids st e) (below_all e (kids_S st e) (wf e)))))

  good7 : bad7 v ≡ false
  unfolding bad7 goal_rules all_of new_table
  good7 =
      let n : ℕ = length (ents 0 st) / entry_size in
      rw (
        same_statements,
        leb_yes (suc (theorem w)) (statements w) (theorem_below w b ok),
        eqb_yes (kind w (theorem w)) 0 (theorem_kind w b ok),
        leb_yes (suc (qed v)) n (omega (arith, as_many)),
      )

  pub new_good : table_refusal v b ≡ 0
  unfolding table_refusal first_of
  new_good = rw (good1, good2, good3, good4, good5, good6, good7)
