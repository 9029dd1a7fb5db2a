-- What a table that is not refused gives, one named fact each: its header, sections, statements, hypothesis references, entries, theorem and QED.
use Rattle.std.specs.Prelude.{◌≡◌, ◌⊎◌, zero, suc, ◌+◌, ◌*◌, ℕ, ◌≤◌, ◌<◌, Bool, false, not, List, length, get_or, take, drop, T, ltb, eqb}
use Rattle.std.proofs.Common.{inl, inr, arith, take-add, T_not, ltb→lt, leb→le, eqb→eq}
use Rattle.std.proofs.Math.Facts.{and_yes, or_yes}
use Rattle.std.proofs.Math.Seq.{take-length}
use Rattle.std.proofs.Math.Decide.{ℕ_discrete}
use Rattle.laws.specs.Tools.{sum_below, all, all_of, all_below, some_below, same, repeats}
use Rattle.laws.specs.Lists.{all_join, passed, all_member, part_length, part_at, or_no, T_of, eqb_yes}
use Rattle.laws.specs.Below.{all_below_at, some_below_at, each}
use Rattle.defs.specs.Table.{word, header_size, statements, references, entries, child_refs, max_statements, max_references, max_entries, max_child_refs, max_label_length, stmt_size, entry_size, theorem, qed, hyps_from, entries_from, children_from, whole_length, statement_words, hyp_words, entry_words, child_words, label_in, hyps_in, kind, label_start, label_length, hyp_start, hyp_count, label, hyps, hyp_ref, entry_stmt, child_start, child_count, children}
use Rattle.defs.specs.Table.{children_in}
use Rattle.defs.specs.Check.{table_refusal, header_rules, statement_rules, statements_rules, label_byte, label_wrong, label_again, reference_ok, hyps_repeat, entry_rules, entries_rules, children_below, goal_rules, bad1, bad2, bad3, bad4, bad5, bad6, bad7}
use Rattle.defs.specs.Graph.{graph_in, graph_of}
use Rattle.defs.specs.Counts.{distances, unreached, IsDistance, DistanceLaw}
use Rattle.defs.specs.Laws.{good, Falls}
use Rattle.defs.specs.DistanceLaws.{distance_law}

-- ---- the header of a table that test 1 lets pass

pub record HeaderOk (w : List ℕ) : Type 0 where
  pub ten : header_size ≤ length w
  pub s_most : statements w ≤ max_statements
  pub h_most : references w ≤ max_references
  pub n_most : entries w ≤ max_entries
  pub c_most : child_refs w ≤ max_child_refs
  pub at4 : word w 4 ≡ header_size
  pub at5 : word w 5 ≡ hyps_from w
  pub at6 : word w 6 ≡ entries_from w
  pub at7 : word w 7 ≡ children_from w
  pub whole : length w ≡ whole_length w

pub header : (w : List ℕ) → bad1 w ≡ false → HeaderOk w
unfolding bad1 header_rules
header w e =
    let t = each (header_rules w) (passed (all_of (header_rules w)) e) in
    record {
      ten = leb→le _ _ t.0;
      s_most = leb→le _ _ t.1.0;
      h_most = leb→le _ _ t.1.1.0;
      n_most = leb→le _ _ t.1.1.1.0;
      c_most = leb→le _ _ t.1.1.1.1.0;
      at4 = eqb→eq _ _ t.1.1.1.1.1.0;
      at5 = eqb→eq _ _ t.1.1.1.1.1.1.0;
      at6 = eqb→eq _ _ t.1.1.1.1.1.1.1.0;
      at7 = eqb→eq _ _ t.1.1.1.1.1.1.1.1.0;
      whole = eqb→eq _ _ t.1.1.1.1.1.1.1.1.1.0;
    }

-- its sections are as long as their counts say
pub record SectionsOk (w : List ℕ) : Type 0 where
  pub statements_long : length (statement_words w) ≡ stmt_size * statements w
  pub hyps_long : length (hyp_words w) ≡ references w
  pub entries_long : length (entry_words w) ≡ entry_size * entries w
  pub children_long : length (child_words w) ≡ child_refs w

pub sections : (w : List ℕ) → bad1 w ≡ false → SectionsOk w
unfolding statement_words hyp_words entry_words child_words
sections w e =
    let whole = (header w e).whole in
    record {
      statements_long = part_length header_size (stmt_size * statements w) w (omega arith);
      hyps_long = part_length (hyps_from w) (references w) w (omega arith);
      entries_long = part_length (entries_from w) (entry_size * entries w) w (omega arith);
      children_long = part_length (children_from w) (child_refs w) w (omega arith);
    }

-- ---- the statements of a good table

abbrev lines2 : (w b : List ℕ) → List Bool
lines2 w b = statements_rules (statement_words w) (statements w) (references w) (length b)

abbrev lines5 : (w : List ℕ) → List Bool
lines5 w = entries_rules (statement_words w) (entry_words w) (statements w) (entries w) (child_refs w)

pub labels_fill : (w b : List ℕ) → table_refusal w b ≡ 0 → sum_below (label_length w) (statements w) ≡ length b
unfolding bad2 statements_rules
labels_fill w b ok = eqb→eq _ _ (each (lines2 w b) (passed (all_of (lines2 w b)) (good w b ok).ok2)).1.0

pub hyps_fill : (w b : List ℕ) → table_refusal w b ≡ 0 → sum_below (hyp_count w) (statements w) ≡ references w
unfolding bad2 statements_rules
hyps_fill w b ok = eqb→eq _ _ (each (lines2 w b) (passed (all_of (lines2 w b)) (good w b ok).ok2)).1.1.0

-- the tests of a statement's line hold
pub statement_rules_lem : (w b : List ℕ) → table_refusal w b ≡ 0 → (k : ℕ) → k < statements w
    → T (all_of (statement_rules (statement_words w) (references w) (length b) k))
unfolding bad2 statements_rules
statement_rules_lem w b ok k l =
    all_below_at (λ x. all_of (statement_rules (statement_words w) (references w) (length b) x)) k (statements w) l
    (each (lines2 w b) (passed (all_of (lines2 w b)) (good w b ok).ok2)).0

-- the line of a statement, where its label and its hypotheses stand, and what they hold
pub record StatementOk (w b : List ℕ) (k : ℕ) : Type 0 where
  pub kind_most : kind w k ≤ 2
  pub label_start_lem : label_start w k ≡ sum_below (label_length w) k
  pub label_some : 1 ≤ label_length w k
  pub label_most : label_length w k ≤ max_label_length
  pub label_inside : label_start w k + label_length w k ≤ length b
  pub label_length_lem : length (label w b k) ≡ label_length w k
  pub label_bytes : T (all label_byte (label w b k))
  pub label_new : (j : ℕ) → j < k → same (label w b j) (label w b k) ≡ false
  pub hyp_start_lem : hyp_start w k ≡ sum_below (hyp_count w) k
  pub hyp_none : (kind w k ≡ 0) ⊎ (hyp_count w k ≡ 0)
  pub hyp_inside : hyp_start w k + hyp_count w k ≤ references w
  pub hyps_length : length (hyps w k) ≡ hyp_count w k
  pub hyps_once : repeats (hyps w k) ≡ false

pub statement_ok : (w b : List ℕ) → table_refusal w b ≡ 0 → (k : ℕ) → k < statements w → StatementOk w b k
unfolding bad3 bad4 statement_rules label_wrong label_again hyps_repeat label_in hyps_in
statement_ok w b ok k l =
    let ss = statement_words w in
    let p = each (statement_rules ss (references w) (length b) k) (statement_rules_lem w b ok k l) in
    let labels = or_no (some_below (label_wrong ss b) (statements w)) (some_below (label_again ss b) (statements w)) (good w b ok).ok3 in
    let references-ok = or_no (not (all_below (reference_ok ss (hyp_words w) (statements w)) (references w))) (some_below (hyps_repeat ss (hyp_words w)) (statements w)) (good w b ok).ok4 in
    let inside : label_start w k + label_length w k ≤ length b = leb→le _ _ p.1.1.1.1.1.1.0 in
    let hyp_in : hyp_start w k + hyp_count w k ≤ references w = leb→le _ _ p.1.1.1.1.1.1.1.0 in
    record {
      kind_most = leb→le _ _ p.0;
      label_start_lem = eqb→eq _ _ p.1.0;
      label_some = leb→le _ _ p.1.1.0;
      label_most = leb→le _ _ p.1.1.1.0;
      label_inside = inside;
      label_length_lem = part_length (label_start w k) (label_length w k) b inside;
      label_bytes = passed (all label_byte (label w b k)) (some_below_at (label_wrong ss b) k (statements w) l labels.0);
      label_new = λ j m. some_below_at (λ x. same (label w b x) (label w b k)) j k m (some_below_at (label_again ss b) k (statements w) l labels.1);
      hyp_start_lem = eqb→eq _ _ p.1.1.1.1.0;
      hyp_none = elim (or_yes (eqb (kind w k) 0) (eqb (hyp_count w k) 0) p.1.1.1.1.1.0) [
        | inl h ↦ inl (eqb→eq _ _ h)
        | inr h ↦ inr (eqb→eq _ _ h)
      ];
      hyp_inside = hyp_in;
      hyps_length = part_length (hyp_start w k) (hyp_count w k) (hyp_words w) (omega (arith, (sections w (good w b ok).ok1).hyps_long));
      hyps_once = some_below_at (hyps_repeat ss (hyp_words w)) k (statements w) l references-ok.1;
    }

-- labels fill the bytes, so that a label byte is any byte of the slice
all_take_more : (test : ℕ → Bool) (n m : ℕ) (xs : List ℕ) → T (all test (take n xs)) → T (all test (take m (drop n xs))) → T (all test (take (n + m) xs))
all_take_more test n m xs a b = rw (take-add n m xs) (all_join test (take n xs) (take m (drop n xs)) a b)

pub bytes_ok : (w b : List ℕ) → table_refusal w b ≡ 0 → T (all label_byte b)
unfolding sum_below label_in all
bytes_ok w b ok = rw (take-length b) at (rw (labels_fill w b ok) at (go (statements w) (omega arith)))
  where
    go : (k : ℕ) → k ≤ statements w → T (all label_byte (take (sum_below (label_length w) k) b))
    go zero l = tt
    go (suc k) l =
        let s = statement_ok w b ok k l in
        all_take_more label_byte (sum_below (label_length w) k) (label_length w k) b (go k (omega arith)) (rw s.label_start_lem at s.label_bytes)

-- a hypothesis reference names a statement of kind 1 or 2
pub record ReferenceOk (w : List ℕ) (k : ℕ) : Type 0 where
  pub below : k < statements w
  pub not_assertion : (kind w k ≡ 1) ⊎ (kind w k ≡ 2)

-- reference i of the whole section
pub reference_ok_lem : (w b : List ℕ) → table_refusal w b ≡ 0 → (i : ℕ) → i < references w → ReferenceOk w (hyp_ref w i)
unfolding bad4 reference_ok
reference_ok_lem w b ok i l =
    let ss = statement_words w in
    let hs = hyp_words w in
    let test = reference_ok ss hs (statements w) in
    let all-ok = (or_no (not (all_below test (references w))) (some_below (hyps_repeat ss hs) (statements w)) (good w b ok).ok4).0 in
    let p = and_yes (ltb (hyp_ref w i) (statements w)) (not (eqb (kind w (hyp_ref w i)) 0)) (all_below_at test i (references w) l (passed (all_below test (references w)) all-ok)) in
    let in-range : hyp_ref w i < statements w = ltb→lt _ _ p.0 in
    record { below = in-range; not_assertion = one_or_two (kind w (hyp_ref w i)) (statement_ok w b ok (hyp_ref w i) in-range).kind_most p.1 }
  where
    one_or_two : (x : ℕ) → x ≤ 2 → T (not (eqb x 0)) → (x ≡ 1) ⊎ (x ≡ 2)
    one_or_two x most t =
        elim (ℕ_discrete x 1) [
          | yes e ↦ inl e
          | no e ↦ inr (let z : ¬ (x ≡ 0) = λ h. T_not (eqb x 0) t (T_of (eqb_yes x 0 h)) in omega arith)
        ]

-- hypothesis i of statement k is a reference, and so good
pub hyp_at : (w : List ℕ) (k i : ℕ) → i < hyp_count w k → get_or (hyps w k) i 0 ≡ hyp_ref w (hyp_start w k + i)
unfolding hyps_in
hyp_at w k i l = part_at (hyp_start w k) (hyp_count w k) (hyp_words w) i 0 l

pub hyp_ok : (w b : List ℕ) → table_refusal w b ≡ 0 → (k i : ℕ) → k < statements w → i < hyp_count w k → ReferenceOk w (get_or (hyps w k) i 0)
hyp_ok w b ok k i l m = rw (hyp_at w k i m) (reference_ok_lem w b ok (hyp_start w k + i) (omega (arith, (statement_ok w b ok k l).hyp_inside)))

-- ---- the goal of a good table

pub theorem_below : (w b : List ℕ) → table_refusal w b ≡ 0 → theorem w < statements w
unfolding bad7 goal_rules
theorem_below w b ok = ltb→lt _ _ (each (goal_rules w) (passed (all_of (goal_rules w)) (good w b ok).ok7)).0

pub theorem_kind : (w b : List ℕ) → table_refusal w b ≡ 0 → kind w (theorem w) ≡ 0
unfolding bad7 goal_rules
theorem_kind w b ok = eqb→eq _ _ (each (goal_rules w) (passed (all_of (goal_rules w)) (good w b ok).ok7)).1.0

pub qed_below : (w b : List ℕ) → table_refusal w b ≡ 0 → qed w < entries w
unfolding bad7 goal_rules
qed_below w b ok = ltb→lt _ _ (each (goal_rules w) (passed (all_of (goal_rules w)) (good w b ok).ok7)).1.1.0

-- ---- its entries

pub falls : (w b : List ℕ) → table_refusal w b ≡ 0 → Falls (graph_of w) (entries w)
unfolding Falls graph_of graph_in bad6 children_below
falls w b ok e l =
    let test = children_below (entry_words w) (child_words w) in
    all_below_at test e (entries w) l (passed (all_below test (entries w)) (good w b ok).ok6)

-- the line of an entry, and where its children stand
pub record EntryOk (w : List ℕ) (e : ℕ) : Type 0 where
  pub stmt_below : entry_stmt w e < statements w
  pub start : child_start w e ≡ sum_below (child_count w) e
  pub as_many : child_count w e ≡ hyp_count w (entry_stmt w e)
  pub inside : child_start w e + child_count w e ≤ child_refs w
  pub have_length : length (children w e) ≡ child_count w e

pub children_sum : (w b : List ℕ) → table_refusal w b ≡ 0 → sum_below (child_count w) (entries w) ≡ child_refs w
unfolding bad5 entries_rules
children_sum w b ok = eqb→eq _ _ (each (lines5 w) (passed (all_of (lines5 w)) (good w b ok).ok5)).1.0

pub entry_ok : (w b : List ℕ) → table_refusal w b ≡ 0 → (e : ℕ) → e < entries w → EntryOk w e
unfolding bad5 entries_rules entry_rules children_in
entry_ok w b ok e l =
    let all-ok = (each (lines5 w) (passed (all_of (lines5 w)) (good w b ok).ok5)).0 in
    let line : ℕ → List Bool = entry_rules (statement_words w) (entry_words w) (statements w) (child_refs w) in
    let p = each (line e) (all_below_at (λ x. all_of (line x)) e (entries w) l all-ok) in
    let in_place : child_start w e + child_count w e ≤ child_refs w = leb→le _ _ p.1.1.1.0 in
    record {
      stmt_below = ltb→lt _ _ p.0;
      start = eqb→eq _ _ p.1.0;
      as_many = eqb→eq _ _ p.1.1.0;
      inside = in_place;
      have_length = part_length (child_start w e) (child_count w e) (child_words w) (omega (arith, (sections w (good w b ok).ok1).children_long));
    }

-- each distance is the fewest child edges from QED, or 65535 where there is no way
pub distances_right : (w b : List ℕ) → table_refusal w b ≡ 0 → (e : ℕ) → e < entries w
    → IsDistance (graph_of w) (qed w) e (get_or (distances (graph_of w) (entries w) (qed w)) e unreached)
unfolding Falls DistanceLaw
distances_right w b ok e h =
    distance_law (graph_of w) (entries w) (qed w) e
    (λ p c hp m. ltb→lt c p (all_member (λ x. ltb x p) ((graph_of w).kids p) c (falls w b ok p hp) m))
    (let s = (header w (good w b ok).ok1).n_most in omega arith) (qed_below w b ok) h
