-- The letters of a covered table decode to its packed list: the list is readable, and its label list is not refused.
use Rattle.std.specs.Prelude.{◌≡◌, refl, ℕ, suc, ◌+◌, ◌-◌, ◌≤◌, ◌<◌, min, Bool, true, ◌||◌, length, eqb, ltb}
use Rattle.std.proofs.Math.Path.{ap}
use Rattle.std.proofs.Common.{◌∙◌, inl, inr}
use native.Mathlib.Omega.{arith}
use Rattle.std.proofs.Math.Bool.{false, not}
use Rattle.std.proofs.Math.Option.{some}
use mathlib.Core.List.{List, [], ◌∷◌, ◌++◌, map, append_assoc, append-nil}
use Rattle.std.proofs.Math.ListN.{length-append}
use Rattle.laws.specs.Tools.{pick, keep, member, count}
use Rattle.defs.specs.Table.{max_word, statements, entries, theorem, mandatory}
use Rattle.defs.specs.Check.{table_refusal, first_of, or_else}
use Rattle.defs.specs.Graph.{graph_of}
use Rattle.defs.specs.Steps.{Step, is_normal, flat}
use Rattle.defs.specs.Order.{used}
use Rattle.defs.specs.Layout.{Layout, line_room}
use Rattle.defs.specs.Text.{packed_of, labels_of, letters_for}
use Rattle.defs.specs.Refusals.{bad10, bad12}
use Rattle.defs.specs.Outcome.{length_after, out_after, one_output}
use Rattle.defs.specs.Decode.{bad_labels, decoded, refused_steps, steps_or, decode_number, decode_outcome}
use Rattle.defs.specs.LetterLaws.{Readable, marks_after}
use Rattle.defs.proofs.LetterLaws.{AllReadable, letters_back}
use Rattle.roundtrip.specs.Terms.{Decodes}
use Rattle.laws.specs.Lists.{boole, T_of, clash, eqb_no, leb_yes, leb_no, All, all_split, all_append, all_map, find, found_lt}
use Rattle.laws.specs.Sums.{count_all, count_member, count_self}
use Rattle.laws.specs.Counting.{count_keep, not_repeated, none_is, once_below}
use Rattle.lengths.specs.Forests.{Forest, nil, node, Under}
use Rattle.lengths.specs.Walks.{norm_step, back_step, marked, mark, mark_no, marks, packed, packed_back, marks_back, packed_open, marks_open}
use Rattle.lengths.specs.Lengths.{shared}
use Rattle.defs.proofs.LabelLaws.{count_labels}
use Rattle.defs.specs.Laws.{good}
use Rattle.defs.specs.Checked.{header, statement_ok, theorem_below}
use Rattle.defs.proofs.Ranges.{labels_listed}
use Rattle.lengths.proofs.Bound.{packed_most}
use Rattle.lengths.specs.Tables.{kids, stmt_below}
use Rattle.lengths.specs.TableWalks.{tree, packed_is_lem, under_q}
use Rattle.roundtrip.specs.LettersBack.{Named}

module _ (thm labels : List ℕ) (pol : ℕ → Bool) (stmt : ℕ → ℕ) where
  -- a marked step counts the marks up by one
  after_mark : (e : ℕ) (mk : List ℕ) → marks_after (length mk) (norm_step (mark_no pol e mk) (stmt e)) ≡ length (mark pol e mk)
  unfolding marks_after
  after_mark e mk =
      boole (pol e) (λ y. rw (y, eqb_no (suc (length mk)) 0 (omega arith)) (omega (arith, length-append mk (e ∷ [])))) (λ y. rw y)

  norm_readable : (e : ℕ) (mk : List ℕ) → Named thm labels (norm_step (mark_no pol e mk) (stmt e)) → Readable thm labels (length mk) (norm_step (mark_no pol e mk) (stmt e))
  norm_readable e mk h =
      record {
        marked = boole (pol e) (λ y. rw y (inr (omega arith))) (λ y. rw y (inl refl));
        names = inl (refl, h refl);
        no_parent = refl;
        no_index = refl;
      }

  back_readable : (e : ℕ) (mk : List ℕ) → marked e mk ≡ true → Readable thm labels (length mk) (back_step (suc (find (eqb e) mk)))
  back_readable e mk h = record { marked = inl refl; names = inr (omega arith, found_lt (eqb e) mk h, refl); no_parent = refl; no_index = refl }

  readable : (t : Forest) (mk : List ℕ) (ys : List Step) → All (Named thm labels) (packed pol stmt t mk)
      → AllReadable thm labels (length (marks pol t mk)) ys → AllReadable thm labels (length mk) (packed pol stmt t mk ++ ys)
  unfolding packed marks marks_after
  readable nil mk ys a r = r
  readable (node e c b) mk ys a r =
      boole (marked e mk)
      (λ h.
      let a' = rw (packed_back pol stmt e c b mk h) at a in
      rw (packed_back pol stmt e c b mk h) (back_readable e mk h, readable b mk ys a'.1 (rw (marks_back pol stmt e c b mk h) at r)))
      (λ h.
      let mk1 = marks pol c mk in
      let step = norm_step (mark_no pol e mk1) (stmt e) in
      let rest = packed pol stmt b (mark pol e mk1) in
      let s = all_split (Named thm labels) (packed pol stmt c mk) (step ∷ rest) (rw (packed_open pol stmt e c b mk h) at a) in
      rw (packed_open pol stmt e c b mk h, append_assoc (packed pol stmt c mk) (step ∷ rest) ys)
      (readable c mk (step ∷ (rest ++ ys)) s.0
      (norm_readable e mk1 s.1.0, rw (after_mark e mk1) (readable b (mark pol e mk1) ys s.1.1 (rw (marks_open pol stmt e c b mk h) at r)))))

-- ---- what is used

-- the statements of the normal steps
abbrev stmts : List Step → List ℕ
stmts ts = map (λ (t : Step). t.stmt) (keep is_normal ts)

-- each normal step's statement is among them
stmts_self : (ts : List Step) → All (λ t. is_normal t ≡ true → 1 ≤ count t.stmt (stmts ts)) ts
unfolding keep
stmts_self [] = tt
stmts_self (t ∷ ts) = (
  λ h. rw h (count_self t.stmt (stmts ts)),
  all_map _ _ (λ u f h. boole (is_normal t) (λ y. rw y (omega (arith, f h))) (λ y. rw y (f h))) ts (stmts_self ts),
)

-- what holds of each normal step's statement holds of all of them
stmts_all : (P : ℕ → Type 0) (ts : List Step) → All (λ t. is_normal t ≡ true → P t.stmt) ts → All P (stmts ts)
unfolding keep
stmts_all P [] a = tt
stmts_all P (t ∷ ts) a = boole (is_normal t) (λ y. rw y (a.0 y, stmts_all P ts a.1)) (λ y. rw y (stmts_all P ts a.1))

count_used : (w : List ℕ) (ts : List Step) (k : ℕ) → count k (used w ts) ≡ pick (not (member k (mandatory w))) (count k (stmts ts)) 0
unfolding used
count_used w ts k = count_keep (λ j. not (member j (mandatory w))) k (stmts ts)

-- the statements of a packed walk are those of its entries
packed_stmts : (P : ℕ → Type 0) (pol : ℕ → Bool) (stmt : ℕ → ℕ) (n : ℕ) → ((e : ℕ) → e < n → P (stmt e)) → (t : Forest) → Under n t → (mk : List ℕ)
    → All (λ s. is_normal s ≡ true → P s.stmt) (packed pol stmt t mk)
unfolding packed
packed_stmts P pol stmt n f nil u mk = tt
packed_stmts P pol stmt n f (node e c b) u mk =
    boole (marked e mk)
    (λ h. rw h ((λ y. clash (eqb (suc (find (eqb e) mk)) 0) y (eqb_no (suc (find (eqb e) mk)) 0 (omega arith))), packed_stmts P pol stmt n f b u.2 mk))
    (λ h. rw h (all_append _ (packed pol stmt c mk) _ (packed_stmts P pol stmt n f c u.1 mk) (λ y. f e u.0, packed_stmts P pol stmt n f b u.2 (mark pol e (marks pol c mk)))))

-- ---- the letters of a table

module _ (w b : List ℕ) (l : Layout) (ok : table_refusal w b ≡ 0) (labels_fit : bad12 w l ≡ false) where
  abbrev steps : List Step
  steps = packed_of w false

  abbrev labels : List ℕ
  labels = labels_of w l

  -- the label list lists what is used, once
  labels_are : (k : ℕ) → count k labels ≡ min 1 (pick (not (member k (mandatory w))) (count k (stmts steps)) 0)
  unfolding labels_of line_room bad12
  labels_are k = count_labels w (l.width - l.indent) steps labels_fit k ∙ ap (min 1) (count_used w steps k)

  used_below : All (λ k. k < statements w) (stmts steps)
  used_below =
      stmts_all (λ k. k < statements w) steps
      (rw (packed_is_lem w b ok) (packed_stmts (λ k. k < statements w) (shared (kids w b ok) (entries w)) (graph_of w).stmt (entries w) (stmt_below w b ok) (tree w b ok) (under_q w b ok) []))

  label_fine : (k : ℕ) → 1 ≤ count k labels → (not (ltb k (statements w)) || member k (mandatory w)) ≡ false
  label_fine k h =
      let c = labels_are k in
      boole (member k (mandatory w))
      (λ m. absurd (omega (arith, rw m at c)))
      (λ m. rw (m, leb_yes (suc k) (statements w) (count_all (λ j. j < statements w) (stmts steps) used_below k (omega (arith, rw m at c)))))

  labels_fine : bad_labels w labels ≡ false
  unfolding bad_labels
  labels_fine =
      rw (none_is (λ k. not (ltb k (statements w)) || member k (mandatory w)) labels label_fine)
      (not_repeated labels (λ k. omega (arith, labels_are k)))

  all_named : All (Named (mandatory w) labels) steps
  all_named =
      all_map _ (Named (mandatory w) labels)
      (λ t f h. (let c = labels_are t.stmt in
      boole (member t.stmt (mandatory w))
      (λ m. inl (T_of m))
      (λ m. inr (count_member t.stmt labels (omega (arith, rw m at c, f h))))))
      steps (stmts_self steps)

  all_readable : AllReadable (mandatory w) labels 0 steps
  unfolding marks_after
  all_readable =
      let p = packed_is_lem w b ok in
      let pol = shared (kids w b ok) (entries w) in
      let list = packed pol (graph_of w).stmt (tree w b ok) [] in
      let r : AllReadable (mandatory w) labels 0 (list ++ []) = readable (mandatory w) labels pol (graph_of w).stmt (tree w b ok) [] [] (rw p at all_named) tt in
      rw p (rw (append-nil list) at r)

  -- every number fits its word: there are few hypotheses, labels and steps
  few : length (mandatory w) + length labels + 0 + length steps ≤ max_word
  unfolding mandatory
  few =
      let h = header w (good w b ok).ok1 in
      let thm = statement_ok w b ok (theorem w) (theorem_below w b ok) in
      let each_below : All (λ k. k < statements w) labels = all_map _ _ (λ k p. p.0) labels (labels_listed w b l ok labels_fit) in
      omega (
        arith,
        h.h_most,
        h.s_most,
        h.c_most,
        thm.hyps_length,
        thm.hyp_inside,
        once_below (statements w) labels each_below (λ k. omega (arith, labels_are k)),
        packed_most w b ok false,
      )

  decodes_to : decoded w labels (letters_for w l) ≡ some steps
  unfolding decoded letters_for
  decodes_to = letters_back (mandatory w) labels steps false 0 [] all_readable few

  pub letters_decode : bad10 w ≡ false → Decodes w b labels (letters_for w l) steps
  unfolding Decodes decode_outcome one_output decode_number or_else first_of refused_steps steps_or length_after out_after
  letters_decode unmixed out room =
      rw (decodes_to, ok, unmixed, labels_fine, leb_no (suc (length out)) (length (flat steps)) (omega arith))
