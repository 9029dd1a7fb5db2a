-- What stands in the working slice once the label list is ordered: every step of the packed list can be said.
-- A normal step's statement is in the theorem's list, and then not in the label list, or it is in the label list.
use mathlib.Core.Path.{◌≡◌, refl, sym, ap, ◌∙◌}
use mathlib.Core.Logic.{inl}
use mathlib.Core.Bool.{true, false, not}
use mathlib.Core.List.{List, [], ◌∷◌}
use Prim.Native.Nat.{ℕ, ◌+◌, ◌-◌, ◌*◌, ◌≤◌, ◌<◌, min}
use native.Mathlib.Omega.{arith}
use lib.ListN.{length, get_or}
use lib.Dec.{eqb, ltb}
use Rattle.laws.specs.Tools.{pick, part, any, keep, member, count}
use Rattle.laws.specs.Lists.{boole, T_of, of_T, eqb_yes, All, all_map, all_at}
use Rattle.laws.specs.Sums.{member_count, count_member, count_self}
use Rattle.laws.specs.Counting.{count_keep}
use Rattle.defs.specs.Table.{word, max_word, statements, entries, statement_words, label_length, mandatory}
use Rattle.defs.specs.Check.{table_refusal}
use Rattle.defs.specs.Checked.{header, sections}
use Rattle.defs.specs.Laws.{good}
use Rattle.defs.specs.Layout.{Layout, line_room, bad8}
use Rattle.defs.specs.Steps.{Step, normal_stmts, step_size, flat}
use Rattle.defs.specs.Text.{packed_of, labels_of}
use Rattle.defs.specs.Order.{used, listed, label_list}
use Rattle.defs.specs.Refusals.{bad12, need32, need16}
use Rattle.defs.proofs.LabelLaws.{count_labels}
use Rattle.defs.specs.Ranges.{StepFits}
use Rattle.defs.proofs.Ranges.{packed_steps_fit, labels_listed}
use Rattle.lettering.specs.Said.{number_of, SaysAll}
use Rattle.theorem.proofs.Goals.{theorem_ok, list_short}
use Rattle.theorem.specs.Goal.{InStatements}
use Rattle.labels.proofs.Listed.{listing_is, listed_below, few_listed}
use Rattle.labels.specs.Ordered.{OrderReady, Ordered}
use Rattle.order.specs.Arrangement.{ListedIn, Arrangement}
use Rattle.order.specs.declared.arranged.Listed.{Listed as End}
use Rattle.order.specs.declared.arranged.Arranged.{Arranged}
use Rattle.order.proofs.Parts.{part_is, part_kept}
use Rattle.order.proofs.Tests.{line_room_least, line_room_most}
use Rattle.order.proofs.Listed.{few_steps}

-- the statement of a normal step is among those of all of them
stmts_in : (ts : List Step) → All (λ t. t.ref ≡ 0 → 1 ≤ count t.stmt (normal_stmts ts)) ts
unfolding keep
stmts_in [] = tt
stmts_in (t ∷ ts) = (
  λ z. rw (eqb_yes t.ref 0 z) (count_self t.stmt (normal_stmts ts)),
  all_map (λ u. u.ref ≡ 0 → 1 ≤ count u.stmt (normal_stmts ts)) (λ u. u.ref ≡ 0 → 1 ≤ count u.stmt (normal_stmts (t ∷ ts)))
      (λ u h z. boole (eqb t.ref 0) (λ e. rw e (omega (arith, h z))) (λ e. rw e (h z))) ts (stmts_in ts),
)

module _ (w b : List ℕ) (ok : table_refusal w b ≡ 0) (l : Layout) (right : bad8 l ≡ false) where
  abbrev s : ℕ
  s = statements w

  abbrev steps : List Step
  steps = packed_of w false

  abbrev thm : List ℕ
  thm = mandatory w

  abbrev labels : List ℕ
  labels = label_list w (line_room l) steps

  -- the listed statements are there
  module _ (r : End) (ws : List ℕ) (in_words_lem : ListedIn w r ws) (enough : need32 w ≤ length ws) where
    -- the arrays end inside the slice
    pub arrays_in : r.end + 8 * s ≤ length ws
    unfolding need32
    arrays_in = omega (arith, in_words_lem.end_is, few_steps w b ok)

    pub count_few : r.count ≤ s
    count_few = omega (arith, in_words_lem.arrays.as_many, ap length (listing_is w steps), few_listed w b ok)

    pub listed_part : (at to : ℕ) → at ≡ r.end + 3 * s → to ≡ at + r.count → part at (to - at) ws ≡ listed w steps
    listed_part at to e f =
        let long : to - at ≡ r.count = omega arith in
        rw (long, e)
        (part_is (r.end + 3 * s) r.count ws (omega (arith, arrays_in, count_few)) (listed w steps)
        (sym (ap length (listing_is w steps)) ∙ sym in_words_lem.arrays.as_many)
        (λ i m. in_words_lem.arrays.list i (omega (arith, in_words_lem.arrays.as_many)) ∙ ap (λ (xs : List ℕ). get_or xs i 0) (listing_is w steps)))

  pub listed_statements : (ss list : List ℕ) → ss ≡ statement_words w → list ≡ listed w steps → InStatements ss list
  listed_statements ss list e f =
      rw (e, f) (record {
        inside = λ i m. omega (arith, all_at (λ k. k < s) (listed w steps) 0 (listed_below w b ok) i m, (sections w (good w b ok).ok1).statements_long);
      })

  -- and can be ordered
  pub can_order : (r : End) (ws : List ℕ) (W cells : ℕ) → ListedIn w r ws → need32 w ≤ length ws → need16 w l ≤ cells → W ≡ line_room l
      → any (λ k. ltb (W - 1) (label_length w k)) (listed w steps) ≡ false → OrderReady w r.end r.count W cells ws
  unfolding need32 need16
  can_order r ws W cells in_words_lem enough cells_enough is short =
      record {
        b = b;
        ok = ok;
        held = in_words_lem.arrays;
        narrow = omega (arith, line_room_most l right);
        begun = omega (arith, line_room_least l right);
        short = short;
        room = omega (arith, in_words_lem.end_is, few_steps w b ok);
        cells_enough = rw is cells_enough;
      }

  module _ (W : ℕ) (W-is : W ≡ line_room l) (short : any (λ k. ltb (W - 1) (label_length w k)) (listed w steps) ≡ false) where
    label_count : (k : ℕ) → count k labels ≡ min 1 (count k (used w steps))
    unfolding line_room
    label_count k =
        let room : ℕ = l.width - l.indent in
        let same : W - 1 ≡ room = omega arith in
        count_labels w room steps (rw same at short) k

    use_count : (k : ℕ) → count k (used w steps) ≡ pick (not (member k thm)) (count k (normal_stmts steps)) 0
    unfolding used
    use_count k = count_keep (λ j. not (member j thm)) k (normal_stmts steps)

    not_label : (k : ℕ) → member k thm ≡ true → member k labels ≡ false
    not_label k h =
        let none : count k (used w steps) ≡ 0 = use_count k ∙ rw h in
        boole (member k labels) (λ m. absurd (omega (arith, member_count k labels (T_of m), label_count k))) (λ m. m)

    a_label : (k : ℕ) → 1 ≤ count k (normal_stmts steps) → member k thm ≡ false → member k labels ≡ true
    a_label k there h =
        let some : count k (used w steps) ≡ count k (normal_stmts steps) = use_count k ∙ rw h in
        of_T (member k labels) (count_member k labels (omega (arith, label_count k)))

    module _ (r : End) (at : ℕ) (ws ws' : List ℕ) (in_words_lem : ListedIn w r ws) (in_order : Ordered w r.end r.count W at ws ws')
        (long : length ws' ≡ length ws) (enough : need32 w ≤ length ws) where
      ordered : Ordered w r.end r.count (line_room l) at ws ws'
      ordered = rw W-is at in_order

      number_is : (k : ℕ) → k < s → 1 ≤ count k (normal_stmts steps) → word ws' (r.end + k) ≡ number_of thm labels k + 1
      unfolding number_of
      number_is k below there =
          boole (member k thm)
          (λ h. ordered.numbers k below ∙ rw (not_label k h, h))
          (λ h. ordered.numbers k below ∙ rw (a_label k there h, h))

      inside : r.end + 8 * s ≤ length ws'
      unfolding need32
      inside = omega (arith, in_words_lem.end_is, few_steps w b ok, long, enough)

      named : All (λ t. t.ref ≡ 0 → (r.end + t.stmt < length ws') × (word ws' (r.end + t.stmt) ≡ number_of thm labels t.stmt + 1)) steps
      named =
          both_all steps (packed_steps_fit w b ok false) (stmts_in steps)
        where
          both_all : (ts : List Step) → All (StepFits s (entries w)) ts → All (λ t. t.ref ≡ 0 → 1 ≤ count t.stmt (normal_stmts steps)) ts
              → All (λ t. t.ref ≡ 0 → (r.end + t.stmt < length ws') × (word ws' (r.end + t.stmt) ≡ number_of thm labels t.stmt + 1)) ts
          both_all [] a c = tt
          both_all (t ∷ ts) a c = (λ z. (omega (arith, a.0.stmt_below, inside), number_is t.stmt a.0.stmt_below (c.0 z)), both_all ts a.1 c.1)

      labels_few : length labels ≤ s
      labels_few = omega (arith, ordered.as_many, ordered.few)

      none_long : bad12 w l ≡ false
      unfolding bad12 line_room
      none_long = let same : W - 1 ≡ l.width - l.indent = omega arith in rw same at short

      -- a step's words are where they were
      steps_held : part (entries w + 1) (step_size * length steps) ws' ≡ flat steps
      steps_held =
          sym (part_kept (entries w + 1) (step_size * length steps) ws (omega (arith, in_words_lem.end_is, inside, long)) ws' long
          (λ j low high. ordered.only j (inl (omega (arith, in_words_lem.end_is)))))
          ∙ in_words_lem.steps

      pub arrangement : (a : Arranged) → a.start ≡ entries w + 1 → a.steps ≡ length steps → a.numbers ≡ r.end → a.labels ≡ at → a.listed ≡ r.count
          → a.both ≡ length thm + r.count → Arrangement w l a ws'
      unfolding labels_of
      arrangement a start_is steps_is numbers-is labels-is listed_is both_is =
          let said : SaysAll a.start a.steps a.numbers a.both ws' thm labels steps =
          rw (start_is, steps_is, numbers-is) (record { lengths = omega (arith, both_is, ordered.as_many); as_many = refl; holds = steps_held; named = named }) in
          record {
            says = said;
            ready = record {
              inside = omega (arith, start_is, steps_is, in_words_lem.end_is, inside);
              short = omega (arith, steps_is, few_steps w b ok, (header w (good w b ok).ok1).c_most);
              thm = thm;
              labels = labels;
              ts = steps;
              says = said;
              few = all_map (StepFits s (entries w)) (λ t. a.both + t.ref ≤ max_word)
                  (λ t f. omega (arith, f.ref_most, (header w (good w b ok).ok1).n_most, (header w (good w b ok).ok1).s_most, both_is, ordered.as_many, labels_few, list_short w (theorem_ok w b ok)))
                  steps
                  (packed_steps_fit w b ok false);
            };
            listed_is = listed_is ∙ ordered.as_many;
            labels_in = omega (arith, labels-is, listed_is, ordered.ends, inside);
            labels_below = all_map (λ k. (k < s) × (label_length w k ≤ l.width - l.indent)) (λ k. k < s) (λ k h. h.0) (labels_of w l) (labels_listed w b l ok none_long);
            few_listed = omega (arith, listed_is, ordered.few);
            few_steps = omega (arith, steps_is, few_steps w b ok);
            list = rw (labels-is, listed_is)
                (part_is at r.count ws' (omega (arith, ordered.ends, inside)) labels (sym ordered.as_many) (λ i m. ordered.list i (omega (arith, ordered.as_many))));
          }
