-- The label list of a table that is not refused has statements of the table, whose labels stand in the label bytes.
-- An answer of 0 means that every test passed; then the list is the definition's, of which a law of defs says so.
use mathlib.Core.Path.{◌≡◌, refl, sym, ap, ◌∙◌}
use mathlib.Core.Bool.{Bool, false}
use mathlib.Core.List.{List, [], ◌∷◌, ◌++◌}
use Prim.Native.Nat.{ℕ, zero, suc, ◌-◌, ◌<◌, ◌≤◌}
use native.Mathlib.Omega.{arith}
use lib.ListN.{length, get_or, take, drop}
use lib.Seq.{take_at}
use Rattle.std.specs.Prelude.{Result, Ok, Err, IfOk}
use Rattle.answers.specs.declared.refusals.Refusal.{Refusal}
use Rattle.answers.specs.declared.written.Lengths.{Lengths}
use Rattle.answers.specs.Refused.{answer_number, answer_first}
use Rattle.laws.specs.Lists.{boole, all_at}
use Rattle.defs.specs.Table.{statements, statement_words, label_length}
use Rattle.defs.specs.Check.{Test, ◌when◌, first_of, or_else, table_refusal}
use Rattle.defs.specs.Layout.{Layout}
use Rattle.defs.specs.Refusals.{bad12}
use Rattle.defs.specs.Text.{labels_of, letters_for}
use Rattle.defs.proofs.Ranges.{labels_listed}
use Rattle.defs.specs.Sections.{statements_ok}
use Rattle.defs.specs.Outcome.{Outcome, answer_two, compressed_tests, two_outputs, letters_number, letters_outcome}
use Rattle.defs.specs.OutcomeLaws.{two_done}
use Rattle.bulonkeri.specs.Listed.{LabelIn, Listed}

-- a row of tests that gives 0 has none that refuses; each number is one of 1 to 18
passes : (k : ℕ) (p : Bool) (ts : List Test) → 0 < k → first_of (k when p ∷ ts) ≡ 0 → (p ≡ false) × (first_of ts ≡ 0)
unfolding first_of
passes k p ts h e = boole p (λ t. let z : k ≡ 0 = rw t at e in absurd (omega arith)) (λ f. (f, rw f at e))

or_else_none : (k next : ℕ) → or_else k next ≡ 0 → (k ≡ 0) × (next ≡ 0)
unfolding or_else
or_else_none zero next e = (refl, e)
or_else_none (suc k) next e = absurd (omega arith)

-- what number 0 says of the table and of the labels to be listed
all_passed : (w b : List ℕ) (l : Layout) (work sums list letters : List ℕ) → letters_number w b l work sums list letters ≡ 0
    → (table_refusal w b ≡ 0) × (bad12 w l ≡ false)
unfolding letters_number compressed_tests
all_passed w b l work sums list letters e =
    let s = or_else_none _ _ e in
    let after8 = (passes 8 _ _ (omega arith) s.1).1 in
    let after14 = (passes 14 _ _ (omega arith) after8).1 in
    let after10 = (passes 10 _ _ (omega arith) after14).1 in
    let after11 = (passes 11 _ _ (omega arith) after10).1 in
    (s.0, (passes 12 _ _ (omega arith) after11).0)

listed : (w b : List ℕ) (l : Layout) (work₀ sums₀ list₀ letters₀ : List ℕ) {number first second : ℕ} {work sums list letters : List ℕ}
    → answer_two number first second (work ∷ sums ∷ []) list letters ≡ letters_outcome w b l work₀ sums₀ list₀ letters₀
    → number ≡ 0 → Listed w b (take first list)
unfolding letters_outcome two_outputs
listed w b l work₀ sums₀ list₀ letters₀ {number} {first} {second} {work} {sums} {list} {letters} e z =
    let zero_is : letters_number w b l work₀ sums₀ list₀ letters₀ ≡ 0 = sym (ap (λ (o : Outcome). o.number) e) ∙ z in
    let done = e ∙ two_done (letters_number w b l work₀ sums₀ list₀ letters₀) (labels_of w l) (letters_for w l) (work₀ ∷ sums₀ ∷ []) list₀ letters₀ zero_is in
    let first_is : first ≡ length (labels_of w l) = ap (λ (o : Outcome). get_or o.lengths 0 0) done in
    let list_is : list ≡ labels_of w l ++ drop (length (labels_of w l)) list₀ = ap (λ (o : Outcome). get_or o.outs 0 []) done in
    let front : take first list ≡ labels_of w l = rw (first_is, list_is) (take_at (labels_of w l) (drop (length (labels_of w l)) list₀) (length (labels_of w l)) refl) in
    let ok = all_passed w b l work₀ sums₀ list₀ letters₀ zero_is in
    rw front (record {
      ok = ok.0;
      below = λ i h. (all_at (λ k. (k < statements w) × (label_length w k ≤ l.width - l.indent)) (labels_of w l) 0 (labels_listed w b l ok.0 ok.1) i h).0;
    })

pub letters_listed : (w b : List ℕ) (l : Layout) (work₀ sums₀ list₀ letters₀ : List ℕ) {second : ℕ} {work sums list letters : List ℕ}
    (answer : Result Lengths Refusal)
    → answer_two (answer_number answer) (answer_first answer) second (work ∷ sums ∷ []) list letters ≡ letters_outcome w b l work₀ sums₀ list₀ letters₀
    → IfOk answer (λ lengths. Listed w b (take lengths.first list))
letters_listed w b l work₀ sums₀ list₀ letters₀ (Ok lengths) e = listed w b l work₀ sums₀ list₀ letters₀ e refl
letters_listed w b l work₀ sums₀ list₀ letters₀ (Err _) e = record {}

-- the label of each stands in the label bytes
pub label_is_in : {w b list ss : List ℕ} → Listed w b list → ss ≡ statement_words w → (i : ℕ) → i < length list → LabelIn ss b (get_or list i 0)
label_is_in {w} {b} {list} {ss} d e i h =
    let s = statements_ok w b d.ok in
    let below : get_or list i 0 < statements w = d.below i h in
    rw e (omega (arith, s.long), s.label_inside (get_or list i 0) below)
