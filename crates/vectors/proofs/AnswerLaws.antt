-- What is compared of an answer is that of the operation's outcome.
-- It depends on the lengths of the slices lent and on nothing that they held, so a slice may be lent again: a refusal's length is 0, and the
-- hash of a result that was written is that of its elements.
use mathlib.Core.Path.{◌≡◌, refl, ap, ◌∙◌}
use mathlib.Core.Bool.{Bool, true, false}
use mathlib.Core.List.{List, [], ◌∷◌}
use Prim.Native.Nat.{ℕ, zero, suc, ◌+◌, ◌-◌, ◌<◌, ◌≤◌}
use native.Mathlib.Numerals.{add-one}
use native.Mathlib.Omega.{arith}
use lib.Dec.{eqb}
use lib.ListN.{length, drop}
use borrow.Author.Tests.{lt-ltb, le-ltb}
use Rattle.laws.specs.Lists.{boole}
use Rattle.defs.specs.Layout.{Layout}
use Rattle.defs.specs.Text.{text_of}
use Rattle.defs.specs.Outcome.{Outcome, answer_one, answer_two, length_after, out_after, one_output, step_list_words, step_list_number, step_list_outcome, text_number, text_outcome}
use Rattle.table_file.specs.Words.{word_at}
use Rattle.vectors.specs.Hash.{hash_to}
use Rattle.vectors.specs.Answers.{answer_of, answer_at, answers_of, list_answer, letters_answers, text_answer}
use Rattle.vectors.specs.Asked.{lists_compared, texts_compared, layout_compared}
use Rattle.vectors.specs.Tallies.{malformed_at, moved_to, with_layout, compared}
use Rattle.vectors.specs.declared.operations.Answer.{Answer}
use Rattle.vectors.specs.declared.operations.Answers.{Answers}
use Rattle.vectors.specs.declared.tally.Tally.{Tally}
use Rattle.std.specs.Prelude.{Result, Ok, Err, map}
use Rattle.defs.specs.Inside.{Inside, one_inside, two_inside}
use Rattle.answers.specs.declared.refusals.Refusal.{Refusal}
use Rattle.answers.specs.declared.written.Written.{Written}
use Rattle.answers.specs.declared.written.WrittenTwo.{WrittenTwo}
use Rattle.answers.specs.declared.written.Lengths.{Lengths}
use Rattle.answers.specs.Refused.{answer_number, answer_length, answer_first, answer_second, written_of, written_two_of}
use Rattle.vectors.proofs.HashLaws.{front_hash, same_numbers}

-- ---- of an outcome

told : (a : Result ℕ Refusal) → ((written_of a).number ≡ answer_number a) × ((written_of a).length ≡ answer_length a)
told (Ok n) = (refl, refl)
told (Err r) = (refl, refl)

told_both : (a : Result Lengths Refusal) → ((written_two_of a).number ≡ answer_number a) × ((written_two_of a).first ≡ answer_first a) × ((written_two_of a).second ≡ answer_second a)
told_both (Ok lengths) = (refl, refl, refl)
told_both (Err r) = (refl, refl, refl)

-- an answer as C has it has the lengths of the answer, which stand inside the outputs
pub one_fits : (a : Result ℕ Refusal) {w : Written} {works : List (List ℕ)} {out : List ℕ} {o : Outcome}
    → w ≡ written_of a → answer_one (answer_number a) (answer_length a) works out ≡ o → Inside o → w.length ≤ length out
one_fits a is e inside = rw (is, (told a).1) (one_inside e inside)

pub two_fit : (a : Result Lengths Refusal) {w : WrittenTwo} {works : List (List ℕ)} {out₁ out₂ : List ℕ} {o : Outcome}
    → w ≡ written_two_of a → answer_two (answer_number a) (answer_first a) (answer_second a) works out₁ out₂ ≡ o → Inside o → (w.first ≤ length out₁) × (w.second ≤ length out₂)
two_fit a is e inside = rw (is, (told_both a).1, (told_both a).2) (two_inside e inside)

pub one_answer : (a : Result ℕ Refusal) {w : Written} {works : List (List ℕ)} {out : List ℕ} {o : Outcome} {r : Answer}
    → w ≡ written_of a → r ≡ answer_of w.number w.length (map (λ (x : ℕ). x) out) → answer_one (answer_number a) (answer_length a) works out ≡ o → r ≡ answer_at 0 o
one_answer a {w} {works} {out} is r e = r ∙ rw (is, (told a).0, (told a).1, same_numbers out) (ap (answer_at 0) e)

pub two_answers : (a : Result Lengths Refusal) {w : WrittenTwo} {works : List (List ℕ)} {out₁ out₂ : List ℕ} {o : Outcome} {labels letters : Answer}
    → w ≡ written_two_of a → labels ≡ answer_of w.number w.first (map (λ (x : ℕ). x) out₁) → letters ≡ answer_of w.number w.second (map (λ (x : ℕ). x) out₂)
    → answer_two (answer_number a) (answer_first a) (answer_second a) works out₁ out₂ ≡ o
    → ◌≡◌ {A = Answers} (record { labels = labels; letters = letters }) (answers_of o)
two_answers a {w} {works} {out₁} {out₂} is r₁ r₂ e =
    rw (r₁, r₂, is, (told_both a).0, (told_both a).1, (told_both a).2, same_numbers out₁, same_numbers out₂) (ap answers_of e)

-- ---- the same for slices as long

after_hash : (k : ℕ) (result out : List ℕ) → hash_to (out_after k result out) (length_after k result) ≡ hash_to result (length_after k result)
unfolding length_after out_after hash_to
after_hash k result out =
    boole (eqb k 0) (λ e. rw e (front_hash result (drop (length result) out) (length result) (omega arith))) (λ e. rw e)

given : (k : ℕ) (result : List ℕ) (works : List (List ℕ)) (out : List ℕ)
    → answer_at 0 (one_output k result works out) ≡ record { number = k; length = length_after k result; hash = hash_to result (length_after k result) }
unfolding one_output
given k result works out = rw (after_hash k result out)

pub list_same : (w b : List ℕ) (packed explicit : Bool) (work work' out out' : List ℕ) → length work' ≡ length work → length out' ≡ length out
    → list_answer w b packed explicit work' out' ≡ list_answer w b packed explicit work out
unfolding list_answer step_list_outcome step_list_number
list_same w b packed explicit work work' out out' e o =
    rw (
      given (step_list_number w b packed explicit work' out') (step_list_words w packed explicit) (work' ∷ []) out',
      given (step_list_number w b packed explicit work out) (step_list_words w packed explicit) (work ∷ []) out,
      e,
      o,
    )

pub text_same : (w b : List ℕ) (style : ℕ) (l : Layout) (work work' sums sums' bytes bytes' : List ℕ)
    → length work' ≡ length work → length sums' ≡ length sums → length bytes' ≡ length bytes
    → text_answer w b style l work' sums' bytes' ≡ text_answer w b style l work sums bytes
unfolding text_answer text_outcome text_number
text_same w b style l work work' sums sums' bytes bytes' e₁ e₂ e₃ =
    rw (
      given (text_number w b style l work' sums' bytes') (text_of w b style l) (work' ∷ sums' ∷ []) bytes',
      given (text_number w b style l work sums bytes) (text_of w b style l) (work ∷ sums ∷ []) bytes,
      e₁,
      e₂,
      e₃,
    )

-- ---- what is asked one after another

pub lists_asked : (stored : List ℕ) (t : Tally) (w b work out : List ℕ) {t₁ t₂ t₃ r : Tally} {a₁ a₂ a₃ a₄ : Answer}
    → a₁ ≡ list_answer w b false false work out → t₁ ≡ compared stored t a₁
    → a₂ ≡ list_answer w b false true work out → t₂ ≡ compared stored t₁ a₂
    → a₃ ≡ list_answer w b true false work out → t₃ ≡ compared stored t₂ a₃
    → a₄ ≡ list_answer w b true true work out → r ≡ compared stored t₃ a₄
    → r ≡ lists_compared stored t w b work out
unfolding lists_compared
lists_asked stored t w b work out p₁ e₁ p₂ e₂ p₃ e₃ p₄ e₄ = rw (e₃, e₂, e₁, p₁, p₂, p₃, p₄) at e₄

-- one text more
pub text_asked : (stored : List ℕ) (t : Tally) (w b : List ℕ) (l : Layout) (work work' sums sums' bytes bytes' : List ℕ) (style : ℕ) {before r : Tally} {a : Answer}
    → before ≡ texts_compared stored t w b l work sums bytes style
    → a ≡ text_answer w b style l work' sums' bytes' → length work' ≡ length work → length sums' ≡ length sums → length bytes' ≡ length bytes
    → r ≡ compared stored before a → r ≡ texts_compared stored t w b l work sums bytes (style + 1)
unfolding texts_compared
text_asked stored t w b l work work' sums sums' bytes bytes' style e p e₁ e₂ e₃ q =
    rw (add-one style) (rw (e, p, text_same w b style l work work' sums sums' bytes bytes' e₁ e₂ e₃) at q)

texts_same : (stored : List ℕ) (t : Tally) (w b : List ℕ) (l : Layout) (work work' sums sums' bytes bytes' : List ℕ)
    → length work' ≡ length work → length sums' ≡ length sums → length bytes' ≡ length bytes → (k : ℕ)
    → texts_compared stored t w b l work' sums' bytes' k ≡ texts_compared stored t w b l work sums bytes k
unfolding texts_compared
texts_same stored t w b l work work' sums sums' bytes bytes' e₁ e₂ e₃ zero = refl
texts_same stored t w b l work work' sums sums' bytes bytes' e₁ e₂ e₃ (suc k) =
    rw (texts_same stored t w b l work work' sums sums' bytes bytes' e₁ e₂ e₃ k, text_same w b k l work work' sums sums' bytes bytes' e₁ e₂ e₃)

-- label list and letters, then the texts, with slices that were lent before
pub layout_asked : (stored : List ℕ) (t : Tally) (w b work work' sums sums' out bytes bytes' : List ℕ)
    {moved begun listed lettered r : Tally} {both : Answers} {width indent first : ℕ} → 12 ≤ length stored - t.at
    → width ≡ word_at stored t.at → indent ≡ word_at stored (t.at + 4) → first ≡ word_at stored (t.at + 8)
    → moved ≡ moved_to (t.at + 12) t → begun ≡ with_layout moved
    → both ≡ letters_answers w b (record { width = width; indent = indent; first = first }) work sums out bytes
    → listed ≡ compared stored begun both.labels → lettered ≡ compared stored listed both.letters
    → length work' ≡ length work → length sums' ≡ length sums → length bytes' ≡ length bytes
    → r ≡ texts_compared stored lettered w b (record { width = width; indent = indent; first = first }) work' sums' bytes' 5
    → r ≡ layout_compared stored t w b work sums out bytes
unfolding layout_compared
layout_asked stored t w b work work' sums sums' out bytes bytes' {lettered = lettered} h ew ei ef em eb ea el et e₁ e₂ e₃ e =
    rw (le-ltb (length stored - t.at) 12 h)
    (rw (texts_same stored lettered w b _ work work' sums sums' bytes bytes' e₁ e₂ e₃ 5, et, el, ea, eb, em, ew, ei, ef) at e)

pub no_layout : (stored : List ℕ) (t : Tally) (w b work sums out bytes : List ℕ) {r : Tally} → length stored - t.at < 12 → r ≡ malformed_at t
    → r ≡ layout_compared stored t w b work sums out bytes
unfolding layout_compared
no_layout stored t w b work sums out bytes h e = rw (lt-ltb (length stored - t.at) 12 h) e
