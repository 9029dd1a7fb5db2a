-- What every writer answers, and what all lent slices then hold. A writer tests 1 to 9, 14, 10 to 13, 15, skipping what does not apply.
use Rattle.std.specs.Prelude.{ℕ, Bool, not, ◌&&◌, ◌||◌, List, [], ◌∷◌, ◌++◌, map, length, eqb, leb}
use Rattle.laws.specs.Tools.{pick, over, zeroed}
use Rattle.defs.specs.Check.{Test, ◌when◌, first_of, or_else, table_refusal}
use Rattle.defs.specs.Counts.{parents_of, distances_of}
use Rattle.defs.specs.Steps.{flat}
use Rattle.defs.specs.Layout.{Layout, bad8}
use Rattle.defs.specs.Text.{is_compressed, is_packed, bad9, packed_of, normal_of, labels_of, letters_for, text_of}
use Rattle.defs.specs.Refusals.{bad10, bad11, bad12, bad13, need32, need16, bad14, bad15}

-- an answer: a number, the lengths written; then what each output slice and each working slice holds
pub record Outcome : Type 0 where
  pub number : ℕ
  pub lengths : List ℕ
  pub outs : List (List ℕ)
  pub works : List (List ℕ)

-- as a contract puts it together from what a call left: with one output, and with two
abbrev pub answer_one : (number length : ℕ) (works : List (List ℕ)) (out : List ℕ) → Outcome
answer_one number length works out = record { number = number; lengths = length ∷ []; outs = out ∷ []; works = works }

abbrev pub answer_two : (number first second : ℕ) (works : List (List ℕ)) (out₁ out₂ : List ℕ) → Outcome
answer_two number first second works out₁ out₂ =
    record { number = number; lengths = first ∷ second ∷ []; outs = out₁ ∷ out₂ ∷ []; works = works }

-- ---- the rule, by the number k of the answer

-- a refusal's lengths are 0
unfoldable pub length_after : ℕ → List ℕ → ℕ
length_after k result = pick (eqb k 0) (length result) 0

-- a refusal leaves the output unchanged; success leaves the rest past its end unchanged
unfoldable pub out_after : ℕ → List ℕ → List ℕ → List ℕ
out_after k result out = pick (eqb k 0) (over result out) out

-- refusals 1 to 9 and 14 come before any work
unfoldable pub is_early : ℕ → Bool
is_early k = (leb 1 k && leb k 9) || eqb k 14

-- they leave working slices unchanged, any other ending leaves them all zero
unfoldable pub work_after : ℕ → List ℕ → List ℕ
work_after k work = pick (is_early k) work (zeroed work)

-- the answer of a writer with one output; the working slices stand in the order in which they are lent
unfoldable pub one_output : (k : ℕ) (result : List ℕ) (works : List (List ℕ)) (out : List ℕ) → Outcome
one_output k result works out =
    record { number = k; lengths = length_after k result ∷ []; outs = out_after k result out ∷ []; works = map (work_after k) works }

-- of one with two outputs
unfoldable pub two_outputs : (k : ℕ) (result₁ result₂ : List ℕ) (works : List (List ℕ)) (out₁ out₂ : List ℕ) → Outcome
two_outputs k result₁ result₂ works out₁ out₂ =
    record {
      number = k;
      lengths = length_after k result₁ ∷ length_after k result₂ ∷ [];
      outs = out_after k result₁ out₁ ∷ out_after k result₂ out₂ ∷ [];
      works = map (work_after k) works;
    }

-- ---- the check: 1 to 7; nothing is written and nothing is lent to be written

unfoldable pub check_outcome : (w b : List ℕ) → Outcome
check_outcome w b = record { number = table_refusal w b; lengths = []; outs = []; works = [] }

-- ---- parents and distances: 1 to 7 and 15, no working slice

unfoldable pub counts_number : (w b result out : List ℕ) → ℕ
counts_number w b result out = or_else (table_refusal w b) (first_of (15 when bad15 result out ∷ []))

unfoldable pub parents_outcome : (w b out : List ℕ) → Outcome
parents_outcome w b out = one_output (counts_number w b (parents_of w) out) (parents_of w) [] out

unfoldable pub distances_outcome : (w b out : List ℕ) → Outcome
distances_outcome w b out = one_output (counts_number w b (distances_of w) out) (distances_of w) [] out

-- ---- step lists: 1 to 7, 14, 13 (normal only), 15

unfoldable pub step_list_words : (w : List ℕ) (packed explicit : Bool) → List ℕ
step_list_words w packed explicit =
    let p : List ℕ = flat (packed_of w explicit) in
    let n : List ℕ = flat (normal_of w explicit) in
    pick packed p n

unfoldable pub step_list_number : (w b : List ℕ) (packed explicit : Bool) (work out : List ℕ) → ℕ
step_list_number w b packed explicit work out =
    or_else (table_refusal w b) (first_of (14 when bad14 (need32 w) work
    ∷ 13 when (not packed && bad13 w)
    ∷ 15 when bad15 (step_list_words w packed explicit) out
    ∷ []))

unfoldable pub step_list_outcome : (w b : List ℕ) (packed explicit : Bool) (work out : List ℕ) → Outcome
step_list_outcome w b packed explicit work out =
    one_output (step_list_number w b packed explicit work out) (step_list_words w packed explicit) (work ∷ []) out

-- the tests that only the compressed form has, in order
unfoldable pub compressed_tests : (w : List ℕ) (l : Layout) → List Test
compressed_tests w l = 10 when bad10 w ∷ 11 when bad11 w ∷ 12 when bad12 w l ∷ []

-- ---- label list with letters: 1 to 8, 14, 10 to 12, 15 (either output)

unfoldable pub letters_number : (w b : List ℕ) (l : Layout) (work sums list letters : List ℕ) → ℕ
letters_number w b l work sums list letters =
    or_else (table_refusal w b) (first_of (8 when bad8 l
    ∷ 14 when (bad14 (need32 w) work || bad14 (need16 w l) sums)
    ∷ compressed_tests w l
    ++ 15 when (bad15 (labels_of w l) list || bad15 (letters_for w l) letters)
    ∷ []))

unfoldable pub letters_outcome : (w b : List ℕ) (l : Layout) (work sums list letters : List ℕ) → Outcome
letters_outcome w b l work sums list letters =
    two_outputs (letters_number w b l work sums list letters) (labels_of w l) (letters_for w l) (work ∷ sums ∷ []) list letters

-- ---- text: all, with the u16 slice and 10 to 12 for style 0 and 13 for styles 1 and 3

unfoldable pub text_number : (w b : List ℕ) (style : ℕ) (l : Layout) (work sums out : List ℕ) → ℕ
text_number w b style l work sums out =
    or_else (table_refusal w b) (first_of (8 when bad8 l
    ∷ 9 when bad9 style
    ∷ 14 when (bad14 (need32 w) work || (is_compressed style && bad14 (need16 w l) sums))
    ∷ pick (is_compressed style) (compressed_tests w l) []
    ++ 13 when (not (is_packed style) && bad13 w)
    ∷ 15 when bad15 (text_of w b style l) out
    ∷ []))

unfoldable pub text_outcome : (w b : List ℕ) (style : ℕ) (l : Layout) (work sums out : List ℕ) → Outcome
text_outcome w b style l work sums out =
    one_output (text_number w b style l work sums out) (text_of w b style l) (work ∷ sums ∷ []) out
