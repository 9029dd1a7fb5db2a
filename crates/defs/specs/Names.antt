-- Names of marks: decimals from 1 in order, skipping any that is a label in the table.
use Rattle.std.specs.Prelude.{ℕ, zero, suc, ◌+◌, ◌/◌, ◌%◌, Bool, not, List, [], ◌∷◌, ◌++◌, ltb}
use Rattle.laws.specs.Tools.{pick, some_below, first_from, same}
use Rattle.defs.specs.Table.{statements, statement_words, label_in}

-- the decimal digits of x as bytes, no leading zero; `room` bounds how many
unfoldable pub digits_within : ℕ → ℕ → List ℕ
digits_within zero x = []
digits_within (suc room) x =
    let long : List ℕ = digits_within room (x / 10) ++ (48 + x % 10) ∷ [] in
    pick (ltb x 10) ((48 + x) ∷ []) long

unfoldable pub digits : ℕ → List ℕ
digits x = digits_within (suc x) x

-- ---- by a statement section of s statements

-- these bytes are a label of one of them
unfoldable pub is_label_in : (ss b : List ℕ) (s : ℕ) → List ℕ → Bool
is_label_in ss b s text = some_below (λ k. same (label_in ss b k) text) s

-- x is no label: it may serve as a name
unfoldable pub is_free_in : (ss b : List ℕ) (s : ℕ) → ℕ → Bool
is_free_in ss b s x = not (is_label_in ss b s (digits x))

-- the number that names mark m: the first free one past the name before it (there are only s labels to skip)
unfoldable pub name_number_in : (ss b : List ℕ) (s : ℕ) → ℕ → ℕ
name_number_in ss b s zero = 0
name_number_in ss b s (suc m) = first_from (is_free_in ss b s) (suc (name_number_in ss b s m)) s

-- ---- the same of a table

abbrev pub is_label : List ℕ → List ℕ → List ℕ → Bool
is_label w b = is_label_in (statement_words w) b (statements w)

abbrev pub is_free : List ℕ → List ℕ → ℕ → Bool
is_free w b = is_free_in (statement_words w) b (statements w)

abbrev pub name_number : List ℕ → List ℕ → ℕ → ℕ
name_number w b = name_number_in (statement_words w) b (statements w)

unfoldable pub name : List ℕ → List ℕ → ℕ → List ℕ
name w b m = digits (name_number w b m)
