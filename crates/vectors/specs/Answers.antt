-- What the library answers, as it is compared: the number, the length of an output, and the hash of what was written into it.
use Rattle.std.specs.Prelude.{Bool, ◌&&◌, List, [], ℕ, eqb, get_or}
use Rattle.defs.specs.Layout.{Layout}
use Rattle.defs.specs.Outcome.{Outcome, parents_outcome, distances_outcome, step_list_outcome, letters_outcome, text_outcome}
use Rattle.vectors.specs.Hash.{hash_to}
use Rattle.vectors.specs.declared.operations.Answer.{Answer}
use Rattle.vectors.specs.declared.operations.Answers.{Answers}

-- what was written is the first `length` elements of the output
abbrev pub answer_of : (number length : ℕ) (out : List ℕ) → Answer
answer_of number length out = record { number = number; length = length; hash = hash_to out length }

-- of the output at this place of an operation's outcome
abbrev pub answer_at : ℕ → Outcome → Answer
answer_at i o = answer_of o.number (get_or o.lengths i 0) (get_or o.outs i [])

-- ---- the operations

unfoldable pub parents_answer : (w b out : List ℕ) → Answer
parents_answer w b out = answer_at 0 (parents_outcome w b out)

unfoldable pub distances_answer : (w b out : List ℕ) → Answer
distances_answer w b out = answer_at 0 (distances_outcome w b out)

unfoldable pub list_answer : (w b : List ℕ) (packed explicit : Bool) (work out : List ℕ) → Answer
list_answer w b packed explicit work out = answer_at 0 (step_list_outcome w b packed explicit work out)

-- the label list, and the letters
abbrev pub answers_of : Outcome → Answers
answers_of o = record { labels = answer_at 0 o; letters = answer_at 1 o }

unfoldable pub letters_answers : (w b : List ℕ) (l : Layout) (work sums list letters : List ℕ) → Answers
letters_answers w b l work sums list letters = answers_of (letters_outcome w b l work sums list letters)

unfoldable pub text_answer : (w b : List ℕ) (style : ℕ) (l : Layout) (work sums out : List ℕ) → Answer
text_answer w b style l work sums out = answer_at 0 (text_outcome w b style l work sums out)

-- an answer is the stored one: it is no refusal, and its length and its hash are those stored
unfoldable pub is_stored : Answer → (length hash : ℕ) → Bool
is_stored a length hash = eqb a.number 0 && (eqb a.length length && eqb a.hash hash)
