-- Decoding of document 01, `Reading back`: a label list and letters, read into a step list.
use Rattle.std.specs.Prelude.{ℕ, ◌+◌, ◌-◌, ◌*◌, Bool, true, false, not, ◌&&◌, ◌||◌, List, [], ◌∷◌, ◌++◌, length, get_or, eqb, leb, ltb}
use Rattle.std.proofs.Math.Option.{Option, none, some}
use Rattle.laws.specs.Tools.{pick, any, member, repeats}
use Rattle.defs.specs.Table.{max_word, statements, mandatory}
use Rattle.defs.specs.Check.{◌when◌, first_of, or_else, table_refusal}
use Rattle.defs.specs.Steps.{Step, flat}
use Rattle.defs.specs.Refusals.{bad10, bad15}
use Rattle.defs.specs.Outcome.{Outcome, one_output}

-- 16: a list item not below s, in the theorem's list, or repeated
unfoldable pub bad_labels : List ℕ → List ℕ → Bool
bad_labels w labels = any (λ k. not (ltb k (statements w)) || member k (mandatory w)) labels || repeats labels

-- the value of the leading letters read so far (0: none), whether the last letter finished a code, how many marks, the steps
pub record Reading : Type 0 where
  pub pending : ℕ
  pub finished : Bool
  pub given : ℕ
  pub out : List Step

-- the step that number v names
unfoldable pub step_named : List ℕ → List ℕ → ℕ → Step
step_named thm labels v =
    let a : ℕ = length thm in
    let b : ℕ = length thm + length labels in
    record {
      ref = pick (ltb v b) 0 (v - b + 1);
      mark = 0;
      stmt = pick (ltb v a) (get_or thm v 0) (pick (ltb v b) (get_or labels (v - a) 0) 0);
      parent = 0;
      index = 0;
    }

-- the last step gets mark m
unfoldable pub mark_last : ℕ → List Step → List Step
mark_last m [] = []
mark_last m (t ∷ []) = record { ref = t.ref; mark = m; stmt = t.stmt; parent = t.parent; index = t.index } ∷ []
mark_last m (t ∷ u ∷ ts) = t ∷ mark_last m (u ∷ ts)

-- `A` to `T` finish a code; a number naming nothing yet is refused (one past what a word holds names nothing)
unfoldable pub finish_code : List ℕ → List ℕ → Reading → ℕ → Option Reading
finish_code thm labels d x =
    let v : ℕ = d.pending * 20 + (x - 65) in
    pick (ltb v (length thm + length labels + d.given) && leb v max_word)
    (some (record { pending = 0; finished = true; given = d.given; out = d.out ++ step_named thm labels v ∷ [] }))
    none

-- `U` to `Y` lead: the digits are 1 to 5, none is zero
unfoldable pub lead_code : Reading → ℕ → Option Reading
lead_code d x = some (record { pending = d.pending * 5 + (x - 84); finished = false; given = d.given; out = d.out })

-- `Z` marks the step just finished; not straight after a finished code it is refused, nor is there a mark past what a word holds
unfoldable pub mark_step : Reading → Option Reading
mark_step d =
    pick (d.finished && ltb d.given max_word)
    (some (record { pending = 0; finished = false; given = d.given + 1; out = mark_last (d.given + 1) d.out }))
    none

-- any other byte is refused
unfoldable pub one_letter : List ℕ → List ℕ → Reading → ℕ → Option Reading
one_letter thm labels d x =
    pick (leb 65 x && leb x 84) (finish_code thm labels d x)
    (pick (leb 85 x && leb x 89) (lead_code d x)
    (pick (eqb x 90) (mark_step d) none))

unfoldable pub or_refuse {ℓ} : {A B : Type ℓ} → Option A → (A → Option B) → Option B
or_refuse none next = none
or_refuse (some d) next = next d

-- letters must not end inside a code
unfoldable pub all_letters : List ℕ → List ℕ → List ℕ → Reading → Option (List Step)
all_letters thm labels [] d = pick (eqb d.pending 0) (some d.out) none
all_letters thm labels (x ∷ xs) d = or_refuse (one_letter thm labels d x) (λ next. all_letters thm labels xs next)

-- the steps of letters, none where they are malformed
unfoldable pub decoded : List ℕ → List ℕ → List ℕ → Option (List Step)
decoded w labels letters = all_letters (mandatory w) labels letters (record { pending = 0; finished = false; given = 0; out = [] })

-- ---- the answer: 1 to 7, 10, 16, 17, 15; a refusal changes nothing; success leaves output past its end unchanged

unfoldable pub refused_steps : Option (List Step) → Bool
refused_steps none = true
refused_steps (some ts) = false

unfoldable pub steps_or : Option (List Step) → List Step
steps_or none = []
steps_or (some ts) = ts

unfoldable pub decode_number : (w b list letters out : List ℕ) → ℕ
decode_number w b list letters out =
    or_else (table_refusal w b) (first_of (10 when bad10 w
    ∷ 16 when bad_labels w list
    ∷ 17 when refused_steps (decoded w list letters)
    ∷ 15 when bad15 (flat (steps_or (decoded w list letters))) out
    ∷ []))

unfoldable pub decode_outcome : (w b list letters out : List ℕ) → Outcome
decode_outcome w b list letters out =
    one_output (decode_number w b list letters out) (flat (steps_or (decoded w list letters))) [] out
