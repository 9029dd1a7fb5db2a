-- For each public operation: two calls with the same inputs whose answers its contract allows have the same number, the same lengths and the
-- same slices. Every contract has the form of the premises here.
use Rattle.std.specs.Prelude.{◌≡◌, Bool, List, [], ◌∷◌, ℕ}
use Rattle.std.proofs.Common.{sym, ◌∙◌}
use Rattle.defs.specs.Check.{table_refusal}
use Rattle.defs.specs.Layout.{Layout}
use Rattle.defs.specs.Outcome.{Outcome, parents_outcome, distances_outcome, step_list_outcome, letters_outcome, text_outcome}
use Rattle.defs.specs.Decode.{decode_outcome}
use Rattle.defs.specs.Replay.{replay_outcome}
use Rattle.answers.specs.declared.written.Written.{Written}
use Rattle.answers.specs.declared.written.WrittenTwo.{WrittenTwo}
use Rattle.answers.specs.Left.{left_one, left_two}
use Rattle.answers.specs.Pins.{one_parts, two_parts}

-- no working slice, one, and two: every slice of an answer is pinned by itself
abbrev NoWork : Outcome → Type 0
NoWork outcome =
    (r r' : Written) (out out' : List ℕ) → left_one r [] out ≡ outcome → left_one r' [] out' ≡ outcome → (r ≡ r') × (out ≡ out')

abbrev OneWork : Outcome → Type 0
OneWork outcome =
    (r r' : Written) (work work' out out' : List ℕ) → left_one r (work ∷ []) out ≡ outcome → left_one r' (work' ∷ []) out' ≡ outcome
    → (r ≡ r') × ((work ≡ work') × (out ≡ out'))

abbrev TwoWorks : Outcome → Type 0
TwoWorks outcome =
    (r r' : Written) (work work' sums sums' out out' : List ℕ) → left_one r (work ∷ sums ∷ []) out ≡ outcome → left_one r' (work' ∷ sums' ∷ []) out' ≡ outcome
    → (r ≡ r') × ((work ≡ work') × ((sums ≡ sums') × (out ≡ out')))

no_work : (o : Outcome) → NoWork o
no_work o r r' out out' p q = let e = one_parts (p ∙ sym q) in (e.0, e.1.1)

one_work : (o : Outcome) → OneWork o
one_work o r r' work work' out out' p q =
    let e = one_parts (p ∙ sym q) in
    let works : work ∷ [] ≡ work' ∷ [] = e.1.0 in
    (e.0, ((cc), e.1.1))

two_works : (o : Outcome) → TwoWorks o
two_works o r r' work work' sums sums' out out' p q =
    let e = one_parts (p ∙ sym q) in
    let works : work ∷ sums ∷ [] ≡ work' ∷ sums' ∷ [] = e.1.0 in
    (e.0, ((cc), ((cc), e.1.1)))

-- ---- the operations

pub check_once : (w b : List ℕ) (r r' : ℕ) → r ≡ table_refusal w b → r' ≡ table_refusal w b → r ≡ r'
check_once w b r r' p q = p ∙ sym q

pub parents_once : (w b out : List ℕ) → NoWork (parents_outcome w b out)
parents_once w b out = no_work _

pub distances_once : (w b out : List ℕ) → NoWork (distances_outcome w b out)
distances_once w b out = no_work _

-- packed_list and normal_list, explicit or not
pub list_once : (w b : List ℕ) (packed explicit : Bool) (work out : List ℕ) → OneWork (step_list_outcome w b packed explicit work out)
list_once w b packed explicit work out = one_work _

pub text_once : (w b : List ℕ) (style : ℕ) (l : Layout) (work sums out : List ℕ) → TwoWorks (text_outcome w b style l work sums out)
text_once w b style l work sums out = two_works _

pub decode_once : (w b list letters out : List ℕ) → NoWork (decode_outcome w b list letters out)
decode_once w b list letters out = no_work _

pub letters_once : (w b : List ℕ) (l : Layout) (work sums list letters : List ℕ) (r r' : WrittenTwo) (work₁ work₂ sums₁ sums₂ list₁ list₂ letters₁ letters₂ : List ℕ)
    → left_two r (work₁ ∷ sums₁ ∷ []) list₁ letters₁ ≡ letters_outcome w b l work sums list letters
    → left_two r' (work₂ ∷ sums₂ ∷ []) list₂ letters₂ ≡ letters_outcome w b l work sums list letters
    → (r ≡ r') × ((work₁ ≡ work₂) × ((sums₁ ≡ sums₂) × ((list₁ ≡ list₂) × (letters₁ ≡ letters₂))))
letters_once w b l work sums list letters r r' work₁ work₂ sums₁ sums₂ list₁ list₂ letters₁ letters₂ p q =
    let e = two_parts (p ∙ sym q) in
    let works : work₁ ∷ sums₁ ∷ [] ≡ work₂ ∷ sums₂ ∷ [] = e.1.0 in
    (e.0, ((cc), ((cc), e.1.1)))

pub replay_once : (w b steps work entries children : List ℕ) (r r' : WrittenTwo) (work₁ work₂ entries₁ entries₂ children₁ children₂ : List ℕ)
    → left_two r (work₁ ∷ []) entries₁ children₁ ≡ replay_outcome w b steps work entries children
    → left_two r' (work₂ ∷ []) entries₂ children₂ ≡ replay_outcome w b steps work entries children
    → (r ≡ r') × ((work₁ ≡ work₂) × ((entries₁ ≡ entries₂) × (children₁ ≡ children₂)))
replay_once w b steps work entries children r r' work₁ work₂ entries₁ entries₂ children₁ children₂ p q =
    let e = two_parts (p ∙ sym q) in
    let works : work₁ ∷ [] ≡ work₂ ∷ [] = e.1.0 in
    (e.0, ((cc), e.1.1))
