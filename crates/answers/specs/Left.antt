-- What a call left, as an answer of document 01: its record, its working slices and its outputs, put together in one place for every contract.
use Rattle.std.specs.Prelude.{ℕ, List, [], ◌∷◌}
use Rattle.defs.specs.Check.{Test, first_of}
use Rattle.defs.specs.Outcome.{Outcome, one_output, two_outputs}
use Rattle.answers.specs.declared.written.Written.{Written}
use Rattle.answers.specs.declared.written.WrittenTwo.{WrittenTwo}

abbrev pub left_one : Written → (works : List (List ℕ)) (out : List ℕ) → Outcome
left_one r works out = record { number = r.number; lengths = r.length ∷ []; outs = out ∷ []; works = works }

abbrev pub left_two : WrittenTwo → (works : List (List ℕ)) (out₁ out₂ : List ℕ) → Outcome
left_two r works out₁ out₂ =
    record { number = r.number; lengths = r.first ∷ r.second ∷ []; outs = out₁ ∷ out₂ ∷ []; works = works }

-- a refusal's lengths are 0
abbrev pub refusal : ℕ → Written
refusal number = record { number = number; length = 0 }

abbrev pub refusal_two : ℕ → WrittenTwo
refusal_two number = record { number = number; first = 0; second = 0 }

-- success gives the lengths written
abbrev pub success : ℕ → Written
success len = record { number = 0; length = len }

abbrev pub success_two : (first second : ℕ) → WrittenTwo
success_two first second = record { number = 0; first = first; second = second }

-- ---- once the work has begun: what the tests that are left say of the outputs. The working slices stand apart, they are wiped after it

abbrev pub late_one : (tests : List Test) (result out : List ℕ) → Outcome
late_one tests result out = one_output (first_of tests) result [] out

abbrev pub late_two : (tests : List Test) (result₁ result₂ out₁ out₂ : List ℕ) → Outcome
late_two tests result₁ result₂ out₁ out₂ = two_outputs (first_of tests) result₁ result₂ [] out₁ out₂
