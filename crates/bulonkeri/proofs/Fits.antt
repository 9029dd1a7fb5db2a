-- What an operation wrote stands inside its output, as `&out[..length]` asks it.
-- Laws of `defs` say so of each operation's outcome.
use mathlib.Core.Path.{◌≡◌, sym}
use mathlib.Core.List.{List}
use Prim.Native.Nat.{ℕ, ◌≤◌}
use lib.ListN.{length}
use lib.Seq.{length-take-le}
use Rattle.std.specs.Prelude.{Result, Ok, Err, IfOk}
use Rattle.io.specs.Counts.{IsPrefixLen}
use Rattle.answers.specs.declared.refusals.Refusal.{Refusal}
use Rattle.answers.specs.declared.written.Lengths.{Lengths}
use Rattle.answers.specs.Refused.{answer_length, answer_first, answer_second}
use Rattle.defs.specs.Outcome.{Outcome, answer_one, answer_two}
use Rattle.defs.specs.Inside.{Inside, one_inside, two_inside}

pub counts : (n : ℕ) (xs : List ℕ) → n ≤ length xs → IsPrefixLen n xs
counts n xs h = (h, sym (length-take-le n xs h))

-- of an answer with one output
pub one_counts : {number : ℕ} {works : List (List ℕ)} {out : List ℕ} {o : Outcome} (answer : Result ℕ Refusal)
    → answer_one number (answer_length answer) works out ≡ o → Inside o → IfOk answer (λ count. IsPrefixLen count out)
one_counts {out = out} (Ok n) e i = counts n out (one_inside e i)
one_counts (Err _) e i = record {}

-- of the first output of an answer with two, and of the second
pub first_count : {number second : ℕ} {works : List (List ℕ)} {out₁ out₂ : List ℕ} {o : Outcome} (answer : Result Lengths Refusal)
    → answer_two number (answer_first answer) second works out₁ out₂ ≡ o → Inside o → IfOk answer (λ lengths. IsPrefixLen lengths.first out₁)
first_count {out₁ = out₁} (Ok lengths) e i = counts lengths.first out₁ (two_inside e i).0
first_count (Err _) e i = record {}

pub second_count : {number first : ℕ} {works : List (List ℕ)} {out₁ out₂ : List ℕ} {o : Outcome} (answer : Result Lengths Refusal)
    → answer_two number first (answer_second answer) works out₁ out₂ ≡ o → Inside o → IfOk answer (λ lengths. IsPrefixLen lengths.second out₂)
second_count {out₂ = out₂} (Ok lengths) e i = counts lengths.second out₂ (two_inside e i).1
second_count (Err _) e i = record {}
