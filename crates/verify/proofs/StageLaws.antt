-- What `at_stage` passes on: an answer, or its refusal at this stage. And an operation's clause where it is known which.
-- Assumes nothing.
use mathlib.Core.Path.{◌≡◌, refl, ap}
use mathlib.Core.List.{List}
use Prim.Native.Nat.{ℕ}
use Rattle.std.specs.Prelude.{Result, Ok, Err}
use Rattle.std.proofs.Common.{subst}
use Rattle.defs.specs.Outcome.{Outcome, answer_one, answer_two}
use Rattle.answers.specs.declared.refusals.Refusal.{Refusal}
use Rattle.answers.specs.declared.written.Lengths.{Lengths}
use Rattle.answers.specs.Refused.{refusal_number, answer_number, answer_length, answer_first, answer_second}
use Rattle.verify.specs.Verdicts.{at_stage}
use Rattle.verify.specs.declared.verdict.Stage.{Stage}
use Rattle.verify.specs.declared.verdict.Disagreement.{Disagreement}
use Rattle.verify.specs.declared.verdict.Disagreement.TheVariants as code

pub stage_ok : {T : Type 0} (stage : Stage) (answer : Result T Refusal) (x : T) → at_stage stage answer ≡ Ok x → answer ≡ Ok x
stage_ok stage (Ok y) x e = let same : y ≡ x = cc in ap Ok same
stage_ok stage (Err r) x e = cc

pub stage_err : {T : Type 0} (stage : Stage) (answer : Result T Refusal) (d : Disagreement) → at_stage stage answer ≡ Err d
    → (r : Refusal) × (answer ≡ Err r) × (d ≡ code.Refused stage r)
stage_err stage (Ok y) d e = cc
stage_err stage (Err r) d e = let same : d ≡ code.Refused stage r = cc in (r, refl, same)

module _ (answer : Result ℕ Refusal) (works : List (List ℕ)) (out : List ℕ) (o : Outcome)
    (answered : answer_one (answer_number answer) (answer_length answer) works out ≡ o) where
  pub one_ok : (n : ℕ) → answer ≡ Ok n → answer_one 0 n works out ≡ o
  one_ok n e = subst (λ (x : Result ℕ Refusal). answer_one (answer_number x) (answer_length x) works out ≡ o) e answered

  pub one_err : (r : Refusal) → answer ≡ Err r → answer_one (refusal_number r) 0 works out ≡ o
  one_err r e = subst (λ (x : Result ℕ Refusal). answer_one (answer_number x) (answer_length x) works out ≡ o) e answered

module _ (answer : Result Lengths Refusal) (works : List (List ℕ)) (out₁ out₂ : List ℕ) (o : Outcome)
    (answered : answer_two (answer_number answer) (answer_first answer) (answer_second answer) works out₁ out₂ ≡ o) where
  pub two_ok : (n : Lengths) → answer ≡ Ok n → answer_two 0 n.first n.second works out₁ out₂ ≡ o
  two_ok n e = subst (λ (x : Result Lengths Refusal). answer_two (answer_number x) (answer_first x) (answer_second x) works out₁ out₂ ≡ o) e answered

  pub two_err : (r : Refusal) → answer ≡ Err r → answer_two (refusal_number r) 0 0 works out₁ out₂ ≡ o
  two_err r e = subst (λ (x : Result Lengths Refusal). answer_two (answer_number x) (answer_first x) (answer_second x) works out₁ out₂ ≡ o) e answered
