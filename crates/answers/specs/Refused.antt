-- The numbers of the refusals, and what a result says as an answer of document 01: a number, 0 for success, and lengths, 0 for a refusal.
use Rattle.std.specs.Prelude.{◌≡◌, ◌≢◌, ℕ, Result, Ok, Err}
use Rattle.std.proofs.Common.{sym, ap, ◌∙◌, arith}
use Rattle.answers.specs.declared.refusals.Refusal.{Refusal}
use Rattle.answers.specs.declared.refusals.Refusal.TheVariants.{Header, Statements, Labels, Hypotheses, Entries, Children, Goal, Layout, Style, Mixed, StrayEssential, LongLabel, ManySteps, ShortWork, ShortOutput, BadList, BadLetters, BadStack}
use Rattle.answers.specs.declared.written.Written.{Written}
use Rattle.answers.specs.declared.written.WrittenTwo.{WrittenTwo}
use Rattle.answers.specs.declared.written.Lengths.{Lengths}
use Rattle.answers.specs.Left.{refusal, success, refusal_two, success_two}

abbrev pub refusal_number : Refusal → ℕ
refusal_number Header = 1
refusal_number Statements = 2
refusal_number Labels = 3
refusal_number Hypotheses = 4
refusal_number Entries = 5
refusal_number Children = 6
refusal_number Goal = 7
refusal_number Layout = 8
refusal_number Style = 9
refusal_number Mixed = 10
refusal_number StrayEssential = 11
refusal_number LongLabel = 12
refusal_number ManySteps = 13
refusal_number ShortWork = 14
refusal_number ShortOutput = 15
refusal_number BadList = 16
refusal_number BadLetters = 17
refusal_number BadStack = 18

-- the number of an answer
abbrev pub answer_number : {T : Type 0} → Result T Refusal → ℕ
answer_number (Ok _) = 0
answer_number (Err r) = refusal_number r

-- the length of an answer with one output; those of one with two
abbrev pub answer_length : Result ℕ Refusal → ℕ
answer_length (Ok n) = n
answer_length (Err _) = 0

abbrev pub answer_first : Result Lengths Refusal → ℕ
answer_first (Ok lengths) = lengths.first
answer_first (Err _) = 0

abbrev pub answer_second : Result Lengths Refusal → ℕ
answer_second (Ok lengths) = lengths.second
answer_second (Err _) = 0

-- the same as C has it
abbrev pub written_of : Result ℕ Refusal → Written
written_of (Ok n) = success n
written_of (Err r) = refusal (refusal_number r)

abbrev pub written_two_of : Result Lengths Refusal → WrittenTwo
written_two_of (Ok lengths) = success_two lengths.first lengths.second
written_two_of (Err r) = refusal_two (refusal_number r)

-- ---- what an answer shows of the number that its contract gives

-- no refusal has the number 0
pub refusal_some : (r : Refusal) → refusal_number r ≢ 0
refusal_some Header e = absurd (omega arith)
refusal_some Statements e = absurd (omega arith)
refusal_some Labels e = absurd (omega arith)
refusal_some Hypotheses e = absurd (omega arith)
refusal_some Entries e = absurd (omega arith)
refusal_some Children e = absurd (omega arith)
refusal_some Goal e = absurd (omega arith)
refusal_some Layout e = absurd (omega arith)
refusal_some Style e = absurd (omega arith)
refusal_some Mixed e = absurd (omega arith)
refusal_some StrayEssential e = absurd (omega arith)
refusal_some LongLabel e = absurd (omega arith)
refusal_some ManySteps e = absurd (omega arith)
refusal_some ShortWork e = absurd (omega arith)
refusal_some ShortOutput e = absurd (omega arith)
refusal_some BadList e = absurd (omega arith)
refusal_some BadLetters e = absurd (omega arith)
refusal_some BadStack e = absurd (omega arith)

module _ {T : Type 0} (answer : Result T Refusal) (number : ℕ) (is : answer_number answer ≡ number) where
  -- success
  pub passed : (x : T) → answer ≡ Ok x → number ≡ 0
  passed x e = sym is ∙ ap answer_number e

  -- a refusal
  pub stopped : (r : Refusal) → answer ≡ Err r → refusal_number r ≡ number
  stopped r e = sym (ap answer_number e) ∙ is

  pub stopped_some : (r : Refusal) → answer ≡ Err r → number ≢ 0
  stopped_some r e none = refusal_some r (stopped r e ∙ none)
