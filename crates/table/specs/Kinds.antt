-- The kind that the first word of a statement says, if it says one.
use Rattle.std.specs.Prelude.{◌≡◌, refl, ℕ, zero, suc, ◌≤◌, ◌<◌, min, Option, Some, None}
use Rattle.std.proofs.Common.{sym, ap, ◌∙◌, arith}
use Rattle.table.specs.declared.kinds.Kind.{Kind}
use Rattle.table.specs.declared.kinds.Kind.TheVariants.{Assertion, Floating, Essential}

abbrev pub kind_said : ℕ → Option Kind
kind_said zero = Some Assertion
kind_said (suc zero) = Some Floating
kind_said (suc (suc zero)) = Some Essential
kind_said (suc (suc (suc n))) = None

-- the number of a kind; of none, the first that is no kind's
abbrev pub kind_number : Kind → ℕ
kind_number Assertion = 0
kind_number Floating = 1
kind_number Essential = 2

abbrev number_said : Option Kind → ℕ
number_said (Some kind) = kind_number kind
number_said None = 3

said : (n : ℕ) → number_said (kind_said n) ≡ min n 3
said zero = refl
said (suc zero) = refl
said (suc (suc zero)) = refl
said (suc (suc (suc n))) = omega arith

most_two : (kind : Kind) → kind_number kind ≤ 2
most_two Assertion = omega arith
most_two Floating = omega arith
most_two Essential = omega arith

-- the word that says a kind is its number, and one that says none is past all of them
pub says : (n : ℕ) (kind : Kind) → kind_said n ≡ Some kind → n ≡ kind_number kind
says n kind e = let k = sym (said n) ∙ ap number_said e in let most = most_two kind in omega arith

pub says_none : (n : ℕ) → kind_said n ≡ None → 2 < n
says_none n e = let k = sym (said n) ∙ ap number_said e in omega arith

pub says_most : (n : ℕ) (kind : Kind) → kind_said n ≡ Some kind → n ≤ 2
says_most n kind e = let k = says n kind e in let most = most_two kind in omega arith
