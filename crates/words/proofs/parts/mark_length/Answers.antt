-- `mark_length` meets its contract: a name has its digits and a colon, and 0 names no mark.
-- A number of 32 bits has at most ten digits, so the sum does not wrap.
use mathlib.Core.Path.{refl}
use native.Mathlib.Omega.{arith}
use Rattle.words.specs.Spelled.{mark_part}
use Rattle.names.proofs.Decimals.{digits_most}
use Rattle.words.proofs.PartLaws.{no_mark_long, mark_long}
use Rattle.words.proofs.parts.mark_length.Goals as goal

pub overflow_add-result : goal.overflow_add-result
overflow_add-result c = omega (arith, c.decimal_length.ensures, digits_most c.in-Some.number (omega arith))

pub returns-in-Some : goal.returns-in-Some
returns-in-Some c =
    let n = c.in-Some.number in
    rw c.in-Some.is (
      omega (arith, c.decimal_length.ensures, mark_long n (λ z. omega arith)),
      omega (arith, c.decimal_length.ensures, digits_most n (omega arith)),
    )

pub returns-in_default : goal.returns-in_default
returns-in_default c = rw c.in-Some.is (no_mark_long _ (omega arith), omega arith)

pub returns-in_default-2 : goal.returns-in_default-2
unfolding mark_part
returns-in_default-2 c = rw c.in_default.is (refl, omega arith)
