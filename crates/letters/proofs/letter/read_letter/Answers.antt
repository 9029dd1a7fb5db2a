-- `read_letter` meets its contract: each arm of the `match` is a range of the definition.
-- `Z` is decided first, then the ranges from below.
use mathlib.Core.Path.{◌≡◌, sym}
use native.Mathlib.Omega.{arith}
use Rattle.letters.proofs.Ranges.{is_finishing, is_leading, is_mark, is_low, is_high}
use Rattle.letters.proofs.letter.read_letter.Goals as goal

pub returns-in-90 : goal.returns-in-90
returns-in-90 c = let e : c.args.b ≡ 90 = omega arith in rw e (sym is_mark)

pub returns-in-65-to-84 : goal.returns-in-65-to-84
returns-in-65-to-84 c = sym (is_finishing _ _ (omega arith) (omega arith))

pub returns-in-85-to-89 : goal.returns-in-85-to-89
returns-in-85-to-89 c = sym (is_leading _ _ (omega arith) (omega arith) (omega arith))

pub returns-in_default : goal.returns-in_default
returns-in_default c = sym (is_low _ (omega arith))

pub returns-in_default-2 : goal.returns-in_default-2
returns-in_default-2 c =
    let z : c.args.b ≡ 90 → ⊥ = omega arith in
    sym (is_high _ (omega arith))
