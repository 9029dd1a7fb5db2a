-- `is_decimal` meets its contract: the bytes are compared with the end of the array that holds the digits.
-- Assumes nothing.
use mathlib.Core.Path.{ap, ◌∙◌}
use mathlib.Core.List.{List}
use Prim.Native.Nat.{ℕ}
use Rattle.laws.specs.Tools.{same}
use Rattle.laws.specs.Library.{pointwise_same}
use Rattle.names.proofs.Decimals.{array_part}
use Rattle.names.proofs.number.is_decimal.Goals as goal

pub returns : goal.returns
returns c =
    let d = c.decimal_of-decimal in
    c.eq.ensures ∙ pointwise_same c.args.bytes.now _ ∙ ap (λ (l : List ℕ). same c.args.bytes.now l) (array_part d.result.digits d.result.start _ d.ensures.0)
