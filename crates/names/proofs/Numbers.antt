-- Laws of the number that a label says: one digit more, and that a label which is a decimal says its number.
-- The cap is past every number that is looked for, so what is kept of those is exact.
use mathlib.Core.Path.{◌≡◌, ap, ◌∙◌}
use mathlib.Core.Bool.{true}
use mathlib.Core.List.{List, [], ◌∷◌}
use Prim.Native.Nat.{ℕ, ◌+◌, ◌*◌, ◌-◌, ◌<◌}
use native.Mathlib.Numerals.{add-one}
use native.Mathlib.Omega.{arith}
use lib.ListN.{length, get_or, take}
use lib.Seq.{take-suc}
use Rattle.laws.specs.Tools.{same}
use Rattle.laws.specs.Lists.{T_of, same_is}
use Rattle.defs.specs.Names.{digits}
use Rattle.defs.specs.NameLaws.{value, value_append, value_digits}
use Rattle.names.specs.Decimals.{cap, capped}

-- ---- digit by digit

pub number_none : (bytes : List ℕ) → 0 ≡ capped (value 0 (take 0 bytes))
unfolding value
number_none bytes = omega arith

value_more : (bytes : List ℕ) (i : ℕ) → i < length bytes → value 0 (take (i + 1) bytes) ≡ 10 * value 0 (take i bytes) + (get_or bytes i 0 - 48)
unfolding value
value_more bytes i h = rw (add-one i, take-suc bytes i 0 h) (value_append 0 (take i bytes) (get_or bytes i 0 ∷ []))

pub number_more : (bytes : List ℕ) (i number next : ℕ) → i < length bytes → number ≡ capped (value 0 (take i bytes))
    → next ≡ capped (10 * number + (get_or bytes i 0 - 48)) → next ≡ capped (value 0 (take (i + 1) bytes))
number_more bytes i number next h e f = omega (arith, value_more bytes i h)

-- ---- labels that are decimals

-- the decimal of a number below the cap says it
pub decimal_says : (label : List ℕ) (v : ℕ) → same label (digits v) ≡ true → v < cap → capped (value 0 label) ≡ v
decimal_says label v e h =
    let l : value 0 label ≡ v = ap (value 0) (same_is label (digits v) (T_of e)) ∙ value_digits v in
    omega arith
