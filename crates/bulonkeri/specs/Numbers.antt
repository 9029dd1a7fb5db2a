-- What it means that an argument says a number.
use Rattle.std.specs.Prelude.{◌≡◌, List, ℕ, ◌≤◌, Option, Some, None}
use Rattle.defs.specs.Names.{digits}

-- the bytes are the decimal digits of the number; no number up to 100,000 is taken for none
unfoldable pub Says : List ℕ → Option ℕ → Type 0
Says text (Some n) = text ≡ digits n
Says text None = (n : ℕ) → n ≤ 100000 → ¬ (text ≡ digits n)
