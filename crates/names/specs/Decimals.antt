-- How many digits a number has at the most, and where the numbers that labels say are capped.
use Rattle.std.specs.Prelude.{ℕ, min}

-- the most digits that a number of 32 bits has
abbrev pub most_digits : ℕ
most_digits = 10

-- more than there are marks and labels: numbers from here on are not told apart
abbrev pub cap : ℕ
cap = 100000

abbrev pub capped : ℕ → ℕ
capped number = min number cap
