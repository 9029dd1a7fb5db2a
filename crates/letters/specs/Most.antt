-- How many letters a number has at the most.
use Rattle.std.specs.Prelude.{ℕ}

-- the most letters that a number of 32 bits has
abbrev pub most_letters : ℕ
most_letters = 13
