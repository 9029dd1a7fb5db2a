-- The number that letters spell, in 32 bits.
use Rattle.std.specs.Prelude.{ℕ, min, leb, Option, Some, None}
use Rattle.laws.specs.Tools.{pick}
use Rattle.defs.specs.Table.{max_word}

-- the least value of leading letters whose number passes 32 bits whatever letter finishes it (law `cap_passes`)
abbrev pub cap : ℕ
cap = 214748365

-- what the code keeps of the value of the leading letters
abbrev pub capped : ℕ → ℕ
capped pending = min pending cap

-- what the code makes of a number
unfoldable pub number_of : ℕ → Option ℕ
number_of n = pick (leb n max_word) (Some n) None
