-- Lines of a text: each ends with a newline.
use Rattle.std.specs.Prelude.{ℕ, zero, suc, ◌≡◌, List, [], ◌∷◌, ◌++◌, take, drop, eqb}
use Rattle.io.specs.Counts.{IsPrefixLen}
use Rattle.laws.specs.Tools.{pick}
use Rattle.defs.specs.Bytes.{newline}

-- how many bytes stand before the first newline; all of them where there is none
unfoldable pub line_length : List ℕ → ℕ
line_length [] = 0
line_length (x ∷ rest) = let more : ℕ = suc (line_length rest) in pick (eqb x newline) 0 more

-- the text from line k on; nothing where it has fewer lines
unfoldable pub from_line : ℕ → List ℕ → List ℕ
from_line zero text = text
from_line (suc k) text = let rest : List ℕ = from_line k text in drop (suc (line_length rest)) rest

-- line k without its newline; empty where there are fewer lines
unfoldable pub line_at : ℕ → List ℕ → List ℕ
line_at k text = let rest : List ℕ = from_line k text in take (line_length rest) rest

-- a line as it is printed
abbrev pub ended : List ℕ → List ℕ
ended line = line ++ (newline ∷ [])

-- lines one after another, as a text
unfoldable pub joined : List (List ℕ) → List ℕ
joined [] = []
joined (line ∷ rest) = ended line ++ joined rest

-- a line, or several, stands at the front of a slice: so many bytes
pub record Said (line : List ℕ) (count : ℕ) (slice : List ℕ) : Type 0 where
  pub inside : IsPrefixLen count slice
  pub says : take count slice ≡ line
