-- What is larger than the slices lent, as it is printed.
use Rattle.std.specs.Prelude.{ℕ, List, [], ◌∷◌, ◌++◌}
use Rattle.defs.specs.Bytes.{space}
use Rattle.defs.specs.Names.{digits}
use Rattle.answers_said.specs.Bytes.{bytes}
use Rattle.answers_said.specs.Lines.{ended}

unfoldable pub too_large_line : (what : List ℕ) (most : ℕ) → List ℕ
too_large_line what most = ended (((bytes "too large: " ++ what) ++ (space ∷ [])) ++ digits most)
