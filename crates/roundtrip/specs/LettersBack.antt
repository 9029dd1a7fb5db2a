-- The letters of a covered table decode to its packed list: the list is readable, and its label list is not refused.
use Rattle.std.specs.Prelude.{◌≡◌, ◌⊎◌, ℕ, true, T}
use mathlib.Core.List.{List}
use Rattle.laws.specs.Tools.{member}
use Rattle.defs.specs.Steps.{Step, is_normal}

-- ---- the packed list is readable, wherever the statements of its normal steps are named

-- a normal step's statement stands in one of the two lists
abbrev pub Named : List ℕ → List ℕ → Step → Type 0
Named thm labels t = is_normal t ≡ true → T (member t.stmt thm) ⊎ T (member t.stmt labels)
