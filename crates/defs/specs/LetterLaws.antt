-- Decoding undoes coding: the letters of a number, read from the start of a code, finish a code with that number.
use Rattle.std.specs.Prelude.{◌≡◌, eqb, ◌⊎◌}
use Prim.Native.Nat.{ℕ, ◌+◌, ◌≤◌}
use mathlib.Core.List.{List}
use Rattle.std.proofs.Math.Dec.{T}
use Rattle.laws.specs.Tools.{pick, member}
use Rattle.defs.specs.Steps.{Step}

-- ---- the number of a step names that step

-- a step that letters can carry after `given` marks: a mark or none; a normal step of a statement in one of the two lists, or a
-- reference to a mark given before; no explicit fields
pub record Readable (thm labels : List ℕ) (given : ℕ) (t : Step) : Type 0 where
  pub marked : (t.mark ≡ 0) ⊎ (t.mark ≡ given + 1)
  pub names : ((t.ref ≡ 0) × (T (member t.stmt thm) ⊎ T (member t.stmt labels))) ⊎ ((1 ≤ t.ref) × (t.ref ≤ given) × (t.stmt ≡ 0))
  pub no_parent : t.parent ≡ 0
  pub no_index : t.index ≡ 0

unfoldable pub unmarked : Step → Step
unmarked t = record { ref = t.ref; mark = 0; stmt = t.stmt; parent = t.parent; index = t.index }

-- how many marks there are after a step
unfoldable pub marks_after : ℕ → Step → ℕ
marks_after given t = pick (eqb t.mark 0) given (given + 1)
