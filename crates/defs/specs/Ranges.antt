-- Ranges of what is written: step words, parents and distances fit their words, letters are bytes.
use Prim.Native.Nat.{ℕ, ◌≤◌, ◌<◌}
use Rattle.defs.specs.Table.{max_child_refs}
use Rattle.defs.specs.Steps.{Step}

-- ---- steps

-- the words of a step of a table with s statements, where m marks are given
pub record StepFits (s m : ℕ) (t : Step) : Type 0 where
  pub ref_most : t.ref ≤ m
  pub mark_most : t.mark ≤ m
  pub stmt_below : t.stmt < s
  pub parent_most : t.parent ≤ s
  pub index_most : t.index ≤ max_child_refs

-- ---- letters: capital letters

-- `A` to `Z`
abbrev pub Letter : ℕ → Type 0
Letter x = (65 ≤ x) × (x ≤ 90)
