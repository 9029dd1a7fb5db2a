-- The parent hypothesis of a step as the two words of an explicit list.
use Rattle.std.specs.Prelude.{ℕ, ◌+◌}
use Rattle.walk.specs.declared.hyps.ParentHyp.{ParentHyp}
use Rattle.walk.specs.declared.hyps.ParentHyp.TheVariants.{Root, Of}

-- parent statement plus 1, hypothesis index; both 0 at the root
unfoldable pub parent_of : ParentHyp → ℕ
parent_of Root = 0
parent_of (Of statement index) = statement.0 + 1

unfoldable pub index_of : ParentHyp → ℕ
index_of Root = 0
index_of (Of statement index) = index
