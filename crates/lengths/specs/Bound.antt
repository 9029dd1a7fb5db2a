-- How much room the packed walk needs, for its steps and its marks: at every moment of it, and at its end over a good table.
use Rattle.std.specs.Prelude.{◌≡◌, ℕ, suc, ◌≤◌, Bool, replicate}
use mathlib.Core.List.{List, [], ◌++◌}
use Rattle.std.proofs.Math.ListN.{length}
use Rattle.defs.specs.Table.{entries, qed}
use Rattle.defs.specs.Graph.{graph_of}
use Rattle.defs.specs.Counts.{parents}
use Rattle.defs.specs.Steps.{Step, Walk, visit}

-- ---- a walk only adds

-- from s to t: steps are put at the end, marks are given, and there is a place for a mark where there was one
pub record Grown (s t : Walk) : Type 0 where
  pub steps : List Step
  pub added : t.out ≡ s.out ++ steps
  pub given_more : s.given ≤ t.given
  pub same_places : length t.marks ≡ length s.marks

-- ---- the packed walk of a good table

-- from no marks and no steps to its end
abbrev pub packed_walk : List ℕ → Bool → Walk
packed_walk w explicit =
    visit (graph_of w) (parents (graph_of w) (entries w)) explicit (suc (qed w)) (qed w) 0 0 (record { marks = replicate (entries w) 0; given = 0; out = [] })
