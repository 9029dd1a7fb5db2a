-- The two regions of the working slice after an entry was pushed.
use Rattle.std.specs.Prelude.{◌≡◌, List, [], ◌∷◌, ◌++◌, ℕ, ◌+◌, ◌≤◌, take, drop, eqb}
use Rattle.laws.specs.Tools.{pick}

pub record Pushed (half from marks e mark : ℕ) (work work' : List ℕ) (r : ℕ) : Type 0 where
  pub stack_is : take (from + 1) work' ≡ take from work ++ e ∷ []
  pub named_is : take r (drop half work') ≡ pick (eqb mark 0) (take marks (drop half work)) (take marks (drop half work) ++ e ∷ [])
  pub few : r ≤ marks + 1
