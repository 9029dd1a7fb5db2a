-- Weights and names written one by one: what the words hold after the first i of them.
-- What is read stands before what is written, or is written in the turn that reads it.
use mathlib.Core.Path.{◌≡◌}
use mathlib.Core.List.{List}
use Prim.Native.Nat.{ℕ, ◌+◌, ◌*◌, ◌<◌}
use Rattle.defs.specs.Table.{word, label_length_in}
use Rattle.listing.specs.Arrays.{OnlyIn}

pub record WeighedTo (ss : List ℕ) (at many uses to i : ℕ) (ws₀ ws : List ℕ) : Type 0 where
  pub costs : (j : ℕ) → j < i → word ws (to + j) ≡ label_length_in ss (word ws₀ (at + j)) + 1
  pub counts : (j : ℕ) → j < i → word ws (to + many + j) ≡ word ws₀ (uses + word ws₀ (at + j))
  pub only : OnlyIn to (to + 2 * many) ws₀ ws

pub record NamedTo (at order many i : ℕ) (ws₀ ws : List ℕ) : Type 0 where
  pub named : (j : ℕ) → j < i → word ws (order + j) ≡ word ws₀ (at + word ws₀ (order + j))
  pub only : OnlyIn order (order + i) ws₀ ws
