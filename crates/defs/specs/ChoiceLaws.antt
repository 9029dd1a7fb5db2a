-- `best` is the greatest total not over the room, and `choose` reaches it: document 01's `a set with the greatest total cost not over W − position`.
-- Of the sets that reach it, `choose` gives the one that document 01's tie rule asks for.
use Rattle.std.specs.Prelude.{◌≡◌, ℕ, ◌<◌, Bool, true, false, List, [], ◌∷◌}
use Rattle.laws.specs.Tools.{pick, sum_below, member}
use Rattle.laws.specs.Lists.{All}
use Rattle.defs.specs.Order.{choose}

-- the total cost of those of the first i items that `taken` takes
abbrev pub cost_taken : (ℕ → ℕ) → (ℕ → Bool) → ℕ → ℕ
cost_taken cost taken i = sum_below (λ j. pick (taken j) (cost j) 0) i

-- ---- the chosen set, ascending

-- each item is above those before it
abbrev pub Ascending : List ℕ → Type 0
Ascending [] = Unit
Ascending (x ∷ xs) = All (λ y. x < y) xs × Ascending xs

-- ---- the tie rule: among equals, going from the highest index down, leave an item out whenever the rest still reaches the greatest total

-- the chosen set as a test
abbrev pub in_choice : (ℕ → ℕ) → ℕ → ℕ → ℕ → Bool
in_choice cost i room j = member j (choose cost i room)

-- going from the highest of the first i items down, the first item on which two sets differ is taken by the one and left out by the other
pub record LeavesOut (taken chosen : ℕ → Bool) (i : ℕ) : Type 0 where
  pub item : ℕ
  pub item_below : item < i
  pub is_taken : taken item ≡ true
  pub left_out : chosen item ≡ false
  pub same_above : (j : ℕ) → item < j → j < i → taken j ≡ chosen j

-- two sets agree on the first i items
abbrev pub Agree : (taken chosen : ℕ → Bool) → ℕ → Type 0
Agree taken chosen i = (j : ℕ) → j < i → taken j ≡ chosen j
