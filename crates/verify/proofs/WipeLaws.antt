-- Ten slices are zero as a whole where each is, and what zero is depends on the length alone.
-- Assumes nothing.
use mathlib.Core.Path.{◌≡◌}
use lib.ListN.{length}
use Rattle.laws.specs.Tools.{zeroed}
use Rattle.verify.specs.Verified.{Lent}
use Rattle.verify.specs.Verification.{wiped}

pub all_wiped : (m m' : Lent)
    → m'.work ≡ zeroed m.work → m'.sums ≡ zeroed m.sums → m'.packed ≡ zeroed m.packed → m'.steps ≡ zeroed m.steps → m'.list ≡ zeroed m.list
    → m'.letters ≡ zeroed m.letters → m'.built ≡ zeroed m.built → m'.kids ≡ zeroed m.kids → m'.entries ≡ zeroed m.entries → m'.children ≡ zeroed m.children
    → m' ≡ wiped m
unfolding wiped
all_wiped m m' e₀ e₁ e₂ e₃ e₄ e₅ e₆ e₇ e₈ e₉ = rw (e₀, e₁, e₂, e₃, e₄, e₅, e₆, e₇, e₈, e₉)

pub wiped_same : (m m' : Lent)
    → length m'.work ≡ length m.work → length m'.sums ≡ length m.sums → length m'.packed ≡ length m.packed → length m'.steps ≡ length m.steps
    → length m'.list ≡ length m.list
    → length m'.letters ≡ length m.letters → length m'.built ≡ length m.built → length m'.kids ≡ length m.kids → length m'.entries ≡ length m.entries → length m'.children ≡ length m.children
    → wiped m' ≡ wiped m
unfolding wiped
wiped_same m m' e₀ e₁ e₂ e₃ e₄ e₅ e₆ e₇ e₈ e₉ = rw (e₀, e₁, e₂, e₃, e₄, e₅, e₆, e₇, e₈, e₉)
