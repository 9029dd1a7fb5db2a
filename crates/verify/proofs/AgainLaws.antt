-- The verdict of `read_again` at each return, from what the replay gave.
-- Assumes nothing.
use mathlib.Core.Path.{◌≡◌, sym, ap, ◌∙◌}
use mathlib.Core.Logic.{◌≢◌}
use mathlib.Core.Bool.{Bool, true, false, not}
use borrow.Author.Tests.{not-true, not-false}
use lib.Dec.{eqb}
use lib.Pointwise.{pointwise}
use Rattle.laws.specs.Library.{pointwise_same}
use mathlib.Core.List.{List}
use Prim.Native.Nat.{ℕ}
use lib.ListN.{length, take}
use Rattle.laws.specs.Tools.{same}
use Rattle.laws.specs.Lists.{eqb_no, and_false}
use Rattle.defs.specs.Outcome.{answer_two}
use Rattle.defs.specs.Replay.{replay_outcome}
use Rattle.verify.specs.Gave.{gave, replay_same}
use Rattle.verify.specs.Verified.{unless, read_again}
use Rattle.verify.specs.declared.verdict.Stage.{Stage}
use Rattle.verify.specs.declared.verdict.Verdict.{Verdict}
use Rattle.verify.specs.declared.verdict.Verdict.TheVariants.{Agree, Refused, Differ}

-- what `!=` says of two slices
module _ (unequal : Bool) (xs ys : List ℕ) (is : unequal ≡ not (pointwise eqb xs ys)) where
  pub unlike : unequal ≡ true → same xs ys ≡ false
  unlike e = sym (pointwise_same xs ys) ∙ not-true _ (sym is ∙ e)

  pub alike : unequal ≡ false → same xs ys ≡ true
  alike e = sym (pointwise_same xs ys) ∙ not-false _ (sym is ∙ e)

-- only the lengths of the slices lent count
pub again_same : (stage : Stage) (w b steps built kids work work' entries entries' children children' : List ℕ)
    → length work' ≡ length work → length entries' ≡ length entries → length children' ≡ length children
    → read_again stage w b steps built kids work' entries' children' ≡ read_again stage w b steps built kids work entries children
unfolding read_again
again_same stage w b steps built kids work work' entries entries' children children' e₁ e₂ e₃ =
    rw (replay_same w b steps work work' entries entries' children children' e₁ e₂ e₃)

module _ (stage : Stage) (w b steps built kids work entries children entries' children' : List ℕ) (n first second : ℕ) (works : List (List ℕ))
    (answered : answer_two n first second works entries' children' ≡ replay_outcome w b steps work entries children) where
  is : gave (replay_outcome w b steps work entries children) ≡ record { number = n; first = take first entries'; second = take second children' }
  unfolding gave
  is = sym (ap gave answered)

  pub read_refused : (v : Verdict) → v ≡ Refused stage n → n ≢ 0 → v ≡ read_again stage w b steps built kids work entries children
  unfolding read_again unless
  read_refused v e bad = e ∙ rw (is, eqb_no n 0 bad)

  module _ (fine : n ≡ 0) where
    pub entries_differ : (v : Verdict) → v ≡ Differ stage → same (take first entries') built ≡ false → v ≡ read_again stage w b steps built kids work entries children
    unfolding read_again unless
    entries_differ v e other = e ∙ rw (is, fine, other)

    pub children_differ : (v : Verdict) → v ≡ Differ stage → same (take second children') kids ≡ false → v ≡ read_again stage w b steps built kids work entries children
    unfolding read_again unless
    children_differ v e other = e ∙ rw (is, fine, other, and_false (same (take first entries') built))

    pub read_agrees : (v : Verdict) → v ≡ Agree → same (take first entries') built ≡ true → same (take second children') kids ≡ true
        → v ≡ read_again stage w b steps built kids work entries children
    unfolding read_again unless
    read_agrees v e equal₁ equal₂ = e ∙ rw (is, fine, equal₁, equal₂)
