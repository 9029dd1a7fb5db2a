-- Hypothesis references: what one names, and the part of the section that a statement's list is.
-- Assumes nothing.
use Prim.Native.Nat.{ℕ, ◌+◌, ◌-◌, ◌≤◌, ◌<◌}
use mathlib.Core.Bool.{false, not}
use mathlib.Core.List.{List}
use mathlib.Core.Path.{◌≡◌, ap, ◌∙◌}
use native.Mathlib.Omega.{arith}
use borrow.Author.Tests.{lt-ltb, le-ltb}
use lib.Dec.{eqb}
use Rattle.laws.specs.Tools.{part}
use Rattle.defs.specs.Check.{reference_ok}
use Rattle.defs.specs.Table.{word, kind_in, hyp_start_in, hyp_count_in, hyps_in}
use Rattle.table.proofs.Lemmas.{between}

module _ (ss hs : List ℕ) (s i named : ℕ) (is : named ≡ word hs i) where
  pub out_of_range : s ≤ named → false ≡ reference_ok ss hs s i
  unfolding reference_ok
  out_of_range l = rw (le-ltb (word hs i) s (omega arith))

  pub of_kind : named < s → (kind : ℕ) → kind ≡ kind_in ss named → not (eqb kind 0) ≡ reference_ok ss hs s i
  unfolding reference_ok
  of_kind l kind e = rw (lt-ltb (word hs i) s (omega arith)) (ap (λ (k : ℕ). not (eqb k 0)) (e ∙ ap (kind_in ss) is))
