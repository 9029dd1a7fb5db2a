-- The hypothesis that a step stands for: by the enum that the code takes apart, and by the two words that the definition reads.
-- A step of the root has parent word 0; any other has its parent's number plus 1.
use mathlib.Core.Path.{◌≡◌, sym}
use mathlib.Core.List.{List}
use Prim.Native.Nat.{ℕ, ◌+◌, ◌-◌, ◌<◌}
use native.Mathlib.Omega.{arith}
use lib.ListN.{length}
use Rattle.laws.specs.Lists.{eqb_yes, eqb_no}
use Rattle.defs.specs.Table.{word, hyp_start_in}
use Rattle.table.specs.Records.{StatementIn}
use Rattle.walk.specs.Hyps.{parent_of, index_of}
use Rattle.table.specs.declared.numbers.StatementNo.{StatementNo}
use Rattle.walk.specs.declared.hyps.ParentHyp.{ParentHyp}
use Rattle.walk.specs.declared.hyps.ParentHyp.TheVariants.{Root, Of}
use Rattle.walk.proofs.StepLaws.{at_root, of_parent}
use Rattle.words.specs.Spelled.{hyp_statement, HypReady}

module _ (ss hs : List ℕ) (theorem : ℕ) (hyp : ParentHyp) where
  pub root_statement : hyp ≡ Root → theorem ≡ hyp_statement ss hs theorem (parent_of hyp) (index_of hyp)
  unfolding hyp_statement
  root_statement e = rw (eqb_yes (parent_of hyp) 0 (sym (at_root hyp e).0))

  module _ (p : StatementNo) (i : ℕ) (e : hyp ≡ Of p i) where
    parent_is : parent_of hyp - 1 ≡ p.0
    parent_is = omega (arith, (of_parent hyp p i e).0)

    pub of_statement : word hs (hyp_start_in ss p.0 + i) ≡ hyp_statement ss hs theorem (parent_of hyp) (index_of hyp)
    unfolding hyp_statement
    of_statement = rw (eqb_no (parent_of hyp) 0 (λ z. omega (arith, (of_parent hyp p i e).0)), parent_is, ← (of_parent hyp p i e).1)

    module _ (r : HypReady ss hs theorem (parent_of hyp) (index_of hyp)) where
      pub parent_stands : StatementIn ss p.0
      parent_stands = rw parent_is at (r.parent_in (λ z. omega (arith, (of_parent hyp p i e).0)))

      pub list_stands : hyp_start_in ss p.0 + i < length hs
      list_stands = rw (parent_is, ← (of_parent hyp p i e).1) at (r.index_in (λ z. omega (arith, (of_parent hyp p i e).0)))
