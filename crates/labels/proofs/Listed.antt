-- The listed statements of a good table: they are statements, none stands twice, and with the theorem's floatings they are few.
-- All of it is counted: a listed statement is used, is not in the theorem's list, and is listed once.
use mathlib.Core.Path.{◌≡◌, refl}
use mathlib.Core.Bool.{false, not}
use mathlib.Core.List.{List}
use Prim.Native.Nat.{ℕ, ◌+◌, ◌≤◌, ◌<◌}
use native.Mathlib.Omega.{arith}
use lib.ListN.{length}
use lib.Dec.{eqb}
use Rattle.laws.specs.Tools.{keep, firsts, repeats}
use Rattle.laws.specs.Lists.{All, all_map, all_keep, all_image, all_append, all_get_d}
use Rattle.laws.specs.Counting.{firsts_all, repeated_no}
use Rattle.defs.specs.Table.{kind, kind_in, statements, entries, statement_words, mandatory}
use Rattle.defs.specs.Check.{table_refusal}
use Rattle.defs.specs.Checked.{statement_ok, theorem_below, sections}
use Rattle.defs.specs.Laws.{good}
use Rattle.defs.specs.Ranges.{StepFits}
use Rattle.defs.proofs.Ranges.{packed_steps_fit}
use Rattle.defs.specs.Steps.{Step, is_normal, normal_stmts}
use Rattle.defs.specs.Text.{packed_of}
use Rattle.defs.specs.Order.{used, listed, floatings}
use Rattle.listing.specs.Arrays.{others}
use Rattle.listing.specs.Kinds.{wanted}
use Rattle.listing.specs.Listing.{listing}
use Rattle.theorem.proofs.Goals.{theorem_ok, list_statements}
use Rattle.blocks.proofs.Few.{labels_few}

-- what the arrays hold is document 01's list
pub listing_is : (w : List ℕ) (ts : List Step) → listing (statement_words w) (mandatory w) ts ≡ listed w ts
unfolding listing listed wanted others used
listing_is w ts = refl

module _ (w b : List ℕ) (ok : table_refusal w b ≡ 0) where
  abbrev Below : ℕ → Type 0
  Below k = k < statements w

  -- the statements of the packed list's normal steps
  pub packed_below : All Below (normal_stmts (packed_of w false))
  packed_below =
      let steps = packed_of w false in
      all_image Below (λ (t : Step). t.stmt) (keep is_normal steps)
      (all_keep (λ (t : Step). Below t.stmt) is_normal steps (all_map (StepFits (statements w) (entries w)) _ (λ t f. f.stmt_below) steps (packed_steps_fit w b ok false)))

  used_below : All Below (used w (packed_of w false))
  unfolding used
  used_below = all_keep Below _ _ packed_below

  -- those listed
  pub listed_below : All Below (listed w (packed_of w false))
  unfolding listed
  listed_below =
      let first = firsts_all Below (used w (packed_of w false)) used_below in
      all_append Below (keep (λ k. not (eqb (kind w k) 0)) (firsts (used w (packed_of w false)))) (keep (λ k. eqb (kind w k) 0) (firsts (used w (packed_of w false))))
      (all_keep Below _ _ first) (all_keep Below _ _ first)

  -- those in the theorem's list
  pub theorem_list_below : All Below (mandatory w)
  theorem_list_below =
      all_get_d Below (mandatory w) (λ i l. omega (arith, (list_statements w (theorem_ok w b ok)).inside i l, (sections w (good w b ok).ok1).statements_long))

  pub theorem_list_once : repeats (mandatory w) ≡ false
  unfolding mandatory
  theorem_list_once = (statement_ok w b ok _ (theorem_below w b ok)).hyps_once

  -- with the floatings no more than there are statements
  pub few_listed : floatings w + length (listed w (packed_of w false)) ≤ statements w
  few_listed = labels_few w (packed_of w false) (statements w) (repeated_no (mandatory w) theorem_list_once) theorem_list_below used_below

-- the floating count of the theorem's list, as it is counted in the sections
pub floatings_are : (w ss list : List ℕ) (r : ℕ) → ss ≡ statement_words w → list ≡ mandatory w → r ≡ length (keep (λ k. eqb (kind_in ss k) 1) list) → r ≡ floatings w
unfolding floatings
floatings_are w ss list r e f h = rw (e, f) at h
