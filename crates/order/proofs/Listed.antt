-- The packed list and what is listed of it, in the working slice.
-- All the room asked for is that of the words of document 01, since a packed list has at most one step more than there are child references.
use mathlib.Core.Path.{◌≡◌, sym, ◌∙◌}
use mathlib.Core.Logic.{inl}
use mathlib.Core.Bool.{false}
use mathlib.Core.List.{List}
use Prim.Native.Nat.{ℕ, ◌+◌, ◌-◌, ◌*◌, ◌/◌, ◌≤◌}
use native.Mathlib.Omega.{arith}
use lib.ListN.{length}
use Rattle.laws.specs.Tools.{part}
use Rattle.defs.specs.Table.{statements, entries, child_refs, statement_words, mandatory}
use Rattle.defs.specs.Check.{table_refusal}
use Rattle.defs.specs.Checked.{header, sections}
use Rattle.defs.specs.Laws.{good, flat_length}
use Rattle.defs.specs.Steps.{step_size, flat}
use Rattle.defs.specs.Text.{packed_of}
use Rattle.defs.specs.Refusals.{need32}
use Rattle.defs.specs.Outcome.{step_list_words}
use Rattle.lengths.proofs.Bound.{packed_most}
use Rattle.walk.specs.Packed.{held}
use Rattle.lists.proofs.ListLaws.{Stored}
use Rattle.listing.specs.Listing.{AllReady, Listed}
use Rattle.theorem.proofs.Goals.{theorem_ok, list_short}
use Rattle.labels.proofs.Listed.{packed_below, theorem_list_below, theorem_list_once}
use Rattle.order.specs.Arrangement.{ListedIn}
use Rattle.order.proofs.Parts.{part_kept}

module _ (w b : List ℕ) (ok : table_refusal w b ≡ 0) where
  abbrev steps_long : ℕ
  steps_long = step_size * length (packed_of w false)

  pub few_steps : length (packed_of w false) ≤ child_refs w + 1
  few_steps = packed_most w b ok false

  -- the list that the walk left, from `start` to `end`
  module _ (start end : ℕ) (ws : List ℕ) (start_is : start ≡ entries w + 1) (stored : Stored w false start (held ws end)) where
    pub list_ends : end ≡ entries w + 1 + steps_long
    unfolding step_list_words
    list_ends = omega (arith, start_is, stored.begins, stored.long, flat_length (packed_of w false))

    pub steps_are : (end - start) / step_size ≡ length (packed_of w false)
    steps_are = omega (arith, list_ends, start_is)

    pub holds : part start (step_size * length (packed_of w false)) ws ≡ flat (packed_of w false)
    unfolding step_list_words
    holds = let long : end - start ≡ steps_long = omega (arith, list_ends, start_is) in rw long at stored.front

    -- so that its statements can be listed behind it
    module _ (ss thm : List ℕ) (s many : ℕ) (ss-is : ss ≡ statement_words w) (thm-is : thm ≡ mandatory w) (s-is : s ≡ statements w) (many_is : many ≡ length (packed_of w false)) where
      pub can_list : need32 w ≤ length ws → AllReady ss thm start many end s ws
      unfolding need32
      can_list enough =
          let h = header w (good w b ok).ok1 in
          record {
            room = omega (arith, list_ends, few_steps, s-is);
            small = omega (arith, s-is, h.s_most);
            long = rw (ss-is, s-is) (sections w (good w b ok).ok1).statements_long;
            apart = omega (arith, list_ends, start_is, many_is);
            few = omega (arith, few_steps, many_is, h.c_most);
            thm_inside = rw (thm-is, s-is) (theorem_list_below w b ok);
            thm_once = rw thm-is (theorem_list_once w b ok);
            thm_few = rw thm-is (list_short w (theorem_ok w b ok));
            ts = packed_of w false;
            as_many = many_is;
            holds = rw many_is holds;
            below = rw s-is (packed_below w b ok);
          }

      pub now_listed : (count : ℕ) (ws' : List ℕ) → length ws' ≡ length ws → end ≤ length ws → Listed ss thm start many end s count ws ws' → ListedIn w (record { end = end; count = count }) ws'
      unfolding Listed
      now_listed count ws' long inside l =
          record {
            end_is = list_ends;
            steps = kept;
            arrays = rw (ss-is, thm-is, s-is) at (l.0 (packed_of w false) many_is (rw many_is holds));
          }
        where
          kept : part (entries w + 1) steps_long ws' ≡ flat (packed_of w false)
          kept =
              rw (← start_is)
              (sym (part_kept start steps_long ws (omega (arith, list_ends, start_is)) ws' long (λ j low high. l.1 j (inl (omega (arith, list_ends, start_is))))) ∙ holds)
