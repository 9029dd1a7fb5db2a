-- The walks of a table that is not refused: its sections are what they ask for, and give its lists.
use Rattle.std.specs.Prelude.{◌≡◌, Bool, List, ℕ, ◌+◌, ◌*◌, ◌≤◌, ◌<◌}
use Rattle.std.proofs.Math.Path.{refl, ap}
use Rattle.std.proofs.Common.{arith}
use Rattle.std.proofs.Math.ListN.{length}
use Rattle.defs.specs.Table.{entries, child_refs, qed, entry_words, child_words}
use Rattle.defs.specs.Check.{table_refusal}
use Rattle.defs.specs.Graph.{graph_in, graph_of}
use Rattle.defs.specs.Steps.{step_size, packed_steps, normal_steps}
use Rattle.defs.specs.Text.{packed_of, normal_of}
use Rattle.defs.specs.Laws.{good}
use Rattle.defs.specs.Checked.{sections, qed_below}
use Rattle.defs.specs.Sections.{entries_ok}
use Rattle.lengths.proofs.Bound.{packed_walk_lem, packed_most, marks_most}
use Rattle.counts.specs.Parents.{filled}
use Rattle.walk.specs.Entries.{size, size_is, entries_of}
use Rattle.walk.specs.Packed.{steps_from, Packable}

module _ (w b : List ℕ) (ok : table_refusal w b ≡ 0) where
  -- its entry section has as many entries as the header says
  pub entries_size : size (entry_words w) ≡ entries w
  entries_size = size_is (entry_words w) (child_words w) (entries w) (entries_ok w b ok)

  pub children_size : length (child_words w) ≡ child_refs w
  children_size = (sections w (good w b ok).ok1).children_long

  pub qed_inside : qed w < size (entry_words w)
  qed_inside = rw entries_size (qed_below w b ok)

  -- its packed list has room in enough words
  pub packable : (explicit : Bool) (room : ℕ) → steps_from (entries w) + step_size * (child_refs w + 1) ≤ room → Packable (entry_words w) (child_words w) explicit (qed w) room
  unfolding graph_of
  packable explicit room long =
      record {
        packing = record { entries = entries_of w b ok; filled = rw entries_size (filled w b ok) };
        inside = qed_inside;
        long = rw (entries_size, children_size) long;
        fits = rw entries_size (record {
          few_steps = omega (arith, ap length (packed_walk_lem w explicit), packed_most w b ok explicit, children_size);
          few_marks = rw entries_size (marks_most w b ok explicit);
        });
      }

  -- the lists from its sections are its lists
  pub packed_says : (explicit : Bool) → packed_steps (graph_in (entry_words w) (child_words w)) (size (entry_words w)) (qed w) explicit ≡ packed_of w explicit
  unfolding packed_of graph_of
  packed_says explicit = rw entries_size

  pub normal_says : (explicit : Bool) → normal_steps (graph_in (entry_words w) (child_words w)) (qed w) explicit ≡ normal_of w explicit
  unfolding normal_of graph_of
  normal_says explicit = refl
