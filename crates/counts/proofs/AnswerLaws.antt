-- The three endings of an operation that tests 1 to 7 and 15, and what parents and distances write.
-- Assumes nothing.
use mathlib.Core.Path.{◌≡◌, refl, sym, ◌∙◌}
use mathlib.Core.List.{List, [], ◌++◌}
use Prim.Native.Nat.{ℕ, zero, suc, ◌≤◌, ◌<◌}
use native.Mathlib.Omega.{arith}
use lib.ListN.{length, drop, replicate, length-set, length-replicate, length-map}
use borrow.Author.Tests.{lt-ltb, le-ltb}
use Rattle.std.specs.Prelude.{◌≢◌, Result, Ok, Err}
use Rattle.answers.specs.declared.refusals.Refusal.{Refusal}
use Rattle.answers.specs.Refused.{answer_number, refusal_number, refusal_some, passed, stopped, stopped_some}
use Rattle.laws.specs.Tools.{range}
use Rattle.laws.specs.Lists.{range_length}
use Rattle.defs.specs.Table.{entries, qed, entry_words, child_words}
use Rattle.defs.specs.Check.{first_of, table_refusal}
use Rattle.defs.specs.Graph.{Graph, graph_in, graph_of}
use Rattle.defs.specs.Counts.{unreached, descend, parents, distances, parents_of, distances_of}
use Rattle.defs.specs.DistanceLaws.{length_lower}
use Rattle.defs.specs.Laws.{good}
use Rattle.defs.specs.Checked.{HeaderOk, header, qed_below}
use Rattle.defs.specs.Outcome.{answer_one, is_early, one_output, counts_number}
use Rattle.defs.specs.OutcomeLaws.{table_refusal_most, else_refused, else_good, refused_early, one_early, one_late, one_done}
use Rattle.defs.specs.Sections.{EntriesOk, entries_ok}
use Rattle.counts.specs.Parents.{Within, times_each, filled, within, times_are_parents}

-- ---- endings

module _ (w b result out : List ℕ) (answer : Result Unit Refusal) (checked : answer_number answer ≡ table_refusal w b) where
  pub refused : (r : Refusal) → answer ≡ Err r → answer_one (refusal_number r) 0 [] out ≡ one_output (counts_number w b result out) result [] out
  unfolding counts_number
  refused r is =
      let number = stopped answer _ checked r is in
      let some : table_refusal w b ≢ 0 = stopped_some answer _ checked r is in
      let k : counts_number w b result out ≡ refusal_number r = else_refused (table_refusal w b) _ some ∙ sym number in
      rw k (sym (one_early (refusal_number r) result [] out (refusal_some r) (refused_early (refusal_number r) (refusal_some r) (rw number (table_refusal_most w b)))))

  module _ (fine : answer ≡ Ok tt) where
    pub no_room : length out < length result → answer_one 15 0 [] out ≡ one_output (counts_number w b result out) result [] out
    unfolding counts_number first_of is_early
    no_room h =
        let k : counts_number w b result out ≡ 15 = rw (else_good (table_refusal w b) _ (passed answer _ checked tt fine), lt-ltb (length out) (length result) h) in
        rw k (sym (one_late 15 result [] out (λ e. omega arith) refl))

    pub done : (len : ℕ) (out' : List ℕ) → len ≤ length out → len ≡ length result → out' ≡ result ++ drop len out
        → answer_one 0 len [] out' ≡ one_output (counts_number w b result out) result [] out
    unfolding counts_number first_of
    done len out' l is wrote =
        let k : counts_number w b result out ≡ 0 = rw (else_good (table_refusal w b) _ (passed answer _ checked tt fine), le-ltb (length out) (length result) (omega arith)) in
        rw (wrote, is) (sym (one_done (counts_number w b result out) result [] out k))

-- ---- a good table

module _ (w b : List ℕ) (answer : Result Unit Refusal) (checked : answer_number answer ≡ table_refusal w b) (fine : answer ≡ Ok tt) where
  ok : table_refusal w b ≡ 0
  ok = passed answer _ checked tt fine

  pub right_header : HeaderOk w
  right_header = header w (good w b ok).ok1

  pub right_references : (cs : List ℕ) (n : ℕ) → cs ≡ child_words w → n ≡ entries w → Within cs n
  right_references cs n e f =
      rw (e, f) (within (entry_words w) (child_words w) (entries w) (entries_ok w b ok) (filled w b ok))

  pub right_parents : (cs : List ℕ) (n : ℕ) → cs ≡ child_words w → n ≡ entries w → times_each cs n ≡ parents_of w
  unfolding parents_of graph_of
  right_parents cs n e f =
      rw (e, f) (times_are_parents (entry_words w) (child_words w) (entries w) (entries_ok w b ok) (filled w b ok))

  pub right_entries : (es cs : List ℕ) (n : ℕ) → es ≡ entry_words w → cs ≡ child_words w → n ≡ entries w → EntriesOk es cs n
  right_entries es cs n e f g = rw (e, f, g) (entries_ok w b ok)

  pub right_distances : (es cs : List ℕ) (n q : ℕ) → es ≡ entry_words w → cs ≡ child_words w → n ≡ entries w → q ≡ qed w
      → distances (graph_in es cs) n q ≡ distances_of w
  unfolding distances_of graph_of
  right_distances es cs n q e f g h = rw (e, f, g, h)

  pub right_qed : (q n : ℕ) → q ≡ qed w → n ≡ entries w → q < n
  right_qed q n e f = rw (e, f) (qed_below w b ok)

-- ---- as many as entries

pub parents_length : (w : List ℕ) → length (parents_of w) ≡ entries w
unfolding parents_of parents
parents_length w = length-map (range 0 (entries w)) _ ∙ range_length 0 (entries w)

descend_length : (g : Graph) (e : ℕ) (ds : List ℕ) → length (descend g e ds) ≡ length ds
unfolding descend
descend_length g zero ds = refl
descend_length g (suc e) ds = descend_length g e _ ∙ length_lower _ (g.kids e) ds

pub distances_length : (w : List ℕ) → length (distances_of w) ≡ entries w
unfolding distances_of distances
distances_length w =
    descend_length (graph_of w) (entries w) _ ∙ length-set (replicate (entries w) unreached) (qed w) 0 ∙ length-replicate (entries w) unreached
