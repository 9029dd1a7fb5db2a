-- How often each entry stands in a child section, and why that is its parents: the child lists of all entries, one after another, fill the section.
use Rattle.std.specs.Prelude.{◌≡◌, get_or, take}
use Rattle.std.proofs.Math.Path.{refl, ap, ap₂, fun_ext}
use Rattle.std.proofs.Common.{sym, ◌∙◌, le_refl, arith, take-add}
use mathlib.Core.List.{List, map}
use Prim.Native.Nat.{ℕ, zero, suc, ◌+◌, ◌≤◌, ◌<◌}
use Rattle.std.proofs.Math.ListN.{length}
use Rattle.std.proofs.lemmas.List.{length-map}
use Rattle.std.proofs.Math.Seq.{take-length}
use Rattle.laws.specs.Tools.{count, range, sum_below, part}
use Rattle.laws.specs.Sums.{count_append}
use Rattle.laws.specs.Lists.{All, all_get_d, all_at, all_append, get_d_map, part_at, part_length, range_length, range_at}
use Rattle.defs.specs.Table.{word, max_child_refs, entries, entry_words, child_words, child_start_in, child_count_in, children_in}
use Rattle.defs.specs.Check.{table_refusal}
use Rattle.defs.specs.Graph.{graph_in}
use Rattle.defs.specs.Counts.{parent_count, parents}
use Rattle.defs.specs.Laws.{good}
use Rattle.defs.specs.Checked.{sections, entry_ok, children_sum}
use Rattle.defs.specs.Sections.{EntriesOk}

-- ---- how often each of n entries stands in a list of references

unfoldable pub times_each : (cs : List ℕ) (n : ℕ) → List ℕ
times_each cs n = map (λ e. count e cs) (range 0 n)

pub times_length : (cs : List ℕ) (n : ℕ) → length (times_each cs n) ≡ n
unfolding times_each
times_length cs n = length-map (range 0 n) (λ e. count e cs) ∙ range_length 0 n

pub times_at : (cs : List ℕ) (n e : ℕ) → e < n → get_or (times_each cs n) e 0 ≡ count e cs
unfolding times_each
times_at cs n e h =
    get_d_map (λ x. count x cs) (range 0 n) e (rw (range_length 0 n) h) ∙ ap (λ (x : ℕ). count x cs) (range_at 0 n e 0 h ∙ omega arith)

-- ---- the references of a table's child section

-- each names one of n entries
pub record Within (cs : List ℕ) (n : ℕ) : Type 0 where
  pub few : length cs ≤ max_child_refs
  pub below : (i : ℕ) → i < length cs → word cs i < n

-- the child lists of n entries stand one after another, and fill the section
pub record Filled (es cs : List ℕ) (n : ℕ) : Type 0 where
  pub start : (e : ℕ) → e < n → child_start_in es e ≡ sum_below (child_count_in es) e
  pub full : sum_below (child_count_in es) n ≡ length cs

pub filled : (w b : List ℕ) → table_refusal w b ≡ 0 → Filled (entry_words w) (child_words w) (entries w)
filled w b ok =
    record {
      start = λ e l. (entry_ok w b ok e l).start;
      full = children_sum w b ok ∙ sym (sections w (good w b ok).ok1).children_long;
    }

module _ (es cs : List ℕ) (n : ℕ) (ok : EntriesOk es cs n) (f : Filled es cs n) where
  -- so a reference is some entry's child, and lies below that entry
  front_below : (k : ℕ) → k ≤ n → All (λ c. c < n) (take (sum_below (child_count_in es) k) cs)
  unfolding sum_below
  front_below zero l = tt
  front_below (suc k) l =
      let from : ℕ = sum_below (child_count_in es) k in
      let len : ℕ = child_count_in es k in
      let start : child_start_in es k ≡ from = f.start k l in
      let inside : from + len ≤ length cs = omega (arith, ok.inside k l) in
      let long : length (part from len cs) ≡ len = part_length from len cs inside in
      rw (take-add from len cs)
      (all_append (λ c. c < n) (take from cs) (part from len cs) (front_below k (omega arith))
      (all_get_d (λ c. c < n) (part from len cs)
      (λ i m. let j : i < len = rw long at m in
      rw (part_at from len cs i 0 j) (omega (arith, rw start at (ok.below k i l j))))))

  pub within : Within cs n
  within =
      record {
        few = ok.few_children;
        below = all_at (λ c. c < n) cs 0 (rw (f.full, take-length cs) at (front_below n (le_refl n)));
      }

  -- and the parents of an entry are its references in the whole section
  front_counts : (e k : ℕ) → k ≤ n → count e (take (sum_below (child_count_in es) k) cs) ≡ sum_below (λ p. count e (children_in es cs p)) k
  unfolding sum_below children_in
  front_counts e zero l = refl
  front_counts e (suc k) l =
      let from : ℕ = sum_below (child_count_in es) k in
      let len : ℕ = child_count_in es k in
      rw (take-add from len cs)
      (count_append e (take from cs) (part from len cs)
      ∙ ap₂ (λ (a b : ℕ). a + b) (front_counts e k (omega arith)) (ap (λ (s : ℕ). count e (part s len cs)) (sym (f.start k l))))

  pub times_are_parents : times_each cs n ≡ parents (graph_in es cs) n
  unfolding times_each parents parent_count graph_in
  times_are_parents =
      ap (λ (f : ℕ → ℕ). map f (range 0 n))
      (fun_ext (λ e. ap (count e) (sym (take-length cs)) ∙ ap (λ (k : ℕ). count e (take k cs)) (sym f.full) ∙ front_counts e n (le_refl n)))
