-- The sections that a walk is lent, and what they give as a graph.
use Rattle.std.specs.Prelude.{◌≡◌, List, ℕ, ◌/◌, ◌<◌, length, get_or}
use Rattle.std.proofs.Common.{arith}
use Rattle.laws.specs.Lists.{part_length, all_get_d, below_all}
use Rattle.defs.specs.Table.{max_statements, entries, entry_size, entry_words, child_words, entry_stmt_in, child_start_in, child_count_in, children_in}
use Rattle.defs.specs.Check.{table_refusal}
use Rattle.defs.specs.Graph.{graph_in}
use Rattle.defs.specs.Laws.{good, Falls}
use Rattle.defs.specs.Checked.{header, entry_ok}
use Rattle.defs.specs.Sections.{EntriesOk, entries_ok, child_at}

-- how many entries an entry section has
abbrev pub size : List ℕ → ℕ
size es = length es / entry_size

-- good entries, with the numbers of statements
pub record Entries (es cs : List ℕ) : Type 0 where
  pub ok : EntriesOk es cs (size es)
  pub statements_few : (e : ℕ) → e < size es → entry_stmt_in es e < max_statements

-- those of a table that is not refused
pub size_is : (es cs : List ℕ) (n : ℕ) → EntriesOk es cs n → size es ≡ n
size_is es cs n ok = omega (arith, ok.long)

pub entries_of : (w b : List ℕ) → table_refusal w b ≡ 0 → Entries (entry_words w) (child_words w)
entries_of w b ok =
    let e = entries_ok w b ok in
    let n = size_is (entry_words w) (child_words w) (entries w) e in
    record {
      ok = rw n e;
      statements_few = λ x l. omega (arith, (entry_ok w b ok x (omega (arith, n))).stmt_below, (header w (good w b ok).ok1).s_most);
    }

module _ (es cs : List ℕ) (n : ℕ) (ok : EntriesOk es cs n) where
  -- an entry has as many children as its record says
  pub kids_length : (e : ℕ) → e < n → length ((graph_in es cs).kids e) ≡ child_count_in es e
  unfolding graph_in children_in
  kids_length e l = part_length (child_start_in es e) (child_count_in es e) cs (ok.inside e l)

  -- they lie below it
  pub kid_below : (e i : ℕ) → e < n → i < length ((graph_in es cs).kids e) → get_or ((graph_in es cs).kids e) i 0 < e
  kid_below e i l m =
      let k : i < child_count_in es e = rw (kids_length e l) at m in
      rw (child_at es cs e i k) (ok.below e i l k)

  pub entries_fall : Falls (graph_in es cs) n
  unfolding Falls
  entries_fall e l = below_all e ((graph_in es cs).kids e) (all_get_d (λ c. c < e) ((graph_in es cs).kids e) (λ i m. kid_below e i l m))
