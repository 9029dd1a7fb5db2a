-- What the sections of a table that is not refused give the functions that are lent them: each record stands inside its section.
use Rattle.std.specs.Prelude.{◌≡◌, ◌⊎◌, ℕ, ◌+◌, ◌*◌, ◌≤◌, ◌<◌, List, length, get_or}
use Rattle.std.proofs.Common.{arith}
use Rattle.laws.specs.Lists.{part_at, all_below_lem, all_at}
use Rattle.defs.specs.Table.{word, max_statements, max_references, max_entries, max_child_refs, max_label_length, stmt_size, entry_size, statements, entries, statement_words, hyp_words, entry_words, child_words, kind_in, label_start_in, label_length_in, hyp_start_in, hyp_count_in, entry_stmt_in, child_start_in, child_count_in, children_in}
use Rattle.defs.specs.Check.{table_refusal}
use Rattle.defs.specs.Graph.{graph_in, graph_of}
use Rattle.defs.specs.Laws.{good, Falls}
use Rattle.defs.specs.Checked.{header, sections, statement_ok, reference_ok_lem, entry_ok, falls}

-- an entry section of n entries with its child section: children stand inside, below their parents
pub record EntriesOk (es cs : List ℕ) (n : ℕ) : Type 0 where
  pub long : length es ≡ entry_size * n
  pub few : n ≤ max_entries
  pub few_children : length cs ≤ max_child_refs
  pub inside : (e : ℕ) → e < n → child_start_in es e + child_count_in es e ≤ length cs
  pub below : (e i : ℕ) → e < n → i < child_count_in es e → word cs (child_start_in es e + i) < e

pub entries_ok : (w b : List ℕ) → table_refusal w b ≡ 0 → EntriesOk (entry_words w) (child_words w) (entries w)
unfolding Falls graph_of graph_in children_in
entries_ok w b ok =
    let h = header w (good w b ok).ok1 in
    let p = sections w (good w b ok).ok1 in
    record {
      long = p.entries_long;
      few = h.n_most;
      few_children = omega (arith, h.c_most, p.children_long);
      inside = λ e l. omega (arith, (entry_ok w b ok e l).inside, p.children_long);
      below = λ e i l m.
          let k = entry_ok w b ok e l in
          rw (part_at (child_start_in (entry_words w) e) (child_count_in (entry_words w) e) (child_words w) i 0 m)
          at (all_at (λ c. c < e) ((graph_of w).kids e) 0 (all_below_lem e ((graph_of w).kids e) (falls w b ok e l)) i (omega (arith, k.have_length)));
    }

-- child i of an entry, as the graph has it and as the section has it
pub child_at : (es cs : List ℕ) (e i : ℕ) → i < child_count_in es e → get_or ((graph_in es cs).kids e) i 0 ≡ word cs (child_start_in es e + i)
unfolding graph_in children_in
child_at es cs e i l = part_at (child_start_in es e) (child_count_in es e) cs i 0 l

-- a statement section of s statements with the label bytes: labels stand inside
pub record StatementsOk (ss b : List ℕ) (s : ℕ) : Type 0 where
  pub long : length ss ≡ stmt_size * s
  pub few : s ≤ max_statements
  pub label_some : (k : ℕ) → k < s → 1 ≤ label_length_in ss k
  pub label_most : (k : ℕ) → k < s → label_length_in ss k ≤ max_label_length
  pub label_inside : (k : ℕ) → k < s → label_start_in ss k + label_length_in ss k ≤ length b

pub statements_ok : (w b : List ℕ) → table_refusal w b ≡ 0 → StatementsOk (statement_words w) b (statements w)
statements_ok w b ok =
    record {
      long = (sections w (good w b ok).ok1).statements_long;
      few = (header w (good w b ok).ok1).s_most;
      label_some = λ k l. (statement_ok w b ok k l).label_some;
      label_most = λ k l. (statement_ok w b ok k l).label_most;
      label_inside = λ k l. (statement_ok w b ok k l).label_inside;
    }

-- a hypothesis section: the lists of the s statements stand inside, and hold statements
pub record HypsOk (ss hs : List ℕ) (s : ℕ) : Type 0 where
  pub few : length hs ≤ max_references
  pub inside : (k : ℕ) → k < s → hyp_start_in ss k + hyp_count_in ss k ≤ length hs
  pub below : (i : ℕ) → i < length hs → word hs i < s
  pub not_assertion : (i : ℕ) → i < length hs → (kind_in ss (word hs i) ≡ 1) ⊎ (kind_in ss (word hs i) ≡ 2)

pub hyps_ok : (w b : List ℕ) → table_refusal w b ≡ 0 → HypsOk (statement_words w) (hyp_words w) (statements w)
hyps_ok w b ok =
    let h = header w (good w b ok).ok1 in
    let p = sections w (good w b ok).ok1 in
    record {
      few = omega (arith, h.h_most, p.hyps_long);
      inside = λ k l. omega (arith, (statement_ok w b ok k l).hyp_inside, p.hyps_long);
      below = λ i l. (reference_ok_lem w b ok i (omega (arith, p.hyps_long))).below;
      not_assertion = λ i l. (reference_ok_lem w b ok i (omega (arith, p.hyps_long))).not_assertion;
    }

-- the statements of a good table's entries, and how many children each has
pub record EntryStatementsOk (ss es : List ℕ) (s n : ℕ) : Type 0 where
  pub stmt_below : (e : ℕ) → e < n → entry_stmt_in es e < s
  pub as_many : (e : ℕ) → e < n → child_count_in es e ≡ hyp_count_in ss (entry_stmt_in es e)

pub entry_statements_ok : (w b : List ℕ) → table_refusal w b ≡ 0 → EntryStatementsOk (statement_words w) (entry_words w) (statements w) (entries w)
entry_statements_ok w b ok =
    record { stmt_below = λ e l. (entry_ok w b ok e l).stmt_below; as_many = λ e l. (entry_ok w b ok e l).as_many }
