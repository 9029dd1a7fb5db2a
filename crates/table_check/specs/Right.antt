-- What the tests of a line say, as facts: what the inner functions of the check require of each other.
-- Document 01's words for each stand beside the rules in module Check of crate defs.
use Rattle.std.specs.Prelude.{◌≡◌, ◌⊎◌, List, ℕ, ◌+◌, ◌*◌, ◌≤◌, ◌<◌, length}
use Rattle.laws.specs.Tools.{sum_below}
use Rattle.defs.specs.Table.{stmt_size, max_label_length, kind_in, label_start_in, label_length_in, hyp_start_in, hyp_count_in, entry_size, entry_stmt_in, child_start_in, child_count_in}

-- what the statements before k take of the label bytes and of the hypothesis references: no more than there is
pub record TakenBefore (ss : List ℕ) (h bytes k labels hyps : ℕ) : Type 0 where
  pub labels_sum : labels ≡ sum_below (label_length_in ss) k
  pub hyps_sum : hyps ≡ sum_below (hyp_count_in ss) k
  pub labels_most : labels ≤ bytes
  pub hyps_most : hyps ≤ h

-- the line of statement k
pub record StatementRight (ss : List ℕ) (h bytes k : ℕ) : Type 0 where
  pub kind_most : kind_in ss k ≤ 2
  pub label_start_lem : label_start_in ss k ≡ sum_below (label_length_in ss) k
  pub label_some : 1 ≤ label_length_in ss k
  pub label_most : label_length_in ss k ≤ max_label_length
  pub hyp_start_lem : hyp_start_in ss k ≡ sum_below (hyp_count_in ss) k
  pub hyp_none : (kind_in ss k ≡ 0) ⊎ (hyp_count_in ss k ≡ 0)
  pub label_inside : label_start_in ss k + label_length_in ss k ≤ bytes
  pub hyp_inside : hyp_start_in ss k + hyp_count_in ss k ≤ h

-- the lines of s statements, whose labels and hypotheses fill their places exactly
pub record StatementsRight (ss : List ℕ) (s h bytes : ℕ) : Type 0 where
  pub line : (k : ℕ) → k < s → StatementRight ss h bytes k
  pub labels_fill : sum_below (label_length_in ss) s ≡ bytes
  pub hyps_fill : sum_below (hyp_count_in ss) s ≡ h

-- the lists of s statements lie in the hypothesis references
pub record HypsRight (ss hs : List ℕ) (s : ℕ) : Type 0 where
  pub records : length ss ≡ stmt_size * s
  pub inside : (k : ℕ) → k < s → hyp_start_in ss k + hyp_count_in ss k ≤ length hs

-- what the entries before e take of the c child references: no more than there is
pub record ChildrenBefore (es : List ℕ) (c e taken : ℕ) : Type 0 where
  pub sum : taken ≡ sum_below (child_count_in es) e
  pub most : taken ≤ c

-- the line of entry e
pub record EntryRight (ss es : List ℕ) (s c e : ℕ) : Type 0 where
  pub stmt_below : entry_stmt_in es e < s
  pub start : child_start_in es e ≡ sum_below (child_count_in es) e
  pub as_many : child_count_in es e ≡ hyp_count_in ss (entry_stmt_in es e)
  pub inside : child_start_in es e + child_count_in es e ≤ c

-- the lines of n entries, whose children fill their place exactly
pub record EntriesRight (ss es : List ℕ) (s n c : ℕ) : Type 0 where
  pub line : (e : ℕ) → e < n → EntryRight ss es s c e
  pub fill : sum_below (child_count_in es) n ≡ c

-- the children of n entries lie in the child references
pub record ChildrenRight (es cs : List ℕ) (n : ℕ) : Type 0 where
  pub records : length es ≡ entry_size * n
  pub inside : (e : ℕ) → e < n → child_start_in es e + child_count_in es e ≤ length cs
