-- What was read back stands inside its slices and the table is not refused: so it can be written as a new table.
-- The slices are as long as the limits of entries and children.
use mathlib.Core.Path.{◌≡◌}
use mathlib.Core.List.{List}
use Prim.Native.Nat.{ℕ, ◌≤◌}
use native.Mathlib.Omega.{arith}
use lib.ListN.{length, take}
use Rattle.std.specs.Prelude.{Result, Ok, Err, IfOk}
use Rattle.answers.specs.declared.refusals.Refusal.{Refusal}
use Rattle.answers.specs.declared.written.Lengths.{Lengths}
use Rattle.io.specs.Counts.{IsPrefixLen}
use Rattle.defs.specs.Check.{table_refusal}
use Rattle.table.specs.Headers.{header_ok}
use Rattle.new_table.specs.NewTables.{most_entry_words, most_child_words, Renewable}

pub renewable : (w b entries children : List ℕ) (answer : Result Lengths Refusal) → table_refusal w b ≡ 0
    → length entries ≤ most_entry_words → length children ≤ most_child_words
    → IfOk answer (λ lengths. IsPrefixLen lengths.first entries) → IfOk answer (λ lengths. IsPrefixLen lengths.second children)
    → IfOk answer (λ lengths. Renewable w (take lengths.first entries) (take lengths.second children))
renewable w b entries children (Ok lengths) ok e c p q =
    record { header = header_ok w b ok; few = omega (arith, p.0, p.1); few_children = omega (arith, q.0, q.1) }
renewable w b entries children (Err _) ok e c p q = record {}
