-- A record stands in its section whole: what its accessors require. Names of expressions, so that code is proved with no help.
use Rattle.std.specs.Prelude.{ℕ, ◌+◌, ◌*◌, ◌≤◌, List, length}
use Rattle.defs.specs.Table.{stmt_size, entry_size}

abbrev pub StatementIn : List ℕ → ℕ → Type 0
StatementIn ss k = stmt_size * k + stmt_size ≤ length ss

abbrev pub EntryIn : List ℕ → ℕ → Type 0
EntryIn es e = entry_size * e + entry_size ≤ length es
