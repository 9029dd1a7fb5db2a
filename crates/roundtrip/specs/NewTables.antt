-- The new table: a table's statements with the words of a store. Its sections are the old ones and the store's words,
-- so that tests 2 to 4 are those of the old table, and tests 5 and 6 those of the store.
use Rattle.std.specs.Prelude.{◌≡◌}
use Prim.Native.Nat.{ℕ, ◌<◌}
use mathlib.Core.List.{List}
use Rattle.std.proofs.Math.ListN.{length}
use Rattle.defs.specs.Table.{statements, hyp_count}
use Rattle.roundtrip.specs.Stores.{Ent}

-- ---- the new table of a store

-- an entry of the statements' form: a statement, as many children as it has hypotheses
abbrev pub Fine : List ℕ → Ent → Type 0
Fine w k = (k.0 < statements w) × (length k.1 ≡ hyp_count w k.0)
