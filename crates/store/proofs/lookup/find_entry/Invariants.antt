-- `store::find_entry` meets its contract. The invariant: the first match among the entries still to come is the first of all.
-- Assumes nothing.
use mathlib.Core.Path.{◌≡◌}
use Prim.Native.Nat.{◌-◌}
use Rattle.laws.specs.Tools.{first_from}
use Rattle.defs.specs.Replay.{lookup}
use Rattle.store.specs.Store.{holding, is_entry}
use Rattle.store.proofs.lookup.find_entry.Given as goal

abbrev pub invariant-loop-e : goal.invariant-loop-e
invariant-loop-e l = first_from (is_entry l.built l.kids l.statement.0 l.wanted) l.e (l.n - l.e) ≡ lookup (holding l.built l.kids) l.statement.0 l.wanted
