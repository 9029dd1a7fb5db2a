-- `decimal_length` meets its contract. The digits of the rest and those counted are the digits of v and one more.
-- The measure is the rest.
use mathlib.Core.Path.{◌≡◌}
use Prim.Native.Nat.{◌+◌}
use lib.ListN.{length}
use Rattle.defs.specs.Names.{digits}
use Rattle.names.proofs.decimal.decimal_length.Given as goal

abbrev pub invariant-loop-rest : goal.invariant-loop-rest
invariant-loop-rest l = length (digits l.rest) + l.count ≡ length (digits l.v) + 1

abbrev pub decreases-loop-rest : goal.decreases-loop-rest
decreases-loop-rest l = l.rest
