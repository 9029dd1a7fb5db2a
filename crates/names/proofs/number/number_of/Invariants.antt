-- `number_of` meets its contract. What is kept is the number of the bytes read so far, capped.
-- A turn is one digit more.
use mathlib.Core.Path.{◌≡◌}
use lib.ListN.{take}
use Rattle.defs.specs.NameLaws.{value}
use Rattle.names.specs.Decimals.{capped}
use Rattle.names.proofs.number.number_of.Given as goal

abbrev pub invariant-loop-byte : goal.invariant-loop-byte
invariant-loop-byte l = l.number ≡ capped (value 0 (take l.byte-index l.bytes))
