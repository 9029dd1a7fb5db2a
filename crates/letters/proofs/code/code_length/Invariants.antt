-- `code_length` meets its contract. The limit is the least number that has more leading letters than were counted, and v has no fewer.
-- The measure is how far the limit lies below v.
use mathlib.Core.Path.{◌≡◌}
use Prim.Native.Nat.{◌+◌, ◌*◌, ◌-◌, ◌/◌, ◌≤◌}
use Rattle.letters.proofs.Codes.{leads, most}
use Rattle.letters.proofs.code.code_length.Given as goal

abbrev pub invariant-loop-limit : goal.invariant-loop-limit
invariant-loop-limit l = (l.limit ≡ 20 * most l.leading + 20) × (l.leading ≤ leads (l.v / 20))

abbrev pub decreases-loop-limit : goal.decreases-loop-limit
decreases-loop-limit l = l.v + 1 - l.limit
