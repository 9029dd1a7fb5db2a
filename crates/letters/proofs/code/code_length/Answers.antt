-- `code_length` meets its contract. The limit is the least number that has more leading letters than were counted, and v has no fewer.
-- The measure is how far the limit lies below v.
use Prim.Native.Nat.{◌/◌, ◌<◌}
use native.Mathlib.Omega.{arith}
use Rattle.letters.specs.Most.{most_letters}
use Rattle.letters.proofs.Codes.{code_length, most_none, most_next, leads_few, leads_many, code_most}
use Rattle.letters.proofs.code.code_length.Goals.{At-loop-limit}
use Rattle.letters.proofs.code.code_length.Goals as goal

-- the count stays below the most letters of a number of 32 bits
small : (p : At-loop-limit) → p.loop-limit.leading < most_letters
small p = let v = p.args.v in omega (arith, code_length v, code_most v (omega arith))

pub loop-limit-init : goal.loop-limit-init
loop-limit-init c = (omega (arith, most_none), omega arith)

pub overflow_add-leading : goal.overflow_add-leading
overflow_add-leading c = omega (arith, small c.before)

pub loop-limit-preserved : goal.loop-limit-preserved
loop-limit-preserved c =
    let p = c.loop-limit in
    (omega (arith, most_next p.leading), omega (arith, leads_many p.leading (c.args.v / 20) (omega arith)))

pub overflow_add-result : goal.overflow_add-result
overflow_add-result c = omega (arith, small c.before)

pub returns : goal.returns
returns c =
    let v = c.args.v in
    omega (arith, code_length v, leads_few c.loop-limit.leading (v / 20) (omega arith))
