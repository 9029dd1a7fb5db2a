-- `put_code` meets its contract. A number below 20 is one letter; the end of any other is counted first,
-- and its letters are put in front of that end where it lies in the slice.
use native.Mathlib.Omega.{arith}
use Rattle.letters.proofs.Codes.{code_one, code_most}
use Rattle.letters.proofs.code.put_code.Goals as goal

pub returns-then-v-lt20 : goal.returns-then-v-lt20
returns-then-v-lt20 c = rw (code_one c.args.v (omega arith)) at c.put_letter.ensures

pub overflow_add-end : goal.overflow_add-end
overflow_add-end c = omega (arith, code_most c.args.v (omega arith))
