-- `put_before` meets its contract. The last digits of v stand from `at` on, and the digits of q are still to come.
-- The measure is q.
use mathlib.Core.Path.{◌∙◌}
use native.Mathlib.Omega.{arith}
use lib.ListN.{length-set}
use Rattle.names.proofs.Turns.{room, put_more, put_all}
use Rattle.names.proofs.decimal.put_before.Goals as goal

pub overflow_sub-at : goal.overflow_sub-at
overflow_sub-at c = room c.loop-q.invariant.1 c.requires.0

pub bounds-out-at : goal.bounds-out-at
bounds-out-at c = omega (arith, c.loop-q.invariant.1.stand.ends, overflow_sub-at c)

pub loop-q-preserved : goal.loop-q-preserved
loop-q-preserved c =
    let p = c.loop-q in
    (length-set p.out _ _ ∙ p.invariant.0, put_more p.invariant.1 (omega arith) (overflow_sub-at c) c.requires.1)

pub overflow_sub-at-2 : goal.overflow_sub-at-2
overflow_sub-at-2 c = room c.loop-q.invariant.1 c.requires.0

pub bounds-out-at-2 : goal.bounds-out-at-2
bounds-out-at-2 c = omega (arith, c.loop-q.invariant.1.stand.ends, overflow_sub-at-2 c)

pub returns : goal.returns
returns c = put_all c.loop-q.invariant.1 (omega arith) (overflow_sub-at-2 c) c.requires.1
