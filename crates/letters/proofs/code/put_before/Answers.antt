-- `put_before` meets its contract. The last letters of v stand from `at` on, and the leading letters of q are still to come.
-- The measure is q.
use mathlib.Core.Path.{◌≡◌, refl, ◌∙◌}
use native.Mathlib.Omega.{arith}
use lib.ListN.{length, length-set}
use Rattle.letters.proofs.Codes.{code_length}
use Rattle.letters.proofs.Turns.{begin, room, put_more, put_all}
use Rattle.letters.proofs.code.put_before.Goals.{At-loop-q}
use Rattle.letters.proofs.code.put_before.Goals as goal

-- the slice keeps its length
kept : (p : At-loop-q) → length p.loop-q.out ≡ length p.args.out.now
kept p = simp length-set at p.loop-q.invariant.0

pub overflow_sub-at : goal.overflow_sub-at
overflow_sub-at c = omega (arith, code_length c.args.v)

pub bounds-out-at : goal.bounds-out-at
bounds-out-at c = omega (arith, code_length c.args.v)

pub loop-q-init : goal.loop-q-init
loop-q-init c = (refl, begin c.args.v c.args.end c.args.out.now (omega (arith, code_length c.args.v)) c.requires.1)

pub overflow_sub-at-in-loop-q : goal.overflow_sub-at-in-loop-q
overflow_sub-at-in-loop-q c = room c.loop-q.invariant.1 c.loop-q-test.true c.requires.0

pub bounds-out-at-in-loop-q : goal.bounds-out-at-in-loop-q
bounds-out-at-in-loop-q c =
    let l : length c.loop-q.out ≡ length c.args.out.now = kept c.before in
    omega (arith, c.loop-q.invariant.1.stand.ends, overflow_sub-at-in-loop-q c)

pub loop-q-preserved : goal.loop-q-preserved
loop-q-preserved c =
    let p = c.loop-q in
    (length-set p.out _ _ ∙ p.invariant.0, put_more p.at p.invariant.1 c.loop-q-test.true (overflow_sub-at-in-loop-q c) (rw length-set c.requires.1))

pub returns : goal.returns
returns c =
    let z : c.loop-q.q ≡ 0 = omega arith in
    put_all c.args.out.now _ (rw z at c.loop-q.invariant.1)
