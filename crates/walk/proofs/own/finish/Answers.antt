-- Each return is one case of `finishes`, by the test of the entry's word.
-- The words that the mark changes lie before the step, so the room for the step is as it was.
use mathlib.Core.Path.{sym}
use Prim.Native.Nat.{◌+◌}
use native.Mathlib.Omega.{arith}
use borrow.Author.Tests.{lt-ltb, le-ltb}
use Rattle.defs.specs.Table.{word}
use Rattle.walk.proofs.OwnLaws.{finishes_plain, finishes_marked}
use Rattle.walk.proofs.own.finish.Goals as goal

pub returns-then-work-at-gt1 : goal.returns-then-work-at-gt1
returns-then-work-at-gt1 c = rw c.put_step.ensures (sym (finishes_marked _ _ _ _ _ _ (lt-ltb 1 (word c.args.work.now (c.args.e.0 + 1)) (omega (arith, c.if-work-at-gt1.true)))))

pub returns : goal.returns
returns c = rw c.put_step-2.ensures (sym (finishes_plain _ _ _ _ _ _ (le-ltb 1 (word c.args.work.now (c.args.e.0 + 1)) (omega (arith, c.if-work-at-gt1.false)))))
