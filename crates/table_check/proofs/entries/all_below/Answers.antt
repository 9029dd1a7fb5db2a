-- `all_below` tests a list of children. Invariant: every child passed is below the parent.
-- One that is not decides at once. Assumes nothing.
use mathlib.Core.Path.{◌≡◌, sym}
use native.Mathlib.Omega.{arith}
use borrow.Author.Count.{below_none, below_more}
use borrow.Author.Tests.{lt-ltb, le-ltb}
use lib.Dec.{ltb}
use lib.ListN.{length, get_or}
use Rattle.laws.specs.Places.{all_decides, one_fails}
use Rattle.table_check.proofs.entries.all_below.Goals as goal

pub returns-then-parent-c : goal.returns-then-parent-c
returns-then-parent-c c =
    let here = get_or c.args.children.now c.loop-c.c-index 0 in
    let parent = c.args.parent.0 in
    sym (one_fails (λ x. ltb x parent) _ c.loop-c.c-index (omega arith) (le-ltb here parent (omega arith)))

pub returns : goal.returns
returns c =
    let end : c.loop-c.c-index ≡ length c.args.children.now = omega arith in
    sym ((all_decides (λ x. ltb x c.args.parent.0) _).yes (rw end at c.loop-c.invariant.1))
