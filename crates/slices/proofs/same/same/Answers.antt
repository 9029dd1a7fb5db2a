-- `same` leaves at the first difference. Invariant: what is still to come is equal just where the whole is.
-- Slices of other lengths are not equal. Assumes nothing.
use Prim.Native.Nat.{suc, ◌+◌}
use mathlib.Core.Bool.{Bool, true, false, not}
use mathlib.Core.Path.{◌≡◌, refl, sym, ◌∙◌}
use native.Mathlib.Omega.{arith}
use Rattle.slices.proofs.SameLaws.{same_next, same_end, same_length}
use Rattle.slices.proofs.same.same.Goals as goal

not_true : (b : Bool) → true ≡ not b → b ≡ false
not_true true e = e
not_true false e = refl

not_false : (b : Bool) → false ≡ not b → b ≡ true
not_false true e = refl
not_false false e = e

pub returns-then-one-other : goal.returns-then-one-other
returns-then-one-other g c = sym (same_length g.T.PartialEq.eq c.args.one.now c.args.other.now c.if-one-other.true)

pub loop-i-init : goal.loop-i-init
loop-i-init g c = refl

pub returns-then-ne : goal.returns-then-ne
returns-then-ne g c =
    let next = same_next g.T.PartialEq.eq c.args.one.now c.args.other.now c.loop-i.i c.index-one-i.result c.index-other-i.result (omega arith) c.loop-i-test.true in
    let differ = not_true (g.T.PartialEq.eq c.index-one-i.result c.index-other-i.result) c.if-ne.ensures in
    sym (rw (← c.index-one-i.is, ← c.index-other-i.is, differ) at next) ∙ c.loop-i.invariant

pub loop-i-preserved : goal.loop-i-preserved
loop-i-preserved g c =
    let next = same_next g.T.PartialEq.eq c.args.one.now c.args.other.now c.loop-i.i c.index-one-i.result c.index-other-i.result (omega arith) c.loop-i-test.true in
    let equal = not_false (g.T.PartialEq.eq c.index-one-i.result c.index-other-i.result) c.if-ne.ensures in
    let after : suc c.loop-i.i ≡ c.loop-i.i + 1 = omega arith in
    sym (rw (← c.index-one-i.is, ← c.index-other-i.is, equal, after) at next) ∙ c.loop-i.invariant

pub returns : goal.returns
returns g c = sym (same_end g.T.PartialEq.eq c.args.one.now c.args.other.now c.loop-i.i (omega arith) c.loop-i-test.false) ∙ c.loop-i.invariant
