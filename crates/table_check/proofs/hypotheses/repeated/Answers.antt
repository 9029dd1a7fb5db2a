-- `repeated` looks for each word among those before it. Invariant: no word below i stands at an earlier place.
-- A hit decides at once. Assumes nothing.
use Prim.Native.Nat.{ℕ, ◌<◌}
use mathlib.Core.Bool.{true, false}
use mathlib.Core.Path.{◌≡◌, sym, ◌∙◌}
use native.Mathlib.Omega.{arith}
use borrow.Author.Count.{below_more}
use lib.ListN.{length, get_or, take}
use Rattle.std.proofs.Common.{eqb→eq}
use Rattle.std.proofs.lemmas.List.{get_or-take, length-take-le}
use Rattle.laws.specs.Lists.{T_of, clash, eqb_yes}
use Rattle.laws.specs.Places.{repeats_at, repeats_nowhere}
use Rattle.table_check.proofs.hypotheses.repeated.Goals as goal

pub returns-then-contains : goal.returns-then-contains
returns-then-contains c =
    let found = c.if-contains.ensures.cases in
    let long = length-take-le c.loop-i.i c.args.list.now c.loop-i.auto.i-end in
    let before : found.0 < c.loop-i.i = omega (arith, found.1, long) in
    let equal = eqb→eq _ _ (T_of (found.2 0)) in
    sym (repeats_at c.args.list.now c.loop-i.i found.0 before (omega arith) (sym (get_or-take c.loop-i.i c.args.list.now found.0 0 before) ∙ equal))

pub loop-i-preserved : goal.loop-i-preserved
loop-i-preserved c =
    let long = length-take-le c.loop-i.i c.args.list.now c.loop-i.auto.i-end in (
      omega arith,
      below_more _ _ c.loop-i.invariant.1 (λ j before e.
          let other = c.if-contains.ensures.cases j 0 (omega arith) (omega (arith, long)) in
          clash _ (eqb_yes _ _ (get_or-take c.loop-i.i c.args.list.now j 0 before ∙ e)) other),
    )

pub returns : goal.returns
returns c =
    let end : c.loop-i.i ≡ length c.args.list.now = omega arith in
    sym (repeats_nowhere _ (rw end at c.loop-i.invariant.1))
