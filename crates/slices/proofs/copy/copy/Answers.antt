-- `copy` meets its contract. Invariant: the places passed hold the source.
-- Assumes nothing.
use mathlib.Core.Path.{refl, sym, ◌∙◌}
use native.Mathlib.Omega.{arith}
use Rattle.std.proofs.lemmas.List.{take-set, take_more_same, take_all, get_or-set_same}
use lib.ListN.{length-set}
use Rattle.slices.proofs.copy.copy.Goals as goal

pub loop-i-init : goal.loop-i-init
loop-i-init g c = refl

pub loop-i-preserved : goal.loop-i-preserved
loop-i-preserved g c =
    let long = c.loop-i.auto.target in
    let item = c.index-source-i.result in
    take_more_same _ _ c.loop-i.i item
    (omega (arith, length-set c.loop-i.target c.loop-i.i item)) c.loop-i-test.true
    (take-set c.loop-i.target c.loop-i.i item ∙ c.loop-i.invariant)
    (get_or-set_same c.loop-i.target c.loop-i.i item item (omega arith) ∙ c.index-source-i.is)

pub returns : goal.returns
returns g c =
    let all = take_all c.loop-i.i c.loop-i.target (omega (arith, c.loop-i.auto.target)) in
    sym all ∙ c.loop-i.invariant ∙ take_all c.loop-i.i c.args.source.now c.loop-i-test.false
