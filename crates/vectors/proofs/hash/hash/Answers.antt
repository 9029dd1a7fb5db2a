-- The loop hashes the number of one element more in each turn.
-- There are as many numbers as elements.
use Rattle.std.proofs.Common.{arith, ◌∙◌}
use Rattle.std.proofs.lemmas.List.{length-map}
use Rattle.vectors.proofs.HashLaws.{none_hashed, turn_hashed, all_hashed, mapped}
use Rattle.vectors.proofs.hash.hash.Goals as goal

pub loop-x-init : goal.loop-x-init
loop-x-init g c = none_hashed _

pub hashed-h-requires : goal.hashed-h-requires
hashed-h-requires g c = c.loop-x.invariant.few

pub loop-x-preserved : goal.loop-x-preserved
loop-x-preserved g c =
    let as_many = length-map c.args.elements.now g.T.Element.number in
    turn_hashed (c.wide.ensures ∙ mapped g.T.Element.number _ _ _ c.loop-x-test.true c.x-item.is) c.hashed-h.ensures (omega (arith, as_many, c.loop-x-test.true)) c.loop-x.invariant

pub returns : goal.returns
returns g c =
    let as_many = length-map c.args.elements.now g.T.Element.number in
    rw as_many at (all_hashed (omega (arith, as_many, c.loop-x-test.false)) c.loop-x.invariant)
