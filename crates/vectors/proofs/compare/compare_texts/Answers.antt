-- One text more in each turn, with slices as long as those lent first.
use Rattle.std.proofs.Common.{◌≡◌, arith, refl}
use Rattle.vectors.specs.Asked.{texts_compared}
use Rattle.vectors.proofs.AnswerLaws.{text_asked}
use Rattle.vectors.proofs.compare.compare_texts.Goals as goal

pub loop-style-init : goal.loop-style-init
unfolding texts_compared
loop-style-init g c = record { few = omega arith; is = refl }

pub loop-style-preserved : goal.loop-style-preserved
loop-style-preserved g c =
    let l = c.loop-style in
    record {
      few = omega arith;
      is = text_asked _ _ _ _ _ _ _ _ _ _ _ _ l.invariant.is c.text-answer.ensures l.auto.work l.auto.sums l.auto.bytes c.compare-now.ensures;
    }

pub returns : goal.returns
returns g c = let z : c.loop-style.style ≡ 5 = omega (arith, c.loop-style.invariant.few, c.loop-style-test.false) in rw z at c.loop-style.invariant.is
