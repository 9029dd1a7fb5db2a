-- The layout is read, then label list, letters and texts are asked for and compared; slices that were lent before count by their lengths.
use Rattle.std.proofs.Common.{arith}
use Rattle.vectors.proofs.AnswerLaws.{no_layout, layout_asked}
use Rattle.vectors.proofs.compare.compare_layout.Goals as goal

pub returns-then-left-lt12 : goal.returns-then-left-lt12
returns-then-left-lt12 g c = no_layout _ _ _ _ _ _ _ _ (omega (arith, c.if-left-lt12.true, c.left.ensures)) c.malformed.ensures

pub returns : goal.returns
returns g c =
    let b = c.label_letters-both in
    layout_asked _ _ _ _ _ _ _ _ _ _ _ (omega (arith, c.if-left-lt12.false, c.left.ensures))
    c.word.ensures c.word-2.ensures c.word-3.ensures c.moved_to.ensures c.with_layout-begun.ensures
    b.ensures c.compare-listed.ensures c.compare-lettered.ensures
    b.auto.work b.auto.sums b.auto.bytes c.compare_texts.ensures
