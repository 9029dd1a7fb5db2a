-- The lists are asked for and compared in their order, with slices as long as those lent first.
use Rattle.std.proofs.Common.{◌∙◌, true, false}
use Rattle.vectors.proofs.AnswerLaws.{list_same, lists_asked}
use Rattle.vectors.proofs.compare.compare_lists.Goals as goal

pub returns : goal.returns
returns g c =
    let n = c.normal-normal in
    let e = c.normal-explicit in
    let p = c.packed-packed in
    let q = c.packed-packed_explicit in
    lists_asked _ _ _ _ _ _
    n.ensures c.compare-first.ensures
    (e.ensures ∙ list_same _ _ false true _ _ _ _ n.auto.work n.auto.out) c.compare-second.ensures
    (p.ensures ∙ list_same _ _ true false _ _ _ _ (e.auto.work ∙ n.auto.work) (e.auto.out ∙ n.auto.out)) c.compare-third.ensures
    (q.ensures ∙ list_same _ _ true true _ _ _ _ (p.auto.work ∙ (e.auto.work ∙ n.auto.work)) (p.auto.out ∙ (e.auto.out ∙ n.auto.out))) c.compare.ensures
