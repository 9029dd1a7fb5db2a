-- `verify::wipe` meets its contract: each slice is filled with zeros.
-- Assumes nothing.
use Rattle.verify.proofs.WipeLaws.{all_wiped}
use Rattle.verify.proofs.answer.wipe.Goals as goal

pub returns : goal.returns
returns c =
    all_wiped _ _ (c.fill.ensures.after (λ y e. e)) (c.fill-2.ensures.after (λ y e. e)) (c.fill-3.ensures.after (λ y e. e)) (c.fill-4.ensures.after (λ y e. e))
    (c.fill-5.ensures.after (λ y e. e)) (c.fill-6.ensures.after (λ y e. e)) (c.fill-7.ensures.after (λ y e. e)) (c.fill-8.ensures.after (λ y e. e))
    (c.fill-9.ensures.after (λ y e. e)) (c.fill-10.ensures.after (λ y e. e))
