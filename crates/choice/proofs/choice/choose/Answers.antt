-- `choose` meets its contract: the last total is what the chosen items cost (`is_chosen`).
-- The rest is passed on from `fill` to `put_places`.
use Rattle.choice.proofs.Walk.{is_chosen}
use Rattle.choice.proofs.choice.choose.Goals as goal

pub returns : goal.returns
returns c = is_chosen _ _ _ _ _ _ c.fill.ensures c.put_places-start.ensures.0 c.put_places-start.ensures.1
