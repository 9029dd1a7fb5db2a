-- `put_refused` meets its contract: 14 and 15 are said as what is too large, any other number with its reason and the stage.
-- Each is a case of the definition.
use Rattle.answers_said.specs.Bytes.{bytes}
use mathlib.Core.Path.{sym, ◌∙◌}
use Rattle.answers_said.proofs.VerdictLaws.{room_put, room_ends, stage_put, stage_ends}
use Rattle.answers_said.proofs.verdicts.put_refused.Goals as goal

pub returns-then-is_short : goal.returns-then-is_short
unfolding bytes
returns-then-is_short c =
    record {
      grows = room_put _ _ (sym c.is_short.ensures ∙ c.if-is_short.true) c.put_piece-begun.ensures c.room_said.ensures c.put_piece.ensures;
      upper_bound = room_ends _ c.put_piece-begun.ensures c.room_said.ensures c.put_piece.ensures;
    }

pub returns : goal.returns
unfolding bytes
returns c =
    let g = c.put_refusal-refused.ensures in
    record {
      grows = stage_put _ _ (sym c.is_short.ensures ∙ c.if-is_short.false) g.grows c.put_piece-named.ensures c.stage_said.ensures c.put_piece-2.ensures;
      upper_bound = stage_ends _ g.upper_bound c.put_piece-named.ensures c.stage_said.ensures c.put_piece-2.ensures;
    }
