-- `put_line` meets its contract: the part of the text between its start and its end is the line.
-- The rest is found.
use Rattle.answers_said.proofs.LineLaws.{line_put}
use Rattle.answers_said.proofs.lines.put_line.Goals as goal

pub returns : goal.returns
returns c = line_put _ _ _ _ _ _ _ c.line_start-start.ensures.0 c.line_end-end.ensures.0 c.put_piece-behind.ensures c.put_byte.ensures
