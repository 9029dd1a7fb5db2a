-- What was written stands inside the output, as a law of the outcome says.
use Rattle.defs.specs.Inside.{replay_inside}
use Rattle.bulonkeri.proofs.Fits.{first_count, second_count}
use Rattle.bulonkeri.proofs.clean.read_back.Goals as goal

pub returns-clause-prefix_len : goal.returns-clause-prefix_len
returns-clause-prefix_len c = first_count _ c.replay.ensures (replay_inside _ _ _ _ _ _)

pub returns-clause-prefix_len_2 : goal.returns-clause-prefix_len_2
returns-clause-prefix_len_2 c = second_count _ c.replay.ensures (replay_inside _ _ _ _ _ _)
