-- What was read back stands inside its slices, which are as long as the limits, and the table is not refused.
use Rattle.std.proofs.Common.{arith}
use Rattle.answers.specs.Refused.{passed}
use Rattle.bulonkeri.proofs.Renewed.{renewable}
use Rattle.bulonkeri.proofs.clean.renewed.Goals as goal

pub returns-clause-renewable : goal.returns-clause-renewable
returns-clause-renewable c =
    let back = c.read_back in
    renewable _ _ _ _ _ (passed _ _ c.check.ensures _ c.in_ok-check.was) (omega (arith, back.auto.entries, c.requires.0)) (omega (arith, back.auto.children, c.requires.1))
    back.ensures.prefix_len back.ensures.prefix_len_2
