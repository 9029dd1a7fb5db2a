-- A table that is not refused has the words of a header.
use Rattle.answers.specs.Refused.{passed}
use Rattle.table.specs.Headers.{header_ok}
use Rattle.bulonkeri.proofs.checking.run.Goals as goal

pub print_counts-requires : goal.print_counts-requires
print_counts-requires g c = (header_ok _ _ (passed _ _ c.check.ensures _ c.in-Ok.is)).ten
