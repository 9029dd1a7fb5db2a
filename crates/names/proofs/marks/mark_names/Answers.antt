-- `mark_names` meets its contract: the names are computed in the first words of the slice, which are lent as a part.
-- Those are few enough, as there are at most so many entries and statements.
use mathlib.Core.Path.{◌≡◌}
use lib.ListN.{length, take}
use lib.Seq.{length-take-le}
use Rattle.names.specs.Named.{names_length}
use Rattle.names.proofs.marks.mark_names.Goals.{Start}

-- the part that is lent has the length asked for
lent : (s : Start) → let end = names_length s.args.statements.now s.args.count in length (take end s.args.names.now) ≡ end
lent s = length-take-le _ s.args.names.now s.requires.count_le_max_entries.1
