-- `table::entry_section` meets its contract: the header says where the section starts and where the next one does.
-- Assumes nothing.
use mathlib.Core.Path.{refl}
use Rattle.table.proofs.Lemmas.{entry_part}
use Rattle.table.proofs.sections.entry_section.Goals as goal

pub returns : goal.returns
returns c = entry_part _ c.requires _ _ refl refl
