-- `table::hyp_section` meets its contract: the header says where the section starts and where the next one does.
-- Assumes nothing.
use mathlib.Core.Path.{refl}
use Rattle.table.proofs.Lemmas.{hyp_part_lem}
use Rattle.table.proofs.sections.hyp_section.Goals as goal

pub returns : goal.returns
returns c = hyp_part_lem _ c.requires _ _ refl refl
