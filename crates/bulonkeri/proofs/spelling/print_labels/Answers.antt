-- A table that is not refused has a good header, and the label of each statement of the list stands in the label bytes.
use Rattle.std.proofs.Common.{arith}
use Rattle.table.specs.Headers.{header_ok}
use Rattle.bulonkeri.proofs.Lists.{label_is_in}
use Rattle.bulonkeri.proofs.spelling.print_labels.Goals as goal

pub statement_section-statements-requires : goal.statement_section-statements-requires
statement_section-statements-requires g c = header_ok _ _ c.requires.ok

pub print_label-requires : goal.print_label-requires
print_label-requires g c = label_is_in c.requires c.statement_section-statements.ensures _ (omega arith)
