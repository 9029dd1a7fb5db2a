-- `has_many_steps` meets its contract: the steps that are counted are the table's as far as test 13 asks.
-- The law is of crate counts.
use Rattle.text.proofs.Endings.{steps_13}
use Rattle.lists.proofs.ListLaws.{may_count}
use Rattle.defs.specs.Checked.{header}
use Rattle.defs.specs.Laws.{good}
use Rattle.text.proofs.writers.has_many_steps.Goals as goal

pub read_header-header-requires : goal.read_header-header-requires
read_header-header-requires c = (header _ (good _ _ c.requires.ok).ok1).ten

pub entry_section-entries-requires : goal.entry_section-entries-requires
entry_section-entries-requires c = header _ (good _ _ c.requires.ok).ok1

pub child_section-children-requires : goal.child_section-children-requires
child_section-children-requires c = header _ (good _ _ c.requires.ok).ok1

pub count_steps-steps-requires : goal.count_steps-steps-requires
count_steps-steps-requires c =
    let may = may_count _ _ c.requires.ok _ _ _ c.entry_section-entries.ensures c.child_section-children.ensures c.read_header-header.ensures.qed_is _ _ c.read_header-header.ensures.entries_is c.requires.enough in
    record { entries_ok = may.0; qed_lt_n = may.1 }

pub returns : goal.returns
returns c = steps_13 _ _ _ _ _ c.entry_section-entries.ensures c.child_section-children.ensures c.read_header-header.ensures.qed_is c.count_steps-steps.ensures
