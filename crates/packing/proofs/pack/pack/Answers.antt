-- The walk begins with no marks and no steps; a childless QED is one step, else its children and then QED itself are its visit.
-- What `begin` ensures for any entries with these children is taken for those of the table, whose sections are read off its words.
use mathlib.Core.Path.{◌≡◌, ap, ◌∙◌}
use mathlib.Core.List.{List}
use Prim.Native.Nat.{ℕ, ◌+◌, ◌/◌}
use native.Mathlib.Omega.{arith}
use lib.ListN.{length}
use Rattle.defs.specs.Table.{entry_words, child_words, child_count_in, entry_stmt_in}
use Rattle.walk.specs.Packed.{held, Begun, Counted}
use Rattle.packing.proofs.PackedLaws.{root_alone, root_single, root_ready, root_room, root_packed}
use Rattle.packing.proofs.BeginLaws.{countable}
use Rattle.packing.proofs.pack.pack.Goals.{After-begin, After-child_count, After-statement_of-statement}
use Rattle.packing.proofs.pack.pack.Goals as goal

-- the words are right before the walk of the table's entries
begun : (c : After-begin) → Begun (entry_words c.args.words.now) (child_words c.args.words.now) (held c.begin.new.work (length c.entry_section-entries.result.now / 3 + 1))
unfolding Counted
begun c =
    let counted = rw c.child_section.ensures at c.begin.ensures in
    counted _ c.requires.packable.packing (ap (λ (l : List ℕ). length l / 3 + 1) c.entry_section-entries.ensures)

-- QED's record is read off the table's own section
count_is : (c : After-child_count) → c.child_count.result ≡ child_count_in (entry_words c.args.words.now) c.args.qed.0
count_is c = c.child_count.ensures ∙ ap (λ (l : List ℕ). child_count_in l c.args.qed.0) c.entry_section-entries.ensures

statement_is : (c : After-statement_of-statement) → c.statement_of-statement.result.0 ≡ entry_stmt_in (entry_words c.args.words.now) c.args.qed.0
statement_is c = c.statement_of-statement.ensures ∙ ap (λ (l : List ℕ). entry_stmt_in l c.args.qed.0) c.entry_section-entries.ensures

pub begin-requires : goal.begin-requires
begin-requires c = rw (c.entry_section-entries.ensures, c.child_section.ensures) (countable _ _ _ c.requires.packable.packing (omega (arith, c.requires.packable.long)))

pub statement_of-statement-requires : goal.statement_of-statement-requires
statement_of-statement-requires c = rw c.entry_section-entries.ensures (omega (arith, c.requires.packable.inside))

pub child_count-requires : goal.child_count-requires
child_count-requires c = rw c.entry_section-entries.ensures (omega (arith, c.requires.packable.inside))

pub list_single-requires : goal.list_single-requires
list_single-requires c = root_alone _ _ _ _ _ c.requires.packable _ (begun (goal.at.list_single-requires c).After-begin) c.begin.auto.work (omega (arith, count_is (goal.at.list_single-requires c).After-child_count, c.if-child_count-eq0.true))

pub returns-then-child_count-eq0 : goal.returns-then-child_count-eq0
returns-then-child_count-eq0 c = root_single _ _ _ _ _ c.requires.packable _ (begun (goal.at.returns-then-child_count-eq0 c).After-begin) c.begin.auto.work (omega (arith, count_is (goal.at.returns-then-child_count-eq0 c).After-child_count, c.if-child_count-eq0.true)) _ _ (statement_is (goal.at.returns-then-child_count-eq0 c).After-statement_of-statement) c.list_single.ensures

pub list_children-end-requires : goal.list_children-end-requires
list_children-end-requires c = record { header_ok = c.requires.header_ok; ready = root_ready _ _ _ _ _ c.requires.packable _ (begun (goal.at.list_children-end-requires c).After-begin) c.begin.auto.work }

pub finish-requires : goal.finish-requires
finish-requires c = root_room _ _ _ _ _ c.requires.packable _ (begun (goal.at.finish-requires c).After-begin) c.begin.auto.work _ c.list_children-end.auto.work c.list_children-end.ensures

pub returns : goal.returns
returns c = root_packed _ _ _ _ _ c.requires.packable _ (begun (goal.at.returns c).After-begin) c.begin.auto.work _ c.list_children-end.auto.work c.list_children-end.ensures (omega (arith, count_is (goal.at.returns c).After-child_count, c.if-child_count-eq0.false)) _ _ (statement_is (goal.at.returns c).After-statement_of-statement) c.finish.ensures
