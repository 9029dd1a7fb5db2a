-- `pack_named` meets its contract: the words asked for have room for the packed list and, behind it, for the names of as many marks as the
-- table has entries.
use mathlib.Core.Path.{◌≡◌, refl}
use Prim.Native.Nat.{◌≤◌}
use native.Mathlib.Omega.{arith}
use lib.ListN.{length}
use Rattle.defs.specs.Table.{qed}
use Rattle.defs.specs.Refusals.{need32}
use Rattle.table.specs.Headers.{header_ok}
use Rattle.steptexts.proofs.NamedLaws.{may_pack, names_room, may_name, ready, end_is}
use Rattle.steptexts.proofs.named.pack_named.Goals.{After-pack-end}
use Rattle.steptexts.proofs.named.pack_named.Goals as goal

-- ---- where the list stands
abbrev Listed : Type 0
Listed = After-pack-end

is_qed : (c : Listed) → c.read_header-header.result.qed.0 ≡ qed c.args.words.now
is_qed c = c.read_header-header.ensures.qed_is

enough : (c : Listed) → need32 c.args.words.now ≤ length c.pack-end.new.work
enough c = omega (arith, c.requires.words_in_bounds, c.pack-end.auto.work)

room : (c : Listed) → c.pack-end.result ≤ length c.pack-end.new.work
room c = omega (arith, names_room _ _ c.requires.labels_value (is_qed c) c.pack-end.ensures (enough c))

-- ---- the goals
pub read_header-header-requires : goal.read_header-header-requires
read_header-header-requires c = (header_ok _ _ c.requires.labels_value).ten

pub pack-end-requires : goal.pack-end-requires
pack-end-requires c = record { header_ok = header_ok _ _ c.requires.labels_value; packable = may_pack _ _ c.requires.labels_value c.read_header-header.ensures.qed_is c.requires.words_in_bounds }

pub statement_section-statements-requires : goal.statement_section-statements-requires
statement_section-statements-requires c = header_ok _ _ c.requires.labels_value

pub offset_bounds-work-end : goal.offset_bounds-work-end
offset_bounds-work-end c = omega (arith, room (goal.at.offset_bounds-work-end c).After-pack-end)

pub slice_bounds-mark_names-count : goal.slice_bounds-mark_names-count
slice_bounds-mark_names-count c = omega (arith, room (goal.at.slice_bounds-mark_names-count c).After-pack-end)

pub slice_bounds-mark_names-start : goal.slice_bounds-mark_names-start
slice_bounds-mark_names-start c = omega (arith, room (goal.at.slice_bounds-mark_names-start c).After-pack-end)

pub mark_names-requires : goal.mark_names-requires
mark_names-requires c =
    let d : Listed = (goal.at.mark_names-requires c).After-pack-end in
    let named = may_name _ _ c.requires.labels_value (is_qed d) c.pack-end.ensures (enough d) c.statement_section-statements.ensures c.read_header-header.ensures.entries_is in
    record { statements_ok = named.0; count_le_max_entries = named.1 }

pub overflow_sub-result : goal.overflow_sub-result
overflow_sub-result c =
    let d : Listed = (goal.at.overflow_sub-result c).After-pack-end in
    omega (arith, c.read_header-header.ensures.entries_is, end_is _ _ c.requires.labels_value (is_qed d) c.pack-end.ensures (enough d))

pub returns : goal.returns
returns c =
    let d : Listed = (goal.at.returns c).After-pack-end in
    ready _ _ c.requires.labels_value (is_qed d) c.pack-end.ensures (enough d) c.statement_section-statements.ensures c.read_header-header.ensures.entries_is
    c.mark_names.ensures c.mark_names.auto.names _ refl
