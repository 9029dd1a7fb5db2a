-- `packed_list` meets its contract: each return is one law of AnswerLaws, at the test that it stands under.
-- What the walk left in the working slice, `packed`, is named once, and the later answers read it.
use mathlib.Core.Path.{◌≡◌, refl, ap, ◌∙◌}
use mathlib.Core.List.{List}
use Prim.Native.Nat.{ℕ, ◌+◌, ◌≤◌}
use native.Mathlib.Omega.{arith}
use lib.ListN.{length, replicate}
use Rattle.laws.specs.Tools.{zeroed}
use Rattle.defs.specs.Check.{table_refusal}
use Rattle.defs.specs.Refusals.{need32}
use Rattle.defs.specs.Laws.{good as good-table}
use Rattle.defs.specs.Checked.{HeaderOk, header}
use Rattle.walk.specs.Packed.{held}
use Rattle.std.specs.Prelude.{Err}
use Rattle.std.proofs.Common.{rules}
use Rattle.answers.specs.Refused.{answer_number, answer_length, passed, stopped, stopped_some}
use Rattle.lists.proofs.AnswerLaws.{table_refused, work_short, no_room, done}
use Rattle.lists.proofs.ListLaws.{Stored, may_pack, stored, copied}
use Rattle.lists.proofs.packed.packed_list.Goals.{After-pack-end, In_ok-check, Else-work-working_words}
use Rattle.lists.proofs.packed.packed_list.Goals as goal

-- past the check the table is good
good : (c : In_ok-check) → table_refusal c.args.words.now c.args.labels.now ≡ 0
good c = passed _ _ c.check.ensures _ c.in_ok-check.was

right : (c : In_ok-check) → HeaderOk c.args.words.now
right c = header c.args.words.now (good-table _ _ (good c)).ok1

-- past test 14 the working slice is long enough
enough : (c : Else-work-working_words) → need32 c.args.words.now ≤ length c.args.work.now
enough c = omega (arith, c.working_words.ensures, c.if-work-working_words.false)

-- the packed list stands in it
packed : (c : After-pack-end) → table_refusal c.args.words.now c.args.labels.now ≡ 0 → Stored c.args.words.now c.args.explicit (c.read_header-header.result.entries + 1) (held c.pack-end.new.work c.pack-end.result)
packed c ok =
    let read = c.read_header-header.ensures in
    stored _ _ ok _ _ read.qed_is _ (ap (λ (n : ℕ). n + 1) (read.entries_is)) _ c.pack-end.ensures

-- what the last step leaves of it
wiped : (c : After-pack-end) (end : List ℕ) → end ≡ replicate (length c.pack-end.new.work) 0 → end ≡ zeroed c.args.work.now
wiped c end is = is ∙ ap (λ (n : ℕ). replicate n 0) c.pack-end.auto.work

pub returns-in_err-check : goal.returns-in_err-check
returns-in_err-check c =
    let is : c.from_residual.result ≡ Err c.in_err-check.field-0.0 = search rules in
    rw is (table_refused _ _ _ _ _ _ _ 0 (stopped _ _ c.check.ensures _ c.in_err-check.was) (stopped_some _ _ c.check.ensures _ c.in_err-check.was) refl)

pub working_words-requires : goal.working_words-requires
working_words-requires c = right c

pub returns-then-work-working_words : goal.returns-then-work-working_words
returns-then-work-working_words c = work_short _ _ _ _ _ _ (good (goal.at.returns-then-work-working_words c).In_ok-check) _ _ refl refl (omega (arith, c.working_words.ensures, c.if-work-working_words.true))

pub read_header-header-requires : goal.read_header-header-requires
read_header-header-requires c = (right (goal.at.read_header-header-requires c).In_ok-check).ten

pub pack-end-requires : goal.pack-end-requires
pack-end-requires c = record { header_ok = right (goal.at.pack-end-requires c).In_ok-check; packable = may_pack _ _ (good (goal.at.pack-end-requires c).In_ok-check) _ _ c.read_header-header.ensures.qed_is _ (enough (goal.at.pack-end-requires c).Else-work-working_words) }

pub overflow_sub-length : goal.overflow_sub-length
overflow_sub-length c = (packed (goal.at.overflow_sub-length c).After-pack-end (good (goal.at.overflow_sub-length c).In_ok-check)).begins

pub returns-then-out-length : goal.returns-then-out-length
returns-then-out-length c =
    no_room _ _ _ _ _ _ (good (goal.at.returns-then-out-length c).In_ok-check) (enough (goal.at.returns-then-out-length c).Else-work-working_words) refl _ _ _ (ap answer_number c.ended.ensures.0) (ap answer_length c.ended.ensures.0) (wiped (goal.at.returns-then-out-length c).After-pack-end _ c.ended.ensures.1) (omega (arith, (packed (goal.at.returns-then-out-length c).After-pack-end (good (goal.at.returns-then-out-length c).In_ok-check)).long, c.if-out-length.true))

pub slice_bounds-copy-count : goal.slice_bounds-copy-count
slice_bounds-copy-count c = (packed (goal.at.slice_bounds-copy-count c).After-pack-end (good (goal.at.slice_bounds-copy-count c).In_ok-check)).begins

pub slice_bounds-copy-start : goal.slice_bounds-copy-start
slice_bounds-copy-start c = (packed (goal.at.slice_bounds-copy-start c).After-pack-end (good (goal.at.slice_bounds-copy-start c).In_ok-check)).begins

pub slice_bounds-copy-end-3 : goal.slice_bounds-copy-end-3
slice_bounds-copy-end-3 c = omega (arith, (packed (goal.at.slice_bounds-copy-end-3 c).After-pack-end (good (goal.at.slice_bounds-copy-end-3 c).In_ok-check)).ends, enough (goal.at.slice_bounds-copy-end-3 c).Else-work-working_words, c.pack-end.auto.work)

pub returns : goal.returns
returns c =
    done _ _ _ _ _ _ (good (goal.at.returns c).In_ok-check) (enough (goal.at.returns c).Else-work-working_words) refl _ _ _ _ (ap answer_number c.ended-2.ensures.0) (ap answer_length c.ended-2.ensures.0 ∙ (packed (goal.at.returns c).After-pack-end (good (goal.at.returns c).In_ok-check)).long) (wiped (goal.at.returns c).After-pack-end _ c.ended-2.ensures.1) (copied _ _ _ _ (c.copy.ensures ∙ (packed (goal.at.returns c).After-pack-end (good (goal.at.returns c).In_ok-check)).front) (packed (goal.at.returns c).After-pack-end (good (goal.at.returns c).In_ok-check)).long) (omega (arith, (packed (goal.at.returns c).After-pack-end (good (goal.at.returns c).In_ok-check)).long, c.if-out-length.false))
