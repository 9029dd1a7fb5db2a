-- `counts::distances` meets its contract: each return is one ending of the definition, and what is written is the pass over the two sections.
-- The facts of a good table come from the number that the check answered. Assumes nothing.
use mathlib.Core.Path.{◌≡◌, sym, ap, ◌∙◌}
use mathlib.Core.List.{List, ◌++◌}
use Prim.Native.Nat.{ℕ}
use native.Mathlib.Omega.{arith}
use lib.Seq.{length-take-le}
use lib.ListN.{length, take, drop}
use Rattle.std.specs.Prelude.{Err}
use Rattle.std.proofs.Common.{rules}
use Rattle.defs.specs.Outcome.{distances_outcome}
use Rattle.defs.specs.Counts.{distances_of}
use Rattle.defs.specs.Table.{entries}
use Rattle.counts.proofs.AnswerLaws.{refused, no_room, done, right_header, right_entries, right_qed, right_distances, distances_length}
use Rattle.counts.proofs.distances.distances.Goals.{Else-out-n}
use Rattle.counts.proofs.distances.distances.Goals as goal

-- the part of the output that is lent has a place for each entry
places : (c : Else-out-n) → length (take c.read_header-header.result.entries c.args.out.now) ≡ entries c.args.words.now
places c = length-take-le _ c.args.out.now (omega arith) ∙ c.read_header-header.ensures.entries_is

pub returns-in_err-check : goal.returns-in_err-check
unfolding distances_outcome
returns-in_err-check c =
    let is : c.from_residual.result ≡ Err c.in_err-check.field-0.0 = search rules in
    rw is (refused _ _ _ _ _ c.check.ensures _ c.in_err-check.was)

pub read_header-header-requires : goal.read_header-header-requires
read_header-header-requires c = (right_header _ _ _ c.check.ensures c.in_ok-check.was).ten

pub returns-then-out-n : goal.returns-then-out-n
unfolding distances_outcome
returns-then-out-n c =
    no_room _ _ _ _ _ c.check.ensures c.in_ok-check.was
    (omega (arith, distances_length c.args.words.now, c.read_header-header.ensures.entries_is))

pub entry_section-requires : goal.entry_section-requires
entry_section-requires c = right_header _ _ _ c.check.ensures c.in_ok-check.was

pub child_section-requires : goal.child_section-requires
child_section-requires c = right_header _ _ _ c.check.ensures c.in_ok-check.was

pub slice_bounds-all_distances-end-2 : goal.slice_bounds-all_distances-end-2
slice_bounds-all_distances-end-2 c = sym (length-take-le _ c.args.out.now (omega arith))

pub all_distances-requires : goal.all_distances-requires
all_distances-requires c =
    let checked = c.check.ensures in
    let fine = c.in_ok-check.was in record { entries_ok = right_entries _ _ _ checked fine _ _ _ c.entry_section.ensures c.child_section.ensures (places (goal.at.all_distances-requires c).Else-out-n); qed_in_bounds = right_qed _ _ _ checked fine _ _ c.read_header-header.ensures.qed_is (places (goal.at.all_distances-requires c).Else-out-n) }

pub returns : goal.returns
unfolding distances_outcome
returns c =
    let w : List ℕ = c.args.words.now in
    let checked = c.check.ensures in
    let fine = c.in_ok-check.was in
    let header = c.read_header-header.ensures in
    let n : c.read_header-header.result.entries ≡ length (distances_of w) = header.entries_is ∙ sym (distances_length w) in
    done w _ _ _ _ checked fine _ _ (omega arith) n
    (ap (λ (l : List ℕ). l ++ drop c.read_header-header.result.entries c.args.out.now)
    (c.all_distances.ensures ∙ right_distances _ _ _ checked fine _ _ _ _ c.entry_section.ensures c.child_section.ensures (places (goal.at.returns c).Else-out-n) header.qed_is))
