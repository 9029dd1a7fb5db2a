-- `counts::parents` meets its contract: each return is one ending of the definition, and what is written is the count over the whole child section.
-- The facts of a good table come from the number that the check answered. Assumes nothing.
use mathlib.Core.Path.{ap, ◌≡◌, sym, ◌∙◌}
use mathlib.Core.List.{◌++◌, List}
use Prim.Native.Nat.{ℕ}
use native.Mathlib.Omega.{arith}
use lib.ListN.{drop, length, take}
use lib.Seq.{length-take-le}
use Rattle.defs.specs.Counts.{parents_of}
use Rattle.defs.specs.Table.{entries}
use Rattle.std.specs.Prelude.{Err}
use Rattle.std.proofs.Common.{rules}
use Rattle.defs.specs.Outcome.{parents_outcome}
use Rattle.counts.proofs.AnswerLaws.{refused, no_room, done, right_header, right_references, right_parents, parents_length}
use Rattle.counts.proofs.parents.parents.Goals.{After-count_parents-arg-1}
use Rattle.counts.proofs.parents.parents.Goals as goal

-- the part of the output that is lent has a place for each entry
places : (c : After-count_parents-arg-1) → length (take c.read_header-n.result.entries c.args.out.now) ≡ entries c.args.words.now
places c = length-take-le _ c.args.out.now (omega arith) ∙ c.read_header-n.ensures.entries_is

pub returns-in_err-check : goal.returns-in_err-check
unfolding parents_outcome
returns-in_err-check c =
    let is : c.from_residual.result ≡ Err c.in_err-check.field-0.0 = search rules in
    rw is (refused _ _ _ _ _ c.check.ensures _ c.in_err-check.was)

pub read_header-n-requires : goal.read_header-n-requires
read_header-n-requires c = (right_header _ _ _ c.check.ensures c.in_ok-check.was).ten

pub returns-then-out-n : goal.returns-then-out-n
unfolding parents_outcome
returns-then-out-n c = no_room _ _ _ _ _ c.check.ensures c.in_ok-check.was (omega (arith, parents_length c.args.words.now, c.read_header-n.ensures.entries_is))

pub child_section-requires : goal.child_section-requires
child_section-requires c = right_header _ _ _ c.check.ensures c.in_ok-check.was

pub slice_bounds-count_parents-end-2 : goal.slice_bounds-count_parents-end-2
slice_bounds-count_parents-end-2 c = sym (length-take-le _ c.args.out.now (omega arith))

pub count_parents-requires : goal.count_parents-requires
count_parents-requires c = right_references _ _ _ c.check.ensures c.in_ok-check.was _ _ c.child_section.ensures (places c)

pub returns : goal.returns
unfolding parents_outcome
returns c =
    let w : List ℕ = c.args.words.now in
    let n : c.read_header-n.result.entries ≡ length (parents_of w) = c.read_header-n.ensures.entries_is ∙ sym (parents_length w) in
    done w _ _ _ _ c.check.ensures c.in_ok-check.was _ _ (omega arith) n
    (ap (λ (l : List ℕ). l ++ drop c.read_header-n.result.entries c.args.out.now)
    (c.count_parents.ensures ∙ right_parents _ _ _ c.check.ensures c.in_ok-check.was _ _ c.child_section.ensures (places (goal.at.returns c).After-count_parents-arg-1)))
