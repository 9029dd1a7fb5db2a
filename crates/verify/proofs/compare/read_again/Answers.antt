-- `verify::read_again` meets its contract: each return is one verdict of the definition, from what the replay gave.
-- What it wrote stands inside its slices. Assumes nothing.
use Prim.Native.Nat.{◌≤◌}
use mathlib.Core.Bool.{true, false}
use lib.ListN.{length, take}
use lib.Seq.{length-take-le}
use Rattle.laws.specs.Tools.{same}
use mathlib.Core.Path.{◌≡◌, refl, sym, ap, ◌∙◌}
use Rattle.std.specs.Prelude.{Ok, Err}
use Rattle.std.proofs.Common.{rules}
use Rattle.defs.specs.Inside.{two_inside, replay_inside}
use Rattle.answers.specs.Refused.{refusal_some}
use Rattle.verify.specs.Verdicts.{told}
use Rattle.verify.proofs.StageLaws.{stage_ok, stage_err, two_ok, two_err}
use Rattle.verify.proofs.AgainLaws.{unlike, alike, read_refused, entries_differ, children_differ, read_agrees}
use Rattle.verify.proofs.compare.read_again.Goals.{In_ok-read}
use Rattle.verify.proofs.compare.read_again.Goals as goal

-- the replay read the list, and what it wrote stands in its slices
replayed : (c : In_ok-read) → c.replay.result ≡ Ok c.in_ok-read.read
replayed c = stage_ok _ _ _ (sym c.at_stage.ensures ∙ c.in_ok-read.was)

fitting : (c : In_ok-read) → (c.in_ok-read.read.first ≤ length c.replay.new.entries) × (c.in_ok-read.read.second ≤ length c.replay.new.children)
fitting c = two_inside (two_ok _ _ _ _ _ c.replay.ensures _ (replayed c)) (replay_inside _ _ _ _ _ _)

pub returns-in_err-read : goal.returns-in_err-read
returns-in_err-read c =
    let is : c.from_residual.result ≡ Err c.in_err-read.field-0.0 = search rules in
    let s = stage_err _ _ _ (sym c.at_stage.ensures ∙ c.in_err-read.was) in
    rw is (read_refused _ _ _ _ _ _ _ _ _ _ _ _ _ _ _ (two_err _ _ _ _ _ c.replay.ensures _ s.1) _ (ap told s.2) (refusal_some s.0))

pub slice_bounds-ne-end : goal.slice_bounds-ne-end
slice_bounds-ne-end c = (fitting c).0

pub slice_bounds-ne-end-2 : goal.slice_bounds-ne-end-2
slice_bounds-ne-end-2 c = sym (length-take-le _ _ (fitting c).0)

pub returns-then-ne : goal.returns-then-ne
returns-then-ne c =
    let read = two_ok _ _ _ _ _ c.replay.ensures _ (replayed (goal.at.returns-then-ne c).In_ok-read) in
    entries_differ _ _ _ _ _ _ _ _ _ _ _ _ _ _ _ read refl _ refl (unlike _ _ _ c.ne.ensures c.if-ne.true)

pub slice_bounds-ne-end-3 : goal.slice_bounds-ne-end-3
slice_bounds-ne-end-3 c = (fitting (goal.at.slice_bounds-ne-end-3 c).In_ok-read).1

pub slice_bounds-ne-end-4 : goal.slice_bounds-ne-end-4
slice_bounds-ne-end-4 c = sym (length-take-le _ _ (fitting (goal.at.slice_bounds-ne-end-4 c).In_ok-read).1)

pub returns-then-ne-2 : goal.returns-then-ne-2
returns-then-ne-2 c =
    let read = two_ok _ _ _ _ _ c.replay.ensures _ (replayed (goal.at.returns-then-ne-2 c).In_ok-read) in
    let other : same (take c.in_ok-read.read.second c.replay.new.children) c.args.kids.now ≡ false = unlike _ _ _ c.ne-2.ensures c.if-ne-2.true in
    children_differ _ _ _ _ _ _ _ _ _ _ _ _ _ _ _ read refl _ refl other

pub returns : goal.returns
returns c =
    let read = two_ok _ _ _ _ _ c.replay.ensures _ (replayed (goal.at.returns c).In_ok-read) in
    let entries : same (take c.in_ok-read.read.first c.replay.new.entries) c.args.built.now ≡ true = alike _ _ _ c.ne.ensures c.if-ne.false in
    let children : same (take c.in_ok-read.read.second c.replay.new.children) c.args.kids.now ≡ true = alike _ _ _ c.ne-2.ensures c.if-ne-2.false in
    read_agrees _ _ _ _ _ _ _ _ _ _ _ _ _ _ _ read refl _ refl entries children
