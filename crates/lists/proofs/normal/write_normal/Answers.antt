-- The invariant `Listing`: some steps stand at the front of the output, and the stack has the rest to come.
-- A turn takes the next step; when none is left the output holds all.
use mathlib.Core.Path.{◌≡◌, refl, ap, ◌∙◌}
use mathlib.Core.List.{List}
use Prim.Native.Nat.{◌≤◌}
use native.Mathlib.Omega.{arith}
use lib.ListN.{length}
use Rattle.laws.specs.Tools.{over}
use Rattle.defs.specs.Graph.{graph_in}
use Rattle.defs.specs.Steps.{Step, flat, normal_steps}
use Rattle.walk.specs.Normal.{left, Stepped, came_step, came_end}
use Rattle.lists.proofs.ListLaws.{fits, listed_more, all_listed, begin_listing}
use Rattle.lists.proofs.normal.write_normal.Goals.{At-loop-taken, In-Some}
use Rattle.lists.proofs.normal.write_normal.Goals as goal

-- the steps to come where the loop begins are the normal list
normal : (c : At-loop-taken) → left c.args.entries.now c.args.children.now c.args.explicit c.begin.new.stack 1 ≡ normal_steps (graph_in c.args.entries.now c.args.children.now) c.args.qed.0 c.args.explicit
normal c = c.begin.ensures.all_left c.args.explicit

room : (c : At-loop-taken) → length (flat (left c.args.entries.now c.args.children.now c.args.explicit c.begin.new.stack 1)) ≤ length c.args.out.now
room c = rw (c.begin.ensures.all_left c.args.explicit) c.requires.explicit_in_bounds

-- a turn takes the next of them
stepped : (c : In-Some) → Stepped c.args.entries.now c.args.children.now c.args.explicit (left c.args.entries.now c.args.children.now c.args.explicit c.loop-taken.stack c.loop-taken.depth) c.next.new.stack c.in-Some.taken.statement.0 c.in-Some.taken.hyp c.in-Some.taken.depth
stepped c = came_step _ _ _ _ _ _ _ c.next.ensures c.in-Some.is

pub loop-taken-init : goal.loop-taken-init
loop-taken-init c = (begin_listing _ _ _ _ _ c.begin.ensures.stacked, (refl, refl))

pub returns : goal.returns
returns c =
    all_listed _ _ _ _ _ _ _ _ _ c.loop-taken.invariant.0 (came_end _ _ _ _ _ _ c.next.ensures c.in_default.is) ∙ ap (λ (l : List Step). over (flat l) c.args.out.now) (normal (goal.at.returns c).At-loop-taken)

pub hyp_words-words-requires : goal.hyp_words-words-requires
hyp_words-words-requires c = omega (arith, (stepped c).parent_few)

pub put_step-requires : goal.put_step-requires
put_step-requires c =
    omega (arith, fits _ _ _ _ _ _ _ _ _ c.loop-taken.invariant.0 _ _ _ _ (stepped (goal.at.put_step-requires c).In-Some), room (goal.at.put_step-requires c).At-loop-taken, c.loop-taken.invariant.1.1)

pub loop-taken-smaller : goal.loop-taken-smaller
loop-taken-smaller c =
    omega (arith, fits _ _ _ _ _ _ _ _ _ c.loop-taken.invariant.0 _ _ _ _ (stepped (goal.at.loop-taken-smaller c).In-Some))

pub loop-taken-preserved : goal.loop-taken-preserved
loop-taken-preserved c =
    let words = c.hyp_words-words.ensures in (
      listed_more _ _ _ _ _ _ _ _ _ c.loop-taken.invariant.0 _ _ _ _ (stepped (goal.at.loop-taken-preserved c).In-Some) _ (rw (words.0, words.1) at c.put_step.ensures),
      (c.next.auto.stack ∙ c.loop-taken.invariant.1.0, c.put_step.auto.list ∙ c.loop-taken.invariant.1.1),
    )
