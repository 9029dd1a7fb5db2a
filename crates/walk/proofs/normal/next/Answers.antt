-- The invariant: what is left to come is as it was at the start. The measure: the entry on top, which falls with each push.
-- A turn pushes the next child (`push`), a return takes the step of the top pair (`popped`).
use mathlib.Core.Path.{◌≡◌, refl, ap, ◌∙◌}
use mathlib.Core.List.{List}
use Prim.Native.Nat.{ℕ, ◌+◌, ◌*◌, ◌<◌}
use native.Mathlib.Omega.{arith}
use lib.ListN.{length, length-set}
use Rattle.defs.specs.Table.{word, max_child_refs, child_start_in, child_count_in}
use Rattle.walk.specs.Normal.{pair_size, entry_on, next_on}
use Rattle.walk.proofs.NormalLaws.{none_left, popped, push, push_stacked, push_room}
use Rattle.walk.proofs.normal.next.Goals.{After-child-c, Else-child_count-k}
use Rattle.walk.proofs.normal.next.Goals as goal

-- the next child of the top entry, where there is one
record More (es cs s : List ℕ) (top : ℕ) : Type 0 where
  more : next_on s top < child_count_in es (entry_on s top)
  child_in : child_start_in es (entry_on s top) + next_on s top < length cs
  pair_in : pair_size * top + 3 < length s
  few : next_on s top < max_child_refs

more_of : (c : Else-child_count-k) → More c.args.entries.now c.args.children.now c.loop-e.stack c.loop-e.top
more_of c =
    let p = c.loop-e in
    let m : next_on p.stack p.top < child_count_in c.args.entries.now (entry_on p.stack p.top) = omega (arith, c.if-child_count-k.false, c.child_count.ensures) in
    let r = push_room c.args.entries.now c.args.children.now c.requires.entries p.stack p.top p.invariant.1.0 m _ refl in
    record { more = m; child_in = r.0; pair_in = r.1.0; few = r.1.1 }

-- it is what the turn pushes
child_is : (c : After-child-c) → c.child-c.result.0 ≡ word c.args.children.now (child_start_in c.args.entries.now (entry_on c.loop-e.stack c.loop-e.top) + next_on c.loop-e.stack c.loop-e.top)
child_is c = c.child-c.ensures ∙ ap (λ (i : ℕ). word c.args.children.now (i + next_on c.loop-e.stack c.loop-e.top)) c.child_start.ensures

pub returns-then-depth-eq0 : goal.returns-then-depth-eq0
returns-then-depth-eq0 c = none_left _ _ _ _ _ c.if-depth-eq0.true

pub returns-then-child_count-k : goal.returns-then-child_count-k
returns-then-child_count-k c =
    popped _ _ c.requires.entries _ _ c.loop-e.stack c.loop-e.top c.loop-e.invariant.0 (omega (arith, c.if-child_count-k.true, c.child_count.ensures)) c.loop-e.invariant.1.0 _ _ c.statement_of.ensures c.top_hyp.ensures.0 c.top_hyp.ensures.1

pub loop-e-preserved : goal.loop-e-preserved
loop-e-preserved c =
    let st = push_stacked _ _ c.requires.entries c.loop-e.stack c.loop-e.top c.loop-e.invariant.1.0 (more_of (goal.at.loop-e-preserved c).Else-child_count-k).more _ (child_is (goal.at.loop-e-preserved c).After-child-c) in (
      push _ _ c.requires.entries c.loop-e.stack c.loop-e.top c.loop-e.invariant.1.0 (more_of (goal.at.loop-e-preserved c).Else-child_count-k).more _ (child_is (goal.at.loop-e-preserved c).After-child-c) c.args.explicit ∙ c.loop-e.invariant.0,
      (st, (simp length-set c.loop-e.invariant.1.1.0, st.falls (c.loop-e.top + 1) (omega arith))),
    )
