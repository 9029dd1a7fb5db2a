-- At the root no words are carried; elsewhere the pair below is the parent, whose next child is one past this one.
-- That pair has begun, so one can be taken off.
use Rattle.walk.proofs.NormalLaws.{root_parent, root_index, below_parent, below_index}
use Rattle.walk.specs.Normal.{pair_size, entry_on, next_on, Stacked}
use Rattle.walk.specs.Entries.{size}
use Rattle.walk.specs.Hyps.{parent_of, index_of}
use lib.ListN.{length}
use Prim.Native.Nat.{ℕ, ◌+◌, ◌*◌, ◌-◌, ◌<◌, ◌≤◌}
use native.Mathlib.Omega.{arith}
use mathlib.Core.List.{List}
use mathlib.Core.Path.{◌≡◌, sym, ◌∙◌}
use Rattle.walk.proofs.normal.top_hyp.Goals as goal

-- the pair below the top
record Below (es s : List ℕ) (top : ℕ) : Type 0 where
  some : 0 < top
  entry : entry_on s (top - 1) + (top - 1) < size es
  begun : 0 < next_on s (top - 1)
  room : pair_size * size es ≤ length s

below : (es s : List ℕ) (top : ℕ) → Stacked es s (top + 1) → (top ≡ 0 → ⊥) → Below es s top
below es s top st ne =
    let some : 0 < top = omega arith in
    record { some = some; entry = st.falls (top - 1) (omega arith); begun = st.begun (top - 1) (omega arith); room = st.room }

pub returns-then-top-eq0 : goal.returns-then-top-eq0
unfolding parent_of index_of
returns-then-top-eq0 c =
    let a = c.args in
    rw c.if-top-eq0.true (sym (root_parent a.entries.now a.explicit a.stack.now), sym (root_index a.entries.now a.explicit a.stack.now))

pub returns : goal.returns
returns c =
    let some : 0 < c.args.top = (below c.args.entries.now c.args.stack.now c.args.top c.requires c.if-top-eq0.false).some in
    (c.child_hyp.ensures.0 ∙ sym (below_parent _ _ _ _ some), c.child_hyp.ensures.1 ∙ sym (below_index c.args.entries.now _ _ _ some))
