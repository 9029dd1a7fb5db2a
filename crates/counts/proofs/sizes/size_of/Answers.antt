-- `counts::size_of` meets its contract. The invariant: the sum so far with the children still to come, capped, is the sum over all children, capped.
-- Both summands are at most the cap, so the sum does not wrap. Assumes nothing.
use mathlib.Core.Path.{◌≡◌, sym, ap, ◌∙◌}
use mathlib.Core.List.{List}
use Prim.Native.Nat.{ℕ, ◌+◌, ◌<◌, min}
use native.Mathlib.Omega.{arith}
use lib.ListN.{length, get_or}
use Rattle.laws.specs.Sums.{tot}
use Rattle.defs.specs.Steps.{normal_count}
use Rattle.defs.specs.Graph.{graph_in}
use Rattle.counts.proofs.SizeLaws.{size_small, size_next, size_done}
use Rattle.counts.specs.Sizes.{size_cap, capped_size, count_own}
use Rattle.counts.specs.Children.{kid_below, sections_fall}
use Rattle.counts.proofs.sizes.size_of.Goals.{At-loop-c}
use Rattle.counts.proofs.sizes.size_of.Goals as goal

-- each child lies below the entry, so its count is known
below : (c : At-loop-c) → c.loop-c.c-index < length c.children_of-kids.result.now → get_or c.children_of-kids.result.now c.loop-c.c-index 0 < c.args.e.0
below c l =
    let kids = c.children_of-kids.ensures in
    rw (← kids) at (kid_below c.args.entries.now c.args.children.now _ c.requires.ok c.args.e.0 c.loop-c.c-index c.requires.there (rw kids at l))

known : (c : At-loop-c) → c.loop-c.c-index < length c.children_of-kids.result.now
    → get_or c.args.sizes.now (get_or c.children_of-kids.result.now c.loop-c.c-index 0) 0 ≡ capped_size (graph_in c.args.entries.now c.args.children.now) (get_or c.children_of-kids.result.now c.loop-c.c-index 0)
known c l = c.requires.known _ (below c l)

pub bounds-sizes-c : goal.bounds-sizes-c
bounds-sizes-c c = omega (arith, below (goal.at.bounds-sizes-c c).At-loop-c c.loop-c-test.true, c.requires.there, c.requires.room)

pub add_capped-size-requires : goal.add_capped-size-requires
add_capped-size-requires c = (c.loop-c.invariant.most, omega (arith, known (goal.at.add_capped-size-requires c).At-loop-c c.loop-c-test.true, size_small (graph_in c.args.entries.now c.args.children.now) (get_or c.children_of-kids.result.now c.loop-c.c-index 0)))

pub loop-c-preserved : goal.loop-c-preserved
loop-c-preserved c =
    let p = c.loop-c in
    let g = graph_in c.args.entries.now c.args.children.now in
    let more = known (goal.at.loop-c-preserved c).At-loop-c c.loop-c-test.true in
    record {
      most = omega (arith, c.add_capped-size.ensures);
      left = rw c.add_capped-size.ensures (size_next g p.c-index c.children_of-kids.result.now p.size _ c.loop-c-test.true more) ∙ p.invariant.left;
    }

pub returns : goal.returns
unfolding capped_size graph_in
returns c =
    let p = c.loop-c in
    let es : List ℕ = c.args.entries.now in
    let cs : List ℕ = c.args.children.now in
    let g = graph_in es cs in
    sym (size_done g p.c-index c.children_of-kids.result.now p.size c.loop-c-test.false p.invariant.most)
    ∙ p.invariant.left
    ∙ ap (λ (l : List ℕ). min size_cap (1 + tot (normal_count g) l)) c.children_of-kids.ensures
    ∙ ap (min size_cap) (sym (count_own g _ c.args.e.0 (sections_fall es cs _ c.requires.ok) c.requires.there))
