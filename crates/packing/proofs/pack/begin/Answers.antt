-- The counts go where the entries' words stand, and the number of marks before them.
-- What they hold is the law `counted`.
use mathlib.Core.Path.{◌≡◌, ap, ◌∙◌}
use Prim.Native.Nat.{◌-◌}
use lib.ListN.{length}
use borrow.Rule.Slice.PartMut.{mid_of, mid_len}
use Rattle.counts.specs.Parents.{times_each}
use Rattle.packing.proofs.BeginLaws.{counted}
use Rattle.packing.proofs.pack.begin.Goals as goal

pub returns : goal.returns
returns c =
    let long : length (mid_of 1 (c.args.start - 1) c.args.work.now) ≡ c.args.start - 1 = mid_len 1 c.args.start c.args.work.now c.requires.fits in
    counted _ c.args.work.now _ _ c.requires.some c.requires.fits (c.count_parents.ensures ∙ ap (times_each c.args.children.now) long)
