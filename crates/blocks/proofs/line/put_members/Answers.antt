-- `put_members` meets its contract. The invariant: the members at the first places, `done` of them, are put from `at` on.
-- The block lies behind all of them, so its members are read as they were.
use mathlib.Core.Path.{◌≡◌, sym, ◌∙◌}
use Prim.Native.Nat.{◌+◌, ◌<◌}
use native.Mathlib.Omega.{arith}
use lib.Seq.{get_or-drop}
use lib.ListN.{length, get_or, drop}
use Rattle.laws.specs.Lists.{all_at}
use Rattle.blocks.proofs.Placing.{placed_more, placed_past, members_more}
use Rattle.blocks.proofs.line.put_members.Goals as goal

pub loop-done-preserved : goal.loop-done-preserved
loop-done-preserved c =
    let p = c.loop-done in
    let a = c.args in
    let q = get_or a.places.now p.done 0 in
    let there : a.start + q < length a.work.now = all_at _ a.places.now 0 c.requires.all p.done (omega arith) in
    let x = get_or p.work (a.start + q) 0 in
    let is : x ≡ get_or (drop a.start a.work.now) q 0 =
    placed_past _ a.work.now p.work a.at (a.at + p.done) (omega arith) p.invariant (a.start + q) (omega arith) ∙ sym (get_or-drop a.start a.work.now q 0) in
    let e : a.at + p.done + 1 ≡ a.at + (p.done + 1) = omega arith in
    rw (members_more (drop a.start a.work.now) a.places.now p.done (omega arith), ← is, ← e) (placed_more _ a.work.now p.work a.at (a.at + p.done) x (omega arith) p.invariant)
