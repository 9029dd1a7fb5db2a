-- `put_labels` meets its contract. The labels of the statements of the list before the turn's are laid.
-- The list is a part of the working slice.
use Prim.Native.Nat.{◌+◌, ◌-◌}
use native.Mathlib.Omega.{arith}
use Rattle.compressed.proofs.LabelLaws.{order_length, labels_none, labels_more, labels_all}
use Rattle.compressed.proofs.labels.put_labels.Goals as goal

pub loop-k-init : goal.loop-k-init
loop-k-init c = labels_none _ _ _ _ _ _

pub loop-k-preserved : goal.loop-k-preserved
loop-k-preserved c = labels_more _ _ _ _ _ (omega arith) c.loop-k.invariant c.put_label-laid.ensures

pub returns : goal.returns
returns c =
    let ready = c.requires.near_labels.1 in
    let p = c.args.places in
    let listed = order_length _ _ p _ ready (p.list + p.listed - p.list) (omega arith) in
    labels_all _ _ _ _ ready (omega arith) (omega (arith, listed)) c.loop-k.invariant (omega (arith, listed))
