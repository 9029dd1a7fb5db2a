-- `store::find_entry` meets its contract. The invariant: the first match among the entries still to come is the first of all.
-- Assumes nothing.
use mathlib.Core.Path.{◌≡◌, sym, ◌∙◌}
use Prim.Native.Nat.{◌-◌, ◌/◌}
use native.Mathlib.Omega.{arith}
use lib.ListN.{length}
use Rattle.store.proofs.LookupLaws.{first_end, first_here, first_next, entry_here, entry_none}
use Rattle.store.specs.Store.{is_entry, lookup_all}
use Rattle.store.proofs.lookup.find_entry.Goals as goal

pub loop-e-init : goal.loop-e-init
loop-e-init c =
    let a = c.args in
    let all-of-them : length a.built.now / 3 - 0 ≡ length a.built.now / 3 = omega arith in
    rw all-of-them (lookup_all a.built.now a.kids.now a.statement.0 a.wanted.now)

pub returns-then-is_entry : goal.returns-then-is_entry
returns-then-is_entry c =
    let p = c.loop-e in
    let a = c.args in
    entry_here _ _ _ c.loop-e-test.true
    (sym (first_here (is_entry a.built.now a.kids.now a.statement.0 a.wanted.now) p.e (length a.built.now / 3) (omega arith) (sym c.is_entry.ensures ∙ c.if-is_entry.true)) ∙ p.invariant)

pub loop-e-preserved : goal.loop-e-preserved
loop-e-preserved c =
    let p = c.loop-e in
    let a = c.args in
    first_next (is_entry a.built.now a.kids.now a.statement.0 a.wanted.now) p.e (length a.built.now / 3) (omega arith) (sym c.is_entry.ensures ∙ c.if-is_entry.false) ∙ p.invariant

pub returns : goal.returns
returns c =
    let p = c.loop-e in
    let a = c.args in
    entry_none _ _ (omega (arith, first_end (is_entry a.built.now a.kids.now a.statement.0 a.wanted.now) p.e (length a.built.now / 3) (omega arith), p.invariant))
