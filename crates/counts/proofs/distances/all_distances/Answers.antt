-- `counts::all_distances` meets its contract. The invariant: the pass over the entries still to come gives what the whole pass gave at the start.
-- An entry that is not reached would lower nothing, so the code skips it. Assumes nothing.
use mathlib.Core.Path.{subst, ◌≡◌, refl, sym, ◌∙◌}
use Prim.Native.Nat.{ℕ, ◌≤◌}
use native.Mathlib.Omega.{arith}
use lib.ListN.{length, length-set}
use Rattle.defs.specs.Sections.{EntriesOk}
use Rattle.defs.specs.Table.{max_entries}
use Rattle.counts.proofs.DistanceLaws.{descend_next, descend_skip, descend_done, distances_start}
use Rattle.counts.proofs.distances.all_distances.Goals.{At-loop-e}
use Rattle.counts.proofs.distances.all_distances.Goals as goal

-- there are as many distances as at the start, so few that an entry's number fits
long : (c : At-loop-e) → length c.loop-e.out ≡ length c.args.out.now
long c = omega (arith, simp length-set at c.loop-e.invariant.1.0, c.fill.ensures.len)

few : (c : At-loop-e) → length c.loop-e.out ≤ max_entries
few c = omega (arith, long c, c.requires.entries_ok.few)

pub loop-e-preserved-then-distance-lt-UNREACHED : goal.loop-e-preserved-then-distance-lt-UNREACHED
loop-e-preserved-then-distance-lt-UNREACHED c =
    let p = c.loop-e in
    let kept = c.hand_down.auto.out in (
      omega arith,
      (
        kept ∙ p.invariant.1.0,
        descend_next _ p.e p.out _ c.loop-e-test.true (omega arith) c.if-distance-lt-UNREACHED.true c.hand_down.ensures ∙ p.invariant.1.1,
      ),
    )

pub loop-e-preserved : goal.loop-e-preserved
loop-e-preserved c =
    let p = c.loop-e in (
      omega arith,
      (
        p.invariant.1.0,
        descend_skip _ p.e p.out c.loop-e-test.true (omega arith) c.if-distance-lt-UNREACHED.false (λ i. omega (arith, c.type_inv.out i)) ∙ p.invariant.1.1,
      ),
    )

pub returns : goal.returns
returns c =
    let p = c.loop-e in
    let fill = c.fill in
    sym (descend_done _ p.e p.out c.loop-e-test.false) ∙ p.invariant.1.1 ∙ distances_start _ _ c.requires.qed_in_bounds _ _ _ (omega arith) (fill.ensures.after (λ y e. e))
