-- `explicit_children` and `explicit_grandchildren` meet their contract, which is the same: whatever walk the words held, they hold it after the children.
-- The measure is the entry's number, which is less at each child. What their loops keep, and that a turn keeps it, is said once, in TurnLaws.
use mathlib.Core.Path.{sym, ap, ap₂, subst, ◌∙◌}
use mathlib.Core.Bool.{true}
use mathlib.Core.List.{List}
use Prim.Native.Nat.{ℕ, ◌<◌}
use native.Mathlib.Omega.{arith}
use borrow.Author.Tests.{ltb-true, ltb-false}
use lib.ListN.{length}
use Rattle.defs.specs.Table.{entry_words, child_words}
use Rattle.walk.specs.Packed.{Held, held, Ready}
use Rattle.walk.specs.Children.{ChildrenOf}
use Rattle.packing.proofs.TurnLaws.{Owner, kept_first, child_entry, word_in, below, child_ready, child_room, turn_new, single_room, turn_single}
use Rattle.packing.proofs.explicit.+explicit.Goals.{explicit_children-then-lists_children, explicit_children-else-lists_children, explicit_grandchildren-then-lists_children, explicit_grandchildren-else-lists_children}
use Rattle.packing.proofs.explicit.+explicit.Goals as goal

-- the entry owns the loop
owner : {w : List ℕ} {h₀ : Held} {first until parent e : ℕ} → Ready (entry_words w) (child_words w) true e h₀ → ChildrenOf w true e first until parent → Owner w true h₀ first until parent e
owner ready children = record { ready = ready; children = children }

-- ---- `explicit_children`

pub explicit_children-loop-i-init : goal.explicit_children-loop-i-init
explicit_children-loop-i-init t c = kept_first _ _ _ _ _ _ (omega (arith, c.children_of-own.ensures.until_is)) _ (omega arith)

pub explicit_children-statement_in-statement-requires : goal.explicit_children-statement_in-statement-requires
explicit_children-statement_in-statement-requires t c = child_entry _ _ _ _ _ _ _ _ _ c.loop-i.invariant c.loop-i-test.true _ (owner c.requires.ready c.children_of-own.ensures) _ c.child_in-c.ensures c.requires.header_ok

pub explicit_children-lists_children-requires : goal.explicit_children-lists_children-requires
explicit_children-lists_children-requires t c = record { entry_of = child_entry _ _ _ _ _ _ _ _ _ c.loop-i.invariant c.loop-i-test.true _ (owner c.requires.ready c.children_of-own.ensures) _ c.child_in-c.ensures c.requires.header_ok; e_in_bounds = word_in _ _ _ _ _ _ _ _ _ c.loop-i.invariant c.loop-i-test.true _ (owner c.requires.ready c.children_of-own.ensures) _ c.child_in-c.ensures }

pub explicit_children-explicit_grandchildren-end-requires : goal.explicit_children-explicit_grandchildren-end-requires
explicit_children-explicit_grandchildren-end-requires t c = (
  subst (λ (n : ℕ). c.child_in-c.result.0 < n) c.decreases (below _ _ _ _ _ _ _ _ _ c.loop-i.invariant c.loop-i-test.true _ (owner c.requires.ready c.children_of-own.ensures) _ c.child_in-c.ensures),
  (c.requires.header_ok, child_ready _ _ _ _ _ _ _ _ _ c.loop-i.invariant c.loop-i-test.true _ (owner c.requires.ready c.children_of-own.ensures) _ c.child_in-c.ensures (ltb-true _ _ (sym c.lists_children.ensures ∙ c.if-lists_children.true))),
)

pub explicit_children-finish-end-requires : goal.explicit_children-finish-end-requires
explicit_children-finish-end-requires t c = child_room _ _ _ _ _ _ _ _ _ c.loop-i.invariant c.loop-i-test.true _ (owner c.requires.ready c.children_of-own.ensures) _ c.child_in-c.ensures (ltb-true _ _ (sym c.lists_children.ensures ∙ c.if-lists_children.true)) _ c.explicit_grandchildren-end.auto.work c.explicit_grandchildren-end.ensures

pub explicit_children-list_single-end-requires : goal.explicit_children-list_single-end-requires
explicit_children-list_single-end-requires t c = single_room _ _ _ _ _ _ _ _ _ c.loop-i.invariant c.loop-i-test.true _ (owner c.requires.ready c.children_of-own.ensures) _ c.child_in-c.ensures (ltb-false _ _ (sym c.lists_children.ensures ∙ c.if-lists_children.false))

pub explicit_children-loop-i-preserved : goal.explicit_children-loop-i-preserved
explicit_children-loop-i-preserved t c = elim c.if-lists_children.branch [
  | explicit_children-then-lists_children w ↦
      turn_new _ _ _ _ _ _ _ _ _ c.loop-i.invariant c.loop-i-test.true _ (owner c.requires.ready c.children_of-own.ensures) _ c.child_in-c.ensures (ltb-true _ _ (sym c.lists_children.ensures ∙ w.if-lists_children.true)) _ w.explicit_grandchildren-end.auto.work w.explicit_grandchildren-end.ensures
      _ (ap length w.work-is ∙ w.finish-end.auto.work) _ c.statement_in-statement.ensures (ap₂ held w.work-is w.end-is ∙ w.finish-end.ensures) _ (omega (arith, c.loop-i.invariant.low))
  | explicit_children-else-lists_children w ↦
      turn_single _ _ _ _ _ _ _ _ _ c.loop-i.invariant c.loop-i-test.true _ (owner c.requires.ready c.children_of-own.ensures) _ c.child_in-c.ensures (ltb-false _ _ (sym c.lists_children.ensures ∙ w.if-lists_children.false))
      _ (ap length w.work-is ∙ w.list_single-end.auto.work) _ c.statement_in-statement.ensures (ap₂ held w.work-is w.end-is ∙ w.list_single-end.ensures) _ (omega (arith, c.loop-i.invariant.low))
]

-- ---- `explicit_grandchildren`

pub explicit_grandchildren-loop-i-init : goal.explicit_grandchildren-loop-i-init
explicit_grandchildren-loop-i-init t c = kept_first _ _ _ _ _ _ (omega (arith, c.children_of-own.ensures.until_is)) _ (omega arith)

pub explicit_grandchildren-statement_in-statement-requires : goal.explicit_grandchildren-statement_in-statement-requires
explicit_grandchildren-statement_in-statement-requires t c = child_entry _ _ _ _ _ _ _ _ _ c.loop-i.invariant c.loop-i-test.true _ (owner c.requires.ready c.children_of-own.ensures) _ c.child_in-c.ensures c.requires.header_ok

pub explicit_grandchildren-lists_children-requires : goal.explicit_grandchildren-lists_children-requires
explicit_grandchildren-lists_children-requires t c = record { entry_of = child_entry _ _ _ _ _ _ _ _ _ c.loop-i.invariant c.loop-i-test.true _ (owner c.requires.ready c.children_of-own.ensures) _ c.child_in-c.ensures c.requires.header_ok; e_in_bounds = word_in _ _ _ _ _ _ _ _ _ c.loop-i.invariant c.loop-i-test.true _ (owner c.requires.ready c.children_of-own.ensures) _ c.child_in-c.ensures }

pub explicit_grandchildren-explicit_children-end-requires : goal.explicit_grandchildren-explicit_children-end-requires
explicit_grandchildren-explicit_children-end-requires t c = (
  subst (λ (n : ℕ). c.child_in-c.result.0 < n) c.decreases (below _ _ _ _ _ _ _ _ _ c.loop-i.invariant c.loop-i-test.true _ (owner c.requires.ready c.children_of-own.ensures) _ c.child_in-c.ensures),
  (c.requires.header_ok, child_ready _ _ _ _ _ _ _ _ _ c.loop-i.invariant c.loop-i-test.true _ (owner c.requires.ready c.children_of-own.ensures) _ c.child_in-c.ensures (ltb-true _ _ (sym c.lists_children.ensures ∙ c.if-lists_children.true))),
)

pub explicit_grandchildren-finish-end-requires : goal.explicit_grandchildren-finish-end-requires
explicit_grandchildren-finish-end-requires t c = child_room _ _ _ _ _ _ _ _ _ c.loop-i.invariant c.loop-i-test.true _ (owner c.requires.ready c.children_of-own.ensures) _ c.child_in-c.ensures (ltb-true _ _ (sym c.lists_children.ensures ∙ c.if-lists_children.true)) _ c.explicit_children-end.auto.work c.explicit_children-end.ensures

pub explicit_grandchildren-list_single-end-requires : goal.explicit_grandchildren-list_single-end-requires
explicit_grandchildren-list_single-end-requires t c = single_room _ _ _ _ _ _ _ _ _ c.loop-i.invariant c.loop-i-test.true _ (owner c.requires.ready c.children_of-own.ensures) _ c.child_in-c.ensures (ltb-false _ _ (sym c.lists_children.ensures ∙ c.if-lists_children.false))

pub explicit_grandchildren-loop-i-preserved : goal.explicit_grandchildren-loop-i-preserved
explicit_grandchildren-loop-i-preserved t c = elim c.if-lists_children.branch [
  | explicit_grandchildren-then-lists_children w ↦
      turn_new _ _ _ _ _ _ _ _ _ c.loop-i.invariant c.loop-i-test.true _ (owner c.requires.ready c.children_of-own.ensures) _ c.child_in-c.ensures (ltb-true _ _ (sym c.lists_children.ensures ∙ w.if-lists_children.true)) _ w.explicit_children-end.auto.work w.explicit_children-end.ensures
      _ (ap length w.work-is ∙ w.finish-end.auto.work) _ c.statement_in-statement.ensures (ap₂ held w.work-is w.end-is ∙ w.finish-end.ensures) _ (omega (arith, c.loop-i.invariant.low))
  | explicit_grandchildren-else-lists_children w ↦
      turn_single _ _ _ _ _ _ _ _ _ c.loop-i.invariant c.loop-i-test.true _ (owner c.requires.ready c.children_of-own.ensures) _ c.child_in-c.ensures (ltb-false _ _ (sym c.lists_children.ensures ∙ w.if-lists_children.false))
      _ (ap length w.work-is ∙ w.list_single-end.auto.work) _ c.statement_in-statement.ensures (ap₂ held w.work-is w.end-is ∙ w.list_single-end.ensures) _ (omega (arith, c.loop-i.invariant.low))
]
