-- `plain_children` and `plain_grandchildren` meet their contract, which is the same: whatever walk the words held, they hold it after the children.
-- The measure is the entry's number, which is less at each child. What their loops keep, and that a turn keeps it, is said once, in TurnLaws.
use mathlib.Core.Path.{refl, sym, ap, ap₂, subst, ◌∙◌}
use mathlib.Core.Bool.{false}
use mathlib.Core.List.{List}
use Prim.Native.Nat.{ℕ, ◌<◌}
use native.Mathlib.Omega.{arith}
use borrow.Author.Tests.{ltb-true, ltb-false}
use lib.ListN.{length}
use Rattle.defs.specs.Table.{entry_words, child_words}
use Rattle.walk.specs.Packed.{Held, held, Ready}
use Rattle.walk.specs.Children.{ChildrenOf}
use Rattle.packing.proofs.TurnLaws.{Owner, kept_first, child_entry, word_in, below, child_ready, child_room, turn_new, single_room, turn_single}
use Rattle.packing.proofs.plain.+plain.Goals.{plain_children-then-lists_children, plain_children-else-lists_children, plain_grandchildren-then-lists_children, plain_grandchildren-else-lists_children}
use Rattle.packing.proofs.plain.+plain.Goals as goal

-- the entry owns the loop
owner : {w : List ℕ} {h₀ : Held} {first until parent e : ℕ} → Ready (entry_words w) (child_words w) false e h₀ → ChildrenOf w false e first until parent → Owner w false h₀ first until 0 e
owner ready children = record { ready = ready; children = record { first_is = children.first_is; until_is = children.until_is; parent_is = refl } }

-- ---- `plain_children`

pub plain_children-loop-i-init : goal.plain_children-loop-i-init
plain_children-loop-i-init t c = kept_first _ _ _ _ _ _ (omega (arith, c.children_of-own.ensures.until_is)) _ refl

pub plain_children-statement_in-statement-requires : goal.plain_children-statement_in-statement-requires
plain_children-statement_in-statement-requires t c = child_entry _ _ _ _ _ _ _ _ _ c.loop-i.invariant c.loop-i-test.true _ (owner c.requires.ready c.children_of-own.ensures) _ c.child_in-c.ensures c.requires.header_ok

pub plain_children-lists_children-requires : goal.plain_children-lists_children-requires
plain_children-lists_children-requires t c = record { entry_of = child_entry _ _ _ _ _ _ _ _ _ c.loop-i.invariant c.loop-i-test.true _ (owner c.requires.ready c.children_of-own.ensures) _ c.child_in-c.ensures c.requires.header_ok; e_in_bounds = word_in _ _ _ _ _ _ _ _ _ c.loop-i.invariant c.loop-i-test.true _ (owner c.requires.ready c.children_of-own.ensures) _ c.child_in-c.ensures }

pub plain_children-plain_grandchildren-end-requires : goal.plain_children-plain_grandchildren-end-requires
plain_children-plain_grandchildren-end-requires t c = (
  subst (λ (n : ℕ). c.child_in-c.result.0 < n) c.decreases (below _ _ _ _ _ _ _ _ _ c.loop-i.invariant c.loop-i-test.true _ (owner c.requires.ready c.children_of-own.ensures) _ c.child_in-c.ensures),
  (c.requires.header_ok, child_ready _ _ _ _ _ _ _ _ _ c.loop-i.invariant c.loop-i-test.true _ (owner c.requires.ready c.children_of-own.ensures) _ c.child_in-c.ensures (ltb-true _ _ (sym c.lists_children.ensures ∙ c.if-lists_children.true))),
)

pub plain_children-finish-end-requires : goal.plain_children-finish-end-requires
plain_children-finish-end-requires t c = child_room _ _ _ _ _ _ _ _ _ c.loop-i.invariant c.loop-i-test.true _ (owner c.requires.ready c.children_of-own.ensures) _ c.child_in-c.ensures (ltb-true _ _ (sym c.lists_children.ensures ∙ c.if-lists_children.true)) _ c.plain_grandchildren-end.auto.work c.plain_grandchildren-end.ensures

pub plain_children-list_single-end-requires : goal.plain_children-list_single-end-requires
plain_children-list_single-end-requires t c = single_room _ _ _ _ _ _ _ _ _ c.loop-i.invariant c.loop-i-test.true _ (owner c.requires.ready c.children_of-own.ensures) _ c.child_in-c.ensures (ltb-false _ _ (sym c.lists_children.ensures ∙ c.if-lists_children.false))

pub plain_children-loop-i-preserved : goal.plain_children-loop-i-preserved
plain_children-loop-i-preserved t c = elim c.if-lists_children.branch [
  | plain_children-then-lists_children w ↦
      turn_new _ _ _ _ _ _ _ _ _ c.loop-i.invariant c.loop-i-test.true _ (owner c.requires.ready c.children_of-own.ensures) _ c.child_in-c.ensures (ltb-true _ _ (sym c.lists_children.ensures ∙ w.if-lists_children.true)) _ w.plain_grandchildren-end.auto.work w.plain_grandchildren-end.ensures
      _ (ap length w.work-is ∙ w.finish-end.auto.work) _ c.statement_in-statement.ensures (ap₂ held w.work-is w.end-is ∙ w.finish-end.ensures) _ refl
  | plain_children-else-lists_children w ↦
      turn_single _ _ _ _ _ _ _ _ _ c.loop-i.invariant c.loop-i-test.true _ (owner c.requires.ready c.children_of-own.ensures) _ c.child_in-c.ensures (ltb-false _ _ (sym c.lists_children.ensures ∙ w.if-lists_children.false))
      _ (ap length w.work-is ∙ w.list_single-end.auto.work) _ c.statement_in-statement.ensures (ap₂ held w.work-is w.end-is ∙ w.list_single-end.ensures) _ refl
]

-- ---- `plain_grandchildren`

pub plain_grandchildren-loop-i-init : goal.plain_grandchildren-loop-i-init
plain_grandchildren-loop-i-init t c = kept_first _ _ _ _ _ _ (omega (arith, c.children_of-own.ensures.until_is)) _ refl

pub plain_grandchildren-statement_in-statement-requires : goal.plain_grandchildren-statement_in-statement-requires
plain_grandchildren-statement_in-statement-requires t c = child_entry _ _ _ _ _ _ _ _ _ c.loop-i.invariant c.loop-i-test.true _ (owner c.requires.ready c.children_of-own.ensures) _ c.child_in-c.ensures c.requires.header_ok

pub plain_grandchildren-lists_children-requires : goal.plain_grandchildren-lists_children-requires
plain_grandchildren-lists_children-requires t c = record { entry_of = child_entry _ _ _ _ _ _ _ _ _ c.loop-i.invariant c.loop-i-test.true _ (owner c.requires.ready c.children_of-own.ensures) _ c.child_in-c.ensures c.requires.header_ok; e_in_bounds = word_in _ _ _ _ _ _ _ _ _ c.loop-i.invariant c.loop-i-test.true _ (owner c.requires.ready c.children_of-own.ensures) _ c.child_in-c.ensures }

pub plain_grandchildren-plain_children-end-requires : goal.plain_grandchildren-plain_children-end-requires
plain_grandchildren-plain_children-end-requires t c = (
  subst (λ (n : ℕ). c.child_in-c.result.0 < n) c.decreases (below _ _ _ _ _ _ _ _ _ c.loop-i.invariant c.loop-i-test.true _ (owner c.requires.ready c.children_of-own.ensures) _ c.child_in-c.ensures),
  (c.requires.header_ok, child_ready _ _ _ _ _ _ _ _ _ c.loop-i.invariant c.loop-i-test.true _ (owner c.requires.ready c.children_of-own.ensures) _ c.child_in-c.ensures (ltb-true _ _ (sym c.lists_children.ensures ∙ c.if-lists_children.true))),
)

pub plain_grandchildren-finish-end-requires : goal.plain_grandchildren-finish-end-requires
plain_grandchildren-finish-end-requires t c = child_room _ _ _ _ _ _ _ _ _ c.loop-i.invariant c.loop-i-test.true _ (owner c.requires.ready c.children_of-own.ensures) _ c.child_in-c.ensures (ltb-true _ _ (sym c.lists_children.ensures ∙ c.if-lists_children.true)) _ c.plain_children-end.auto.work c.plain_children-end.ensures

pub plain_grandchildren-list_single-end-requires : goal.plain_grandchildren-list_single-end-requires
plain_grandchildren-list_single-end-requires t c = single_room _ _ _ _ _ _ _ _ _ c.loop-i.invariant c.loop-i-test.true _ (owner c.requires.ready c.children_of-own.ensures) _ c.child_in-c.ensures (ltb-false _ _ (sym c.lists_children.ensures ∙ c.if-lists_children.false))

pub plain_grandchildren-loop-i-preserved : goal.plain_grandchildren-loop-i-preserved
plain_grandchildren-loop-i-preserved t c = elim c.if-lists_children.branch [
  | plain_grandchildren-then-lists_children w ↦
      turn_new _ _ _ _ _ _ _ _ _ c.loop-i.invariant c.loop-i-test.true _ (owner c.requires.ready c.children_of-own.ensures) _ c.child_in-c.ensures (ltb-true _ _ (sym c.lists_children.ensures ∙ w.if-lists_children.true)) _ w.plain_children-end.auto.work w.plain_children-end.ensures
      _ (ap length w.work-is ∙ w.finish-end.auto.work) _ c.statement_in-statement.ensures (ap₂ held w.work-is w.end-is ∙ w.finish-end.ensures) _ refl
  | plain_grandchildren-else-lists_children w ↦
      turn_single _ _ _ _ _ _ _ _ _ c.loop-i.invariant c.loop-i-test.true _ (owner c.requires.ready c.children_of-own.ensures) _ c.child_in-c.ensures (ltb-false _ _ (sym c.lists_children.ensures ∙ w.if-lists_children.false))
      _ (ap length w.work-is ∙ w.list_single-end.auto.work) _ c.statement_in-statement.ensures (ap₂ held w.work-is w.end-is ∙ w.list_single-end.ensures) _ refl
]
