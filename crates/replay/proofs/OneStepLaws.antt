-- One step over the slices is the step of the definition, by the returns of the code.
-- Assumes nothing.
use mathlib.Core.Path.{◌≡◌, sym, ap, ◌∙◌}
use mathlib.Core.Bool.{Bool, true, false, not}
use mathlib.Core.List.{List}
use Prim.Native.Nat.{ℕ, ◌+◌, ◌-◌, ◌≤◌, ◌<◌}
use native.Mathlib.Omega.{arith}
use lib.ListN.{length, get_or, take, drop, length-drop}
use lib.Seq.{length-take-le, get_or-take, get_or-drop}
use Rattle.defs.specs.Table.{word, statements}
use Rattle.defs.specs.Steps.{Step}
use Rattle.defs.specs.Replay.{Replay, Turn, malformed, one_step}
use Rattle.store.specs.Places.{StoreOk}
use Rattle.replay.specs.declared.turn.State.{State}
use Rattle.std.specs.Prelude.{Ok, Err}
use Rattle.answers.specs.declared.refusals.Refusal.TheVariants.{BadList}
use Rattle.replay.specs.Steps.{step_right, right_is}
use Rattle.replay.specs.Turns.{standing, turn_of, Grown, normal_turn, Referred}
use Rattle.replay.proofs.KindLaws.{right_reference, step_malformed, step_refers, step_normal}

module _ (w work es cs : List ℕ) (half : ℕ) (s : State) (room : half + half ≤ length work) (few : s.marks < half)
    (t t₀ : Step) (read : t ≡ t₀) (right : Bool) (told : right ≡ step_right (statements w) s.marks t) where
  abbrev from : Replay
  from = standing half work es cs s

  abbrev answer : Turn
  answer = one_step w (length es) (length cs) from t₀

  rules : malformed w from t ≡ not right
  rules =
      let marks : length (take s.marks (drop half work)) ≡ s.marks = length-take-le s.marks (drop half work) (omega (arith, length-drop half work)) in
      sym (right_is w from t) ∙ rw (marks, told)

  pub one_16 : right ≡ false → (turn_of half work es cs (Err BadList) ≡ answer) × Grown s es cs (Err BadList)
  unfolding turn_of Grown
  one_16 h = (step_malformed w (length es) (length cs) from t (rules ∙ rw h) ∙ ap (one_step w (length es) (length cs) from) read, tt)

  module _ (fine : right ≡ true) where
    -- the entry that a mark names stands in the second region
    named_at : ¬ (t.ref ≡ 0) → word work (half + (t.ref - 1)) ≡ get_or from.named (t.ref - 1) 0
    named_at h =
        let most : t.ref ≤ s.marks = right_reference (statements w) s.marks t (sym told ∙ fine) h in
        sym (get_or-take s.marks (drop half work) (t.ref - 1) 0 (omega arith) ∙ get_or-drop half work (t.ref - 1) 0)

    pub one_refer : ¬ (t.ref ≡ 0) → (work' : List ℕ) (next : State) → Referred t.ref t.mark half work work' s next → StoreOk es cs s.store
        → (turn_of half work' es cs (Ok next) ≡ answer) × Grown s es cs (Ok next)
    unfolding turn_of Grown
    one_refer h work' next went ok = (
      rw (went.store_is, went.height_is, went.push_is.stack_is, went.push_is.named_is, named_at h)
          (step_refers w (length es) (length cs) from t (rules ∙ rw fine) h ∙ ap (one_step w (length es) (length cs) from) read),
      record { store_ok = rw went.store_is ok; height_most = omega (arith, went.height_is); marks_most = went.push_is.few },
    )

    pub one_normal : t.ref ≡ 0 → (next : Turn) → next ≡ normal_turn w (length es) (length cs) from t.stmt t.mark → next ≡ answer
    one_normal h next went = went ∙ step_normal w (length es) (length cs) from t (rules ∙ rw fine) h ∙ ap (one_step w (length es) (length cs) from) read
