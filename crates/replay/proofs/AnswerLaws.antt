-- The endings of a replay: refused before the steps, refused at a step, done.
-- Assumes nothing.
use mathlib.Core.Path.{◌≡◌, sym, ap, ◌∙◌}
use mathlib.Core.List.{List, [], ◌∷◌, append-nil}
use Prim.Native.Nat.{ℕ, ◌-◌, ◌*◌, ◌/◌, ◌%◌, ◌≤◌, ◌<◌}
use native.Mathlib.Nat.{le_refl}
use native.Mathlib.Omega.{arith}
use lib.ListN.{length, take, drop, replicate, length-drop, drop_of_length-le}
use lib.Seq.{length-take-le}
use borrow.Author.Tests.{lt-ltb, le-ltb}
use borrow.Rule.Slice.PartMut.{mid_of, put_mid, mid_len}
use Rattle.laws.specs.Tools.{zeroed, over_zero}
use Rattle.laws.specs.Lists.{eqb_yes, eqb_no}
use Rattle.defs.specs.Check.{first_of, table_refusal}
use Rattle.defs.specs.Outcome.{answer_two, Outcome}
use Rattle.defs.specs.Steps.{step_size}
use Rattle.defs.specs.Replay.{Turn, refused, going, steps_in, replayed, replay_first, unchanged, settled, replay_outcome}
use Rattle.defs.specs.OutcomeLaws.{else_refused, else_good}
use Rattle.defs.specs.Laws.{good}
use Rattle.defs.specs.Checked.{header}
use Rattle.defs.specs.Sections.{hyps_ok}
use Rattle.store.specs.Places.{StoreOk}
use Rattle.replay.specs.declared.turn.State.{State}
use Rattle.std.specs.Prelude.{Result, Ok, Err}
use Rattle.answers.specs.declared.refusals.Refusal.{Refusal}
use Rattle.answers.specs.Refused.{refusal_number, refusal_some}
use Rattle.replay.specs.Turns.{Readable, turn_of, Ended}

-- ---- the outputs after the steps

pub ended_store : (es cs : List ℕ) (turn : Result State Refusal) (s : State) → turn ≡ Ok s → Ended es cs turn → StoreOk es cs s.store
unfolding Ended
ended_store es cs turn s h e = rw h at e

-- a slice whose part from b on was zeroed
tail_zero : (b : ℕ) (xs ys : List ℕ) → b ≤ length xs → ys ≡ replicate (length (mid_of b (length xs - b) xs)) 0
    → put_mid b (length xs - b) xs ys ≡ over_zero (take b xs) xs
tail_zero b xs ys h z =
    let none : drop (length xs - b) (drop b xs) ≡ [] = drop_of_length-le (drop b xs) {i = length xs - b} (omega (arith, length-drop b xs)) in
    rw (z, mid_len b (length xs) xs (le_refl (length xs)), none, append-nil, length-take-le b xs h)

module _ (es cs : List ℕ) (turn : Result State Refusal) (half : ℕ) (stack work : List ℕ) where
  abbrev after : Turn
  after = turn_of half stack es cs turn

  pub settle_refused : (r : Refusal) (es' cs' : List ℕ) → turn ≡ Err r → es' ≡ replicate (length es) 0 → cs' ≡ replicate (length cs) 0
      → answer_two (refusal_number r) 0 0 (zeroed work ∷ []) es' cs' ≡ settled work es cs after
  unfolding turn_of settled
  settle_refused r es' cs' h ze zc = rw (h, ze, zc)

  pub settle_done : (s : State) (ys zs : List ℕ) → turn ≡ Ok s → StoreOk es cs s.store
      → ys ≡ replicate (length (mid_of s.store.built (length es - s.store.built) es)) 0
      → zs ≡ replicate (length (mid_of s.store.kids (length cs - s.store.kids) cs)) 0
      → answer_two 0 s.store.built s.store.kids (zeroed work ∷ []) (put_mid s.store.built (length es - s.store.built) es ys) (put_mid s.store.kids (length cs - s.store.kids) cs zs)
      ≡ settled work es cs after
  unfolding turn_of settled
  settle_done s ys zs h ok ze zc =
      rw (h, tail_zero s.store.built es ys ok.built_room ze, tail_zero s.store.kids cs zs ok.kids_room zc, length-take-le s.store.built es ok.built_room, length-take-le s.store.kids cs ok.kids_room)

-- only the lengths of the outputs matter
settled_same : (work es es' cs cs' : List ℕ) (turn : Turn) → length es' ≡ length es → length cs' ≡ length cs → settled work es' cs' turn ≡ settled work es cs turn
unfolding settled
settled_same work es es' cs cs' (refused k) e f = rw (e, f)
settled_same work es es' cs cs' (going r) e f = rw (e, f)

-- ---- the tests before the steps

pub readable : (w b : List ℕ) → table_refusal w b ≡ 0 → Readable w
readable w b ok = record { header = header w (good w b ok).ok1; hyps = hyps_ok w b ok }

module _ (w b steps work es cs : List ℕ) where
  abbrev answer : Outcome
  answer = replay_outcome w b steps work es cs

  -- refused before the steps: nothing changes
  early : (k : ℕ) → replay_first w b steps work ≡ k → ¬ (k ≡ 0) → answer_two k 0 0 (work ∷ []) es cs ≡ answer
  unfolding replay_outcome unchanged
  early k h n = rw (h, eqb_no k 0 n)

  pub refused_table : (r : Refusal) → refusal_number r ≡ table_refusal w b → answer_two (refusal_number r) 0 0 (work ∷ []) es cs ≡ answer
  unfolding replay_first
  refused_table r is = early (refusal_number r) (else_refused (table_refusal w b) _ (λ z. refusal_some r (is ∙ z)) ∙ sym is) (refusal_some r)

  module _ (fine : table_refusal w b ≡ 0) where
    pub refused_16 : ¬ (length steps % step_size ≡ 0) → answer_two 16 0 0 (work ∷ []) es cs ≡ answer
    unfolding replay_first first_of
    refused_16 h = early 16 (else_good (table_refusal w b) _ fine ∙ rw (eqb_no (length steps % step_size) 0 h)) (λ z. omega arith)

    module _ (whole : length steps % step_size ≡ 0) where
      pub refused_14 : length work < 2 * (length steps / step_size) → answer_two 14 0 0 (work ∷ []) es cs ≡ answer
      unfolding replay_first first_of
      refused_14 h =
          early 14
          (else_good (table_refusal w b) _ fine ∙ rw (eqb_yes (length steps % step_size) 0 whole, lt-ltb (length work) (2 * (length steps / step_size)) h))
          (λ z. omega arith)

      -- the steps decide
      pub after_steps : 2 * (length steps / step_size) ≤ length work → (half : ℕ) (stack es₁ cs₁ : List ℕ) (turn : Result State Refusal)
          → turn_of half stack es₁ cs₁ turn ≡ replayed w (length es) (length cs) (steps_in steps)
          → length es₁ ≡ length es → length cs₁ ≡ length cs → (k first second : ℕ) (work' es' cs' : List ℕ) → work' ≡ zeroed work
          → answer_two k first second (zeroed work ∷ []) es' cs' ≡ settled work es₁ cs₁ (turn_of half stack es₁ cs₁ turn)
          → answer_two k first second (work' ∷ []) es' cs' ≡ answer
      unfolding replay_outcome replay_first first_of
      after_steps room half stack es₁ cs₁ turn ran le lc k first second work' es' cs' z end =
          rw (
            z,
            else_good (table_refusal w b) _ fine,
            eqb_yes (length steps % step_size) 0 whole,
            le-ltb (length work) (2 * (length steps / step_size)) room,
          )
          (end ∙ settled_same work es es₁ cs cs₁ (turn_of half stack es₁ cs₁ turn) le lc ∙ ap (settled work es cs) ran)
