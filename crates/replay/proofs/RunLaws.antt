-- The run over all steps: the steps still to come, from where the replay stands, give what all steps gave at the start.
-- Assumes nothing.
use mathlib.Core.Path.{◌≡◌, refl, sym, ap, ◌∙◌}
use mathlib.Core.List.{List, []}
use Prim.Native.Nat.{ℕ, ◌+◌, ◌*◌, ◌≤◌, ◌<◌}
use native.Mathlib.Omega.{arith}
use lib.ListN.{length, take, drop_of_length-le}
use lib.Seq.{length-take-le}
use Rattle.laws.specs.Lists.{eqb_yes, eqb_no}
use Rattle.defs.specs.Steps.{Step, step_size}
use Rattle.defs.specs.Replay.{Turn, steps_in, fresh, and_then, one_step, all_steps, replayed}
use Rattle.store.specs.Places.{StoreOk}
use Rattle.replay.specs.declared.turn.State.{State}
use Rattle.std.specs.Prelude.{Result, Ok, Err}
use Rattle.answers.specs.declared.refusals.Refusal.{Refusal}
use Rattle.answers.specs.declared.refusals.Refusal.TheVariants.{BadStack}
use Rattle.replay.specs.Steps.{step_at, steps_from, steps_next}
use Rattle.replay.specs.Turns.{standing, turn_of, Grew, Grown, Ended}

pub record Running (w steps : List ℕ) (half : ℕ) (work₀ es₀ cs₀ work es cs : List ℕ) (s : State) (k : ℕ) : Type 0 where
  pub so_far : k ≤ half
  pub same_work : length work ≡ length work₀
  pub same_es : length es ≡ length es₀
  pub same_cs : length cs ≡ length cs₀
  pub store_ok : StoreOk es cs s.store
  pub low : s.height ≤ k
  pub few : s.marks ≤ k
  pub to_come : all_steps w (length es₀) (length cs₀) (steps_from steps k) (standing half work es cs s) ≡ replayed w (length es₀) (length cs₀) (steps_in steps)

pub run_starts : (w steps : List ℕ) (half : ℕ) (work es cs : List ℕ)
    → Running w steps half work es cs work es cs (record { store = record { built = 0; kids = 0 }; height = 0; marks = 0 }) 0
unfolding steps_from replayed fresh
run_starts w steps half work es cs =
    record {
      so_far = omega arith;
      same_work = refl;
      same_es = refl;
      same_cs = refl;
      store_ok = record { built_room = omega arith; kids_room = omega arith; whole = refl; few_kids = omega arith; ok = record { few = omega arith; inside = λ e h. absurd (omega arith) } };
      low = omega arith;
      few = omega arith;
      to_come = refl;
    }

module _ (w steps : List ℕ) (half : ℕ) (work₀ es₀ cs₀ work es cs : List ℕ) (s : State) (k : ℕ) (run : Running w steps half work₀ es₀ cs₀ work es cs s k) where
  abbrev answer : Turn
  answer = replayed w (length es₀) (length cs₀) (steps_in steps)

  module _ (long : step_size * half ≡ length steps) (more : k < half) (work' es' cs' : List ℕ) (turn : Result State Refusal)
      (one : turn_of half work' es' cs' turn ≡ one_step w (length es) (length cs) (standing half work es cs s) (step_at steps k))
      (grown : Grown s es' cs' turn) where
    next_step : answer ≡ and_then (turn_of half work' es' cs' turn) (λ next. all_steps w (length es₀) (length cs₀) (steps_from steps (k + 1)) next)
    unfolding all_steps
    next_step =
        sym run.to_come
        ∙ ap (λ (ts : List Step). all_steps w (length es₀) (length cs₀) ts (standing half work es cs s)) (steps_next steps k (omega arith))
        ∙ rw (one, run.same_es, run.same_cs)

    pub run_refused : (r : Refusal) → turn ≡ Err r → (turn_of half work' es' cs' (Err r) ≡ answer) × Ended es' cs' (Err r)
    unfolding turn_of and_then Ended
    run_refused r h = (sym (next_step ∙ rw h), tt)

    pub run_goes : (next : State) → turn ≡ Ok next → length work' ≡ length work → length es' ≡ length es → length cs' ≡ length cs
        → Running w steps half work₀ es₀ cs₀ work' es' cs' next (k + 1)
    unfolding turn_of and_then Grown
    run_goes next h kw ke kc =
        let grew : Grew s es' cs' next = rw h at grown in
        record {
          so_far = omega arith;
          same_work = kw ∙ run.same_work;
          same_es = ke ∙ run.same_es;
          same_cs = kc ∙ run.same_cs;
          store_ok = grew.store_ok;
          low = omega (arith, grew.height_most, run.low);
          few = omega (arith, grew.marks_most, run.few);
          to_come = sym (next_step ∙ rw h);
        }

  module _ (long : step_size * half ≡ length steps) (room : half + half ≤ length work₀) (end : half ≤ k) where
    no_more : steps_from steps k ≡ []
    unfolding steps_from steps_in
    no_more = rw (drop_of_length-le steps {i = step_size * k} (omega arith))

    stack_long : length (take s.height work) ≡ s.height
    stack_long = length-take-le s.height work (omega (arith, run.low, run.so_far, run.same_work))

    pub run_18 : ¬ (s.height ≡ 1) → (turn_of half work es cs (Err BadStack) ≡ answer) × Ended es cs (Err BadStack)
    unfolding turn_of all_steps Ended
    run_18 h = (sym (sym run.to_come ∙ rw (no_more, stack_long, eqb_no s.height 1 h)), tt)

    pub run_done : s.height ≡ 1 → (turn_of half work es cs (Ok s) ≡ answer) × Ended es cs (Ok s)
    unfolding turn_of all_steps Ended
    run_done h = (sym (sym run.to_come ∙ rw (no_more, stack_long, eqb_yes s.height 1 h)), run.store_ok)
