-- The step of the definition, by its kind: a step that breaks a rule, a reference, a normal step.
-- Assumes nothing.
use mathlib.Core.Path.{◌≡◌, refl, sym, ap}
use mathlib.Core.Bool.{true, false}
use mathlib.Core.List.{List, [], ◌∷◌, ◌++◌}
use Prim.Native.Nat.{ℕ, ◌-◌, ◌≤◌, ◌<◌}
use native.Mathlib.Decide.{dec_lt}
use native.Mathlib.Omega.{arith}
use lib.ListN.{length, get_or, take, drop, length-append}
use lib.Seq.{get_or-append_seam}
use lib.Dec.{eqb, leb, ltb, leb→le, ltb→lt}
use mir.Facts.{and_yes}
use borrow.Author.Tests.{lt-ltb, le-ltb}
use Rattle.laws.specs.Tools.{pick}
use Rattle.laws.specs.Lists.{boole, T_of, of_T, eqb_yes, eqb_no}
use Rattle.laws.specs.Below.{each}
use Rattle.defs.specs.Table.{hyp_count}
use Rattle.defs.specs.Check.{first_of}
use Rattle.defs.specs.Steps.{Step}
use Rattle.defs.specs.Replay.{Replay, refused, going, malformed, stack_short, popped, left, lookup, no_room, normal_step, refer_step, name_top, after_step, one_step, built_count}
use Rattle.store.specs.Store.{holding, full, lookup_most}
use Rattle.store.specs.Places.{place}
use Rattle.replay.specs.Steps.{kind_right, step_right}
use Rattle.replay.specs.Turns.{pushed, after_place, normal_turn}

-- ---- what the rules give

module _ (s marks : ℕ) (t : Step) (right : step_right s marks t ≡ true) where
  right_kind : kind_right s marks t.ref t.stmt ≡ true
  unfolding step_right
  right_kind = of_T _ (each _ (T_of right)).1.0

  pub right_reference : ¬ (t.ref ≡ 0) → t.ref ≤ marks
  unfolding kind_right
  right_reference h = leb→le t.ref marks (and_yes (leb t.ref marks) (eqb t.stmt 0) (T_of (rw (eqb_no t.ref 0 h) at right_kind))).0

  pub right_statement : t.ref ≡ 0 → t.stmt < s
  unfolding kind_right
  right_statement h = ltb→lt t.stmt s (T_of (rw (eqb_yes t.ref 0 h) at right_kind))

-- ---- the step

-- the entry just pushed is the top of the stack
named_top : (t : Step) (built kids stack named : List ℕ) (e : ℕ)
    → name_top t (record { built = built; kids = kids; stack = stack ++ e ∷ []; named = named })
    ≡ record { built = built; kids = kids; stack = stack ++ e ∷ []; named = pick (eqb t.mark 0) named (named ++ e ∷ []) }
unfolding name_top
named_top t built kids stack named e =
    let last : length (stack ++ e ∷ []) - 1 ≡ length stack = omega (arith, length-append stack (e ∷ [])) in
    rw (last, get_or-append_seam stack e [] 0)

module _ (w : List ℕ) (rb rk : ℕ) (r : Replay) (t : Step) where
  pub step_malformed : malformed w r t ≡ true → refused 16 ≡ one_step w rb rk r t
  unfolding one_step first_of
  step_malformed h = rw h

  module _ (fine : malformed w r t ≡ false) where
    pub step_refers : ¬ (t.ref ≡ 0) → going (pushed r r.stack r.built r.kids (get_or r.named (t.ref - 1) 0) t.mark) ≡ one_step w rb rk r t
    unfolding one_step first_of stack_short no_room after_step refer_step
    step_refers h =
        rw (fine, eqb_no t.ref 0 h)
        (ap going (sym (named_top t r.built r.kids r.stack r.named (get_or r.named (t.ref - 1) 0))))

    -- a normal step: 18, or the entry's place and what follows from it
    lookup_holds : (k : ℕ) (cs : List ℕ) → lookup r k cs ≡ lookup (holding r.built r.kids) k cs
    unfolding lookup
    lookup_holds k cs = refl

    pub step_normal : t.ref ≡ 0 → normal_turn w rb rk r t.stmt t.mark ≡ one_step w rb rk r t
    unfolding one_step first_of stack_short no_room normal_turn popped left after_step normal_step place after_place full
    step_normal h =
        let rest : ℕ = length r.stack - hyp_count w t.stmt in
        let cs : List ℕ = drop rest r.stack in
        let e : ℕ = lookup (holding r.built r.kids) t.stmt cs in
        rw (fine, eqb_yes t.ref 0 h)
        (boole (ltb (length r.stack) (hyp_count w t.stmt))
        (λ short. rw short)
        (λ enough. rw (enough, lookup_holds t.stmt cs)
        (elim (dec_lt e (built_count r)) [
          | yes found ↦
              rw (eqb_no e (built_count r) (λ z. omega arith), lt-ltb e (built_count r) found)
              (ap going (sym (named_top t r.built r.kids (take rest r.stack) r.named e)))
          | no none ↦
              rw (eqb_yes e (built_count r) (omega (arith, lookup_most r.built r.kids t.stmt cs)), le-ltb e (built_count r) (omega arith))
              (boole (full rb rk (length r.built) (length r.kids) (length cs))
              (λ is-full. rw is-full)
              (λ room. rw room
              (ap going (sym (named_top t (r.built ++ t.stmt ∷ length r.kids ∷ length cs ∷ []) (r.kids ++ cs) (take rest r.stack) r.named e)))))
        ])))
