-- The steps that a slice holds, one by one, and the rules of a step: module Replay of crate defs, as code reads and tests them.
use Rattle.std.specs.Prelude.{◌≡◌, refl, Bool, not, ◌&&◌, ◌||◌, List, [], ◌∷◌, ℕ, suc, ◌+◌, ◌*◌, ◌≤◌, length, drop, eqb, leb, ltb}
use Rattle.std.proofs.Common.{arith, drop-cons}
use Rattle.laws.specs.Tools.{pick, all_of}
use Rattle.defs.specs.Table.{word, statements}
use Rattle.defs.specs.Steps.{Step, step_size}
use Rattle.defs.specs.Replay.{Replay, steps_in, step_rules, malformed}
use Rattle.replay.specs.declared.steps.Step as code

-- a step read by the code
abbrev pub step_of : code.Step → Step
step_of t = record { ref = t.reference; mark = t.mark; stmt = t.statement; parent = t.parent; index = t.index }

-- step k of a slice
abbrev pub step_at : List ℕ → ℕ → Step
step_at ws k =
    record {
      ref = word ws (step_size * k);
      mark = word ws (step_size * k + 1);
      stmt = word ws (step_size * k + 2);
      parent = word ws (step_size * k + 3);
      index = word ws (step_size * k + 4);
    }

-- the steps from k on: the next one, and those after it
unfoldable pub steps_from : List ℕ → ℕ → List Step
steps_from ws k = steps_in (drop (step_size * k) ws)

pub steps_next : (ws : List ℕ) (k : ℕ) → step_size * k + step_size ≤ length ws → steps_from ws k ≡ step_at ws k ∷ steps_from ws (k + 1)
unfolding steps_from steps_in
steps_next ws k h =
    let a : ℕ = step_size * k in
    let e1 : suc a ≡ a + 1 = omega arith in
    let e2 : suc (suc a) ≡ a + 2 = omega arith in
    let e3 : suc (suc (suc a)) ≡ a + 3 = omega arith in
    let e4 : suc (suc (suc (suc a))) ≡ a + 4 = omega arith in
    let e5 : suc (suc (suc (suc (suc a)))) ≡ step_size * (k + 1) = omega arith in
    rw (drop-cons ws a 0 (omega arith), drop-cons ws (suc a) 0 (omega arith), drop-cons ws (suc (suc a)) 0 (omega arith), drop-cons ws (suc (suc (suc a))) 0 (omega arith), drop-cons ws (suc (suc (suc (suc a)))) 0 (omega arith), e5, e4, e3, e2, e1)

-- ---- rules, over the number of statements and of the marks before the step

unfoldable pub mark_right : (marks mark : ℕ) → Bool
mark_right marks mark = eqb mark 0 || eqb mark (marks + 1)

unfoldable pub kind_right : (s marks ref stmt : ℕ) → Bool
kind_right s marks ref stmt = pick (eqb ref 0) (ltb stmt s) (leb ref marks && eqb stmt 0)

unfoldable pub step_right : (s marks : ℕ) → Step → Bool
step_right s marks t = all_of (mark_right marks t.mark ∷ kind_right s marks t.ref t.stmt ∷ eqb t.parent 0 ∷ eqb t.index 0 ∷ [])

pub right_is : (w : List ℕ) (r : Replay) (t : Step) → not (step_right (statements w) (length r.named) t) ≡ malformed w r t
unfolding malformed step_rules step_right mark_right kind_right
right_is w r t = refl
