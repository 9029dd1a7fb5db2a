-- A step over the slices is the step of the definition: by the returns of the code, and by the kind of the step.
-- Assumes nothing.
use mathlib.Core.Path.{◌≡◌, sym, ap, ◌∙◌}
use mathlib.Core.List.{List, [], ◌∷◌}
use Prim.Native.Nat.{ℕ, zero, suc, ◌+◌, ◌-◌, ◌*◌, ◌≤◌, ◌<◌}
use native.Mathlib.Omega.{arith}
use lib.ListN.{length, take, drop}
use lib.Seq.{length-take-le, take-take, take-nil}
use borrow.Author.Tests.{lt-ltb, le-ltb}
use Rattle.laws.specs.Lists.{part_length}
use Rattle.defs.specs.Table.{header_size, stmt_size, statements, statement_words, hyp_count_in, hyp_count, max_references}
use Rattle.defs.specs.Replay.{Turn}
use Rattle.table.specs.Records.{StatementIn}
use Rattle.store.specs.declared.place.Placed.{Placed}
use Rattle.store.specs.Places.{place, place_of, Kept}
use Rattle.replay.specs.declared.turn.State.{State}
use Rattle.std.specs.Prelude.{Option, Some, None, Ok, Err}
use Rattle.answers.specs.declared.refusals.Refusal.TheVariants.{ShortOutput, BadStack}
use Rattle.replay.specs.Stack.{Pushed}
use Rattle.replay.specs.Turns.{Readable, standing, turn_of, Grown, after_place, normal_turn}

-- what lies between two places of a list, cut either way
pub drop_take : (a b : ℕ) (l : List ℕ) → a ≤ b → drop a (take b l) ≡ take (b - a) (drop a l)
drop_take zero b l h = let e : b - 0 ≡ b = omega arith in rw e
drop_take (suc a) zero l h = absurd (omega arith)
drop_take (suc a) (suc b) [] h = rw take-nil
drop_take (suc a) (suc b) (x ∷ xs) h = let e : suc b - suc a ≡ b - a = omega arith in rw e (drop_take a b xs (omega arith))

-- ---- a normal step of statement k, which pops `count` items

module _ (w work es cs : List ℕ) (half : ℕ) (s : State) (k mark count : ℕ) (is : count ≡ hyp_count w k) (there : s.height ≤ length work) where
  abbrev answer : Turn
  answer = normal_turn w (length es) (length cs) (standing half work es cs s) k mark

  stack_long : length (take s.height work) ≡ s.height
  stack_long = length-take-le s.height work there

  pub turn_18 : s.height < count → (turn_of half work es cs (Err BadStack) ≡ answer) × Grown s es cs (Err BadStack)
  unfolding turn_of normal_turn Grown
  turn_18 h = (rw (stack_long, ← is, lt-ltb s.height count h), tt)

  module _ (enough : count ≤ s.height) (es' cs' : List ℕ) (p : Option Placed)
      (found : place_of es' cs' p ≡ place (take s.store.built es) (take s.store.kids cs) (length es) (length cs) k
      (take (s.height - (s.height - count)) (drop (s.height - count) work)))
    where
      popped_is : drop (s.height - count) (take s.height work) ≡ take (s.height - (s.height - count)) (drop (s.height - count) work)
      popped_is = drop_take (s.height - count) s.height work (omega arith)

      left_is : take (s.height - count) (take s.height work) ≡ take (s.height - count) work
      left_is = take-take (s.height - count) s.height work (omega arith)

      after : answer ≡ after_place (standing half work es cs s) (take (s.height - count) work) mark (place_of es' cs' p)
      unfolding normal_turn
      after = rw (stack_long, ← is, le-ltb s.height count enough, popped_is, left_is, ← found)

      pub turn_15 : p ≡ None → (turn_of half work es' cs' (Err ShortOutput) ≡ answer) × Grown s es' cs' (Err ShortOutput)
      unfolding turn_of Grown place_of after_place
      turn_15 h = (sym (after ∙ rw h), tt)

      pub turn_going : (found-at : Placed) (work' : List ℕ) (m : ℕ) → p ≡ Some found-at → Kept es' cs' p
          → Pushed half (s.height - count) s.marks found-at.entry.0 mark work work' m
          → (turn_of half work' es' cs' (Ok (record { store = found-at.store; height = s.height - count + 1; marks = m })) ≡ answer)
          × Grown s es' cs' (Ok (record { store = found-at.store; height = s.height - count + 1; marks = m }))
      unfolding turn_of Grown place_of after_place Kept
      turn_going found-at work' m h kept push = (
        sym (after ∙ rw (h, push.stack_is, push.named_is)),
        record { store_ok = rw h at kept; height_most = omega arith; marks_most = push.few },
      )

-- ---- the hypothesis count of a statement

module _ (w : List ℕ) (ok : Readable w) (k : ℕ) (below : k < statements w) where
  pub statement_in : (ss : List ℕ) → ss ≡ statement_words w → StatementIn ss k
  unfolding statement_words
  statement_in ss e = rw e (omega (arith, part_length header_size (stmt_size * statements w) w (omega (arith, ok.header.whole))))

  pub hyp_count_is : (ss : List ℕ) (r : ℕ) → ss ≡ statement_words w → r ≡ hyp_count_in ss k → (r ≡ hyp_count w k) × (r ≤ max_references)
  hyp_count_is ss r e h =
      let same : r ≡ hyp_count w k = h ∙ ap (λ (l : List ℕ). hyp_count_in l k) e in
      (same, omega (arith, ok.hyps.inside k below, ok.hyps.few))
