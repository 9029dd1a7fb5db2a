-- Laws of the answer: what each return shows. The number of an answer is read off its tests, and the rest is that of every writer.
-- The slice of the first reading has no room, and what was lent comes back as it was.
use mathlib.Core.Path.{◌≡◌, refl, sym, ◌∙◌}
use mathlib.Core.Logic.{◌≢◌}
use mathlib.Core.Bool.{true, false}
use mathlib.Core.Option.{Option, none, some}
use mathlib.Core.List.{List, [], ◌∷◌, ◌++◌}
use Prim.Native.Nat.{ℕ, ◌*◌, ◌/◌, ◌<◌, ◌≤◌}
use native.Mathlib.Omega.{arith}
use lib.ListN.{length}
use borrow.Author.Tests.{lt-ltb, le-ltb}
use Rattle.laws.specs.Tools.{over}
use Rattle.defs.specs.Table.{mandatory}
use Rattle.defs.specs.Check.{table_refusal, first_of, or_else}
use Rattle.defs.specs.Steps.{Step, step_size, flat}
use Rattle.defs.specs.Laws.{flat_length}
use Rattle.defs.specs.Refusals.{bad10}
use Rattle.defs.specs.Outcome.{answer_one, is_early}
use Rattle.defs.specs.OutcomeLaws.{table_refusal_most, else_refused, refused_early, one_early, one_late, one_done}
use Rattle.defs.specs.Decode.{bad_labels, decoded, refused_steps, steps_or, all_letters, decode_number, decode_outcome}
use Rattle.std.specs.Prelude as code
use Rattle.answers.specs.declared.refusals.Refusal.{Refusal}
use Rattle.answers.specs.Refused.{refusal_number, refusal_some}
use Rattle.decode.specs.Decoding.{Wrote, beginning}
use Rattle.decode.specs.Answer.{letters_outcome}

-- ---- the letters

-- `&mut out[..0]` came back as some list of length 0 in front
none_lent : (ys out : List ℕ) → length ys ≡ 0 → ys ++ out ≡ out
none_lent [] out e = refl
none_lent (y ∷ ys) out e = absurd (omega arith)

module _ (out : List ℕ) where
  refused : (o : Option (List Step)) (before after : List ℕ) → Wrote o code.None before after → answer_one 17 0 [] out ≡ letters_outcome o out
  unfolding Wrote letters_outcome first_of refused_steps is_early
  refused none before after w = sym (one_late 17 _ [] out (λ e. omega arith) refl)
  refused (some ts) before after w = absurd w

  full : (o : Option (List Step)) (n : ℕ) (before after : List ℕ) → Wrote o (code.Some n) before after → length out / step_size < n → answer_one 15 0 [] out ≡ letters_outcome o out
  unfolding Wrote letters_outcome first_of refused_steps steps_or is_early
  full none n before after w h = absurd w
  full (some ts) n before after w h =
      rw (lt-ltb (length out) (length (flat ts)) (omega (arith, flat_length ts, w.0))) (sym (one_late 15 _ [] out (λ e. omega arith) refl))

  done : (o : Option (List Step)) (n : ℕ) (r : code.Option ℕ) (before after end : List ℕ) → Wrote o (code.Some n) before after → n ≤ length out / step_size → Wrote o r out end
      → answer_one 0 (step_size * n) [] end ≡ letters_outcome o out
  unfolding Wrote letters_outcome first_of refused_steps steps_or
  done none n r before after end w h v = absurd w
  done (some ts) n code.None before after end w h v = absurd v
  done (some ts) n (code.Some m) before after end w h v =
      let few : length (flat ts) ≤ length out = omega (arith, flat_length ts, w.0) in
      let len : step_size * n ≡ length (flat ts) = omega (arith, flat_length ts, w.0) in
      let holds : end ≡ over (flat ts) out = v.1 (omega (arith, v.0, w.0)) in
      rw (le-ltb (length out) (length (flat ts)) few, len, holds) (sym (one_done 0 (flat ts) [] out refl))

-- the same where the first reading was lent the empty slice
module _ (out ys : List ℕ) (z : length ys ≡ 0) (o : Option (List Step)) (r : code.Option ℕ) (before after : List ℕ) (w : Wrote o r before after) where
  pub read_17 : (k : ℕ) → k ≡ 17 → r ≡ code.None → answer_one k 0 [] (ys ++ out) ≡ letters_outcome o out
  read_17 k is e = rw (is, none_lent ys out z) (refused out o before after (rw e at w))

  pub read_15 : (k n : ℕ) → k ≡ 15 → r ≡ code.Some n → length (ys ++ out) / step_size < n → answer_one k 0 [] (ys ++ out) ≡ letters_outcome o out
  read_15 k n is e h = rw (is, none_lent ys out z) (full out o n before after (rw e at w) (rw (none_lent ys out z) at h))

  pub read_0 : (n : ℕ) (again : code.Option ℕ) (end : List ℕ) → r ≡ code.Some n → n ≤ length (ys ++ out) / step_size → Wrote o again (ys ++ out) end
      → answer_one 0 (step_size * n) [] end ≡ letters_outcome o out
  read_0 n again end e h v = done out o n again before after end (rw e at w) (rw (none_lent ys out z) at h) (rw (none_lent ys out z) at v)

-- ---- the tests before

module _ (w b list letters out : List ℕ) where
  pub answer_table : (r : Refusal) → refusal_number r ≡ table_refusal w b → answer_one (refusal_number r) 0 [] out ≡ decode_outcome w b list letters out
  unfolding decode_outcome decode_number
  answer_table r e =
      let z : table_refusal w b ≢ 0 = λ x. refusal_some r (e ∙ x) in
      rw (e, else_refused (table_refusal w b) _ z)
      (sym (one_early (table_refusal w b) _ [] out z (refused_early (table_refusal w b) z (table_refusal_most w b))))

  module _ (good : table_refusal w b ≡ 0) where
    pub answer_10 : (k : ℕ) → k ≡ 10 → bad10 w ≡ true → answer_one k 0 [] out ≡ decode_outcome w b list letters out
    unfolding decode_outcome decode_number first_of or_else is_early
    answer_10 k is t = rw (is, good, t) (sym (one_late 10 _ [] out (λ e. omega arith) refl))

    module _ (unmixed : bad10 w ≡ false) where
      pub answer_16 : (k : ℕ) → k ≡ 16 → bad_labels w list ≡ true → answer_one k 0 [] out ≡ decode_outcome w b list letters out
      unfolding decode_outcome decode_number first_of or_else is_early
      answer_16 k is t = rw (is, good, unmixed, t) (sym (one_late 16 _ [] out (λ e. omega arith) refl))

      pub letters_left : bad_labels w list ≡ false → letters_outcome (all_letters (mandatory w) list letters beginning) out ≡ decode_outcome w b list letters out
      unfolding decode_outcome decode_number decoded letters_outcome first_of or_else
      letters_left t = rw (good, unmixed, t)
