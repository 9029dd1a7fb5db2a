-- What an operation wrote stands inside its outputs: a refusal's lengths are 0, and a result that was written over the front is no
-- longer than what it was written over.
use Rattle.std.specs.Prelude.{◌≡◌, Bool, List, [], ℕ, ◌-◌, ◌≤◌, length, get_or, drop, replicate, eqb}
use Rattle.std.proofs.Common.{sym, arith, length-append}
use Rattle.laws.specs.Tools.{over_zero}
use Rattle.laws.specs.Lists.{boole}
use Rattle.defs.specs.Layout.{Layout}
use Rattle.defs.specs.Outcome.{Outcome, answer_one, answer_two, length_after, out_after, one_output, two_outputs, parents_outcome, distances_outcome, step_list_outcome, letters_outcome, text_outcome}
use Rattle.defs.specs.Decode.{decode_outcome}
use Rattle.defs.specs.Replay.{Turn, refused, going, settled, unchanged, replayed, replay_first, steps_in, replay_outcome}

-- the first and the second length are at most those of the first and the second output; a length that is not told is 0
pub record Inside (o : Outcome) : Type 0 where
  pub first_in : get_or o.lengths 0 0 ≤ length (get_or o.outs 0 [])
  pub second_in : get_or o.lengths 1 0 ≤ length (get_or o.outs 1 [])

-- what a call left, where its contract says that it is such an outcome
pub one_inside : {number len : ℕ} {works : List (List ℕ)} {out : List ℕ} {o : Outcome} → answer_one number len works out ≡ o → Inside o → len ≤ length out
one_inside e i = (rw (sym e) at i).first_in

pub two_inside : {number first second : ℕ} {works : List (List ℕ)} {out₁ out₂ : List ℕ} {o : Outcome}
    → answer_two number first second works out₁ out₂ ≡ o → Inside o → (first ≤ length out₁) × (second ≤ length out₂)
two_inside e i = ((rw (sym e) at i).first_in, (rw (sym e) at i).second_in)

-- ---- the writers

after_inside : (k : ℕ) (result out : List ℕ) → length_after k result ≤ length (out_after k result out)
unfolding length_after out_after
after_inside k result out =
    boole (eqb k 0) (λ e. rw e (omega (arith, length-append result (drop (length result) out)))) (λ e. rw e (omega arith))

one_output_lem : (k : ℕ) (result : List ℕ) (works : List (List ℕ)) (out : List ℕ) → Inside (one_output k result works out)
unfolding one_output
one_output_lem k result works out = record { first_in = after_inside k result out; second_in = omega arith }

two_outputs_lem : (k : ℕ) (r₁ r₂ : List ℕ) (works : List (List ℕ)) (out₁ out₂ : List ℕ) → Inside (two_outputs k r₁ r₂ works out₁ out₂)
unfolding two_outputs
two_outputs_lem k r₁ r₂ works out₁ out₂ = record { first_in = after_inside k r₁ out₁; second_in = after_inside k r₂ out₂ }

pub parents_inside : (w b out : List ℕ) → Inside (parents_outcome w b out)
unfolding parents_outcome
parents_inside w b out = one_output_lem _ _ _ _

pub distances_inside : (w b out : List ℕ) → Inside (distances_outcome w b out)
unfolding distances_outcome
distances_inside w b out = one_output_lem _ _ _ _

pub list_inside : (w b : List ℕ) (packed explicit : Bool) (work out : List ℕ) → Inside (step_list_outcome w b packed explicit work out)
unfolding step_list_outcome
list_inside w b packed explicit work out = one_output_lem _ _ _ _

pub letters_inside : (w b : List ℕ) (l : Layout) (work sums list letters : List ℕ) → Inside (letters_outcome w b l work sums list letters)
unfolding letters_outcome
letters_inside w b l work sums list letters = two_outputs_lem _ _ _ _ _ _

pub text_inside : (w b : List ℕ) (style : ℕ) (l : Layout) (work sums out : List ℕ) → Inside (text_outcome w b style l work sums out)
unfolding text_outcome
text_inside w b style l work sums out = one_output_lem _ _ _ _

pub decode_inside : (w b list letters out : List ℕ) → Inside (decode_outcome w b list letters out)
unfolding decode_outcome
decode_inside w b list letters out = one_output_lem _ _ _ _

-- ---- replay

over_zero_lem : (xs ys : List ℕ) → length xs ≤ length (over_zero xs ys)
over_zero_lem xs ys = omega (arith, length-append xs (replicate (length ys - length xs) 0))

settled_inside : (work entries children : List ℕ) (t : Turn) → Inside (settled work entries children t)
unfolding settled
settled_inside work entries children (refused k) = record { first_in = omega arith; second_in = omega arith }
settled_inside work entries children (going r) = record { first_in = over_zero_lem r.built entries; second_in = over_zero_lem r.kids children }

pub replay_inside : (w b steps work entries children : List ℕ) → Inside (replay_outcome w b steps work entries children)
unfolding replay_outcome unchanged
replay_inside w b steps work entries children =
    boole (eqb (replay_first w b steps work) 0)
    (λ e. rw e (settled_inside work entries children (replayed w (length entries) (length children) (steps_in steps))))
    (λ e. rw e (record { first_in = omega arith; second_in = omega arith }))
