-- What an operation gave: its number, and what it wrote into its first and its second output.
-- That depends on the lengths of the slices lent and on nothing that they held, so a slice may be lent again as it was left.
use Rattle.std.specs.Prelude.{◌≡◌, refl, ℕ, ◌-◌, Bool, List, [], ◌∷◌, eqb, length, get_or, take, drop, replicate}
use Rattle.std.proofs.Math.Seq.{take-append_seam}
use Rattle.laws.specs.Tools.{pick}
use Rattle.laws.specs.Lists.{boole}
use Rattle.defs.specs.Layout.{Layout}
use Rattle.defs.specs.Text.{labels_of, letters_for}
use Rattle.defs.specs.Steps.{flat}
use Rattle.defs.specs.Outcome.{Outcome, length_after, out_after, one_output, two_outputs, step_list_words, step_list_number, step_list_outcome, letters_number, letters_outcome}
use Rattle.defs.specs.Decode.{decoded, steps_or, decode_number, decode_outcome}
use Rattle.defs.specs.Replay.{Turn, refused, going, steps_in, replayed, replay_first, unchanged, settled, replay_outcome}

pub record Gave : Type 0 where
  pub number : ℕ
  pub first : List ℕ
  pub second : List ℕ

unfoldable pub gave : Outcome → Gave
gave o =
    record {
      number = o.number;
      first = take (get_or o.lengths 0 0) (get_or o.outs 0 []);
      second = take (get_or o.lengths 1 0) (get_or o.outs 1 []);
    }

-- ---- the writers

-- what stands at the front of an output
after_front : (k : ℕ) (result out : List ℕ) → take (length_after k result) (out_after k result out) ≡ pick (eqb k 0) result []
unfolding length_after out_after
after_front k result out =
    boole (eqb k 0)
    (λ y. rw y (take-append_seam result (drop (length result) out)))
    (λ y. rw y)

pub gave_one : (k : ℕ) (result : List ℕ) (works : List (List ℕ)) (out : List ℕ)
    → gave (one_output k result works out) ≡ record { number = k; first = pick (eqb k 0) result []; second = [] }
unfolding gave one_output
gave_one k result works out = rw (after_front k result out)

pub gave_two : (k : ℕ) (r₁ r₂ : List ℕ) (works : List (List ℕ)) (o₁ o₂ : List ℕ)
    → gave (two_outputs k r₁ r₂ works o₁ o₂) ≡ record { number = k; first = pick (eqb k 0) r₁ []; second = pick (eqb k 0) r₂ [] }
unfolding gave two_outputs
gave_two k r₁ r₂ works o₁ o₂ = rw (after_front k r₁ o₁, after_front k r₂ o₂)

pub list_same : (w b : List ℕ) (packed explicit : Bool) (work work' out out' : List ℕ) → length work' ≡ length work → length out' ≡ length out
    → gave (step_list_outcome w b packed explicit work' out') ≡ gave (step_list_outcome w b packed explicit work out)
unfolding step_list_outcome step_list_number
list_same w b packed explicit work work' out out' e o =
    rw (
      gave_one (step_list_number w b packed explicit work' out') (step_list_words w packed explicit) (work' ∷ []) out',
      gave_one (step_list_number w b packed explicit work out) (step_list_words w packed explicit) (work ∷ []) out,
      e,
      o,
    )

pub letters_same : (w b : List ℕ) (l : Layout) (work work' sums sums' list list' letters letters' : List ℕ)
    → length work' ≡ length work → length sums' ≡ length sums → length list' ≡ length list → length letters' ≡ length letters
    → gave (letters_outcome w b l work' sums' list' letters') ≡ gave (letters_outcome w b l work sums list letters)
unfolding letters_outcome letters_number
letters_same w b l work work' sums sums' list list' letters letters' e₁ e₂ e₃ e₄ =
    rw (
      gave_two (letters_number w b l work' sums' list' letters') (labels_of w l) (letters_for w l) (work' ∷ sums' ∷ []) list' letters',
      gave_two (letters_number w b l work sums list letters) (labels_of w l) (letters_for w l) (work ∷ sums ∷ []) list letters,
      e₁,
      e₂,
      e₃,
      e₄,
    )

pub decode_same : (w b list letters out out' : List ℕ) → length out' ≡ length out
    → gave (decode_outcome w b list letters out') ≡ gave (decode_outcome w b list letters out)
unfolding decode_outcome decode_number
decode_same w b list letters out out' o =
    rw (
      gave_one (decode_number w b list letters out') (flat (steps_or (decoded w list letters))) [] out',
      gave_one (decode_number w b list letters out) (flat (steps_or (decoded w list letters))) [] out,
      o,
    )

-- ---- the replay

settled_same : (work work' entries entries' children children' : List ℕ) (t : Turn) → gave (settled work' entries' children' t) ≡ gave (settled work entries children t)
unfolding gave settled
settled_same work work' entries entries' children children' (refused k) = refl
settled_same work work' entries entries' children children' (going r) =
    rw (
      take-append_seam r.built (replicate (length entries' - length r.built) 0),
      take-append_seam r.built (replicate (length entries - length r.built) 0),
      take-append_seam r.kids (replicate (length children' - length r.kids) 0),
      take-append_seam r.kids (replicate (length children - length r.kids) 0),
    )

pub replay_same : (w b steps work work' entries entries' children children' : List ℕ)
    → length work' ≡ length work → length entries' ≡ length entries → length children' ≡ length children
    → gave (replay_outcome w b steps work' entries' children') ≡ gave (replay_outcome w b steps work entries children)
unfolding replay_outcome replay_first unchanged gave
replay_same w b steps work work' entries entries' children children' e₁ e₂ e₃ =
    let first : replay_first w b steps work' ≡ replay_first w b steps work = rw e₁ in
    let same_turn = settled_same work work' entries entries' children children' (replayed w (length entries) (length children) (steps_in steps)) in
    boole (eqb (replay_first w b steps work) 0)
    (λ y. rw (first, y, e₂, e₃) same_turn)
    (λ y. rw (first, y))
