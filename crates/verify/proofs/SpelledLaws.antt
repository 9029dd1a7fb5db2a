-- The verdict on the letters and on the steps that they decode to, at each return, from what the operations answered.
-- Assumes nothing.
use mathlib.Core.Path.{◌≡◌, refl, sym, ap, ◌∙◌}
use mathlib.Core.Logic.{◌≢◌}
use mathlib.Core.List.{List, []}
use Prim.Native.Nat.{ℕ}
use lib.ListN.{take}
use Rattle.laws.specs.Lists.{eqb_no}
use Rattle.defs.specs.Layout.{Layout}
use Rattle.defs.specs.Outcome.{answer_one, answer_two, letters_outcome}
use Rattle.defs.specs.Decode.{decode_outcome}
use Rattle.defs.specs.Inside.{one_inside, decode_inside}
use Rattle.verify.specs.Gave.{Gave, gave}
use Rattle.verify.specs.Verified.{unless, letters_gave, decoded_gave, spelled_way}
use Rattle.verify.specs.Spelled.{Decoding}
use Rattle.verify.specs.declared.verdict.Stage.TheVariants.{Letters, Decoded}
use Rattle.std.specs.Prelude.{Result, Ok, Err}
use Rattle.answers.specs.declared.refusals.Refusal.{Refusal}
use Rattle.answers.specs.Refused.{refusal_number, refusal_some, answer_number, answer_length}
use Rattle.verify.specs.Verdicts.{at_stage}
use Rattle.verify.specs.declared.verdict.Disagreement.TheVariants as code

module _ (w b : List ℕ) (l : Layout) (work sums list letters steps list' letters' : List ℕ) (n first second : ℕ) (works : List (List ℕ))
    (answered : answer_two n first second works list' letters' ≡ letters_outcome w b l work sums list letters) where
  spelled_is : letters_gave w b l work sums list letters ≡ record { number = n; first = take first list'; second = take second letters' }
  unfolding gave
  spelled_is = sym (ap gave answered)

  pub letters_refused : (r : Refusal) → n ≡ refusal_number r → n ≢ 0 → (steps' : List ℕ) → Decoding w b l work sums list letters steps steps' (Err (code.Refused Letters r))
  unfolding Decoding spelled_way unless
  letters_refused r is bad steps' next = rw (ap (λ (g : Gave). g.number) spelled_is, eqb_no n 0 bad, ← is)

  module _ (fine : n ≡ 0) (steps' : List ℕ) (m len : ℕ) (works' : List (List ℕ))
      (decodes : answer_one m len works' steps' ≡ decode_outcome w b (take first list') (take second letters') steps) where
    decoded_is : decoded_gave w b l work sums list letters steps ≡ record { number = m; first = take len steps'; second = [] }
    unfolding gave
    decoded_is = ap (λ (g : Gave). gave (decode_outcome w b g.first g.second steps)) spelled_is ∙ sym (ap gave decodes)

    pub decode_refused : (r : Refusal) → m ≡ refusal_number r → m ≢ 0 → (steps'' : List ℕ) → Decoding w b l work sums list letters steps steps'' (Err (code.Refused Decoded r))
    unfolding Decoding spelled_way unless
    decode_refused r is bad steps'' next = rw (ap (λ (g : Gave). g.number) spelled_is, fine, ap (λ (g : Gave). g.number) decoded_is, eqb_no m 0 bad, ← is)

    pub letters_decoded : m ≡ 0 → Decoding w b l work sums list letters steps steps' (Ok len)
    unfolding Decoding spelled_way unless
    letters_decoded good =
        record {
          goes_on = λ next. rw (ap (λ (g : Gave). g.number) spelled_is, fine, ap (λ (g : Gave). g.number) decoded_is, good);
          steps_kept = record { fits = one_inside decodes (decode_inside w b (take first list') (take second letters') steps); holds = sym (ap (λ (g : Gave). g.first) decoded_is) };
        }

  -- what decoding answered, as this stage passes it on
  pub spelled_done : (fine : n ≡ 0) (steps' : List ℕ) (answer : Result ℕ Refusal) (works' : List (List ℕ))
      → answer_one (answer_number answer) (answer_length answer) works' steps' ≡ decode_outcome w b (take first list') (take second letters') steps
      → Decoding w b l work sums list letters steps steps' (at_stage Decoded answer)
  spelled_done fine steps' (Ok len) works' decodes = letters_decoded fine steps' 0 len works' decodes refl
  spelled_done fine steps' (Err r) works' decodes = decode_refused fine steps' (refusal_number r) 0 works' decodes r refl (refusal_some r) steps'
