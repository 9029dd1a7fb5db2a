-- The answer of the command text at each return, from what the operation answered: too large, another refusal, or the text.
-- The text stands in its part of the slice; then its first line is put before it and a newline behind it.
use mathlib.Core.Path.{◌≡◌, refl, sym, ap, ◌∙◌}
use mathlib.Core.Logic.{◌≢◌}
use mathlib.Core.List.{List, [], ◌∷◌, ◌++◌, append_assoc}
use Prim.Native.Nat.{ℕ, ◌+◌, ◌≤◌}
use native.Mathlib.Omega.{arith}
use lib.ListN.{length, get_or, take, drop, length-append}
use lib.Seq.{take_at, drop_at}
use Rattle.io.proofs.Counting.{prefix_len_of_le}
use Rattle.laws.specs.Lists.{eqb_no}
use Rattle.laws.specs.Puts.{Put, Grows, grows_one}
use Rattle.defs.specs.Bytes.{newline}
use Rattle.defs.specs.Layout.{Layout}
use Rattle.defs.specs.Text.{text_of}
use Rattle.defs.specs.Outcome.{Outcome, answer_one, one_output, text_number, text_outcome}
use Rattle.defs.specs.OutcomeLaws.{one_done}
use Rattle.answers.specs.Refused.{refusal_number}
use Rattle.answers.specs.declared.refusals.Refusal.{Refusal}
use Rattle.answers.specs.declared.refusals.Refusal.TheVariants.{Header, Statements, Labels, Hypotheses, Entries, Children, Goal, Style, Mixed, StrayEssential, LongLabel, ManySteps, ShortWork}
use Rattle.answers.specs.declared.refusals.Refusal.TheVariants.{Layout as BadLayout, ShortOutput, BadList, BadLetters, BadStack}
use Rattle.answers_said.specs.Bytes.{bytes}
use Rattle.answers_said.specs.Lines.{Said}
use Rattle.answers_said.specs.Refusals.{refusal_line}
use Rattle.answers_said.specs.Limits.{too_large_line}
use Rattle.answers_said.specs.Texts.{text_said}
use Rattle.answers_said.proofs.SaidLaws.{said}

-- a piece put behind what stands at the front
behind : (front rest piece : List ℕ) (at r : ℕ) {before after : List ℕ} → before ≡ front ++ rest → at ≡ length front → r ≤ length before
    → Put piece at r before after → take r after ≡ front ++ piece
behind front rest piece at r {before} {after} b a h p =
    let first : take at before ≡ front = ap (take at) b ∙ take_at front rest at (sym a) in
    ap (take r) (p.fits h)
    ∙ ap (λ (y : List ℕ). take r ((y ++ piece) ++ drop r before)) first
    ∙ take_at (front ++ piece) (drop r before) r (omega (arith, p.ends, length-append front piece))

module _ (w b : List ℕ) (style : ℕ) (l : Layout) (work sums room ys : List ℕ) (n len : ℕ) (works : List (List ℕ))
    (answered : answer_one n len works ys ≡ text_outcome w b style l work sums room) where
  number_is : text_number w b style l work sums room ≡ n
  unfolding text_outcome one_output
  number_is = sym (ap (λ (o : Outcome). o.number) answered)

  pub larger_said : {most r : ℕ} {before after : List ℕ} → n ≡ 15 → most ≡ length room
      → Grows (too_large_line (bytes "the text has more bytes than") most) 0 r before after → r ≤ length before → Said (text_said w b style l work sums room) r after
  unfolding text_said
  larger_said z m g h = rw (number_is, z, sym m) (said g h)

  pub refusal_said : {r : ℕ} {before after : List ℕ} → n ≢ 15 → n ≢ 0 → Grows (refusal_line n) 0 r before after → r ≤ length before
      → Said (text_said w b style l work sums room) r after
  unfolding text_said
  refusal_said x z g h = rw (number_is, eqb_no n 0 z, eqb_no n 15 x) (said g h)

  text_is : n ≡ 0 → (len ≡ length (text_of w b style l)) × (ys ≡ text_of w b style l ++ drop (length (text_of w b style l)) room)
  unfolding text_outcome
  text_is z =
      let done = answered ∙ one_done (text_number w b style l work sums room) (text_of w b style l) (work ∷ sums ∷ []) room (number_is ∙ z) in
      (ap (λ (o : Outcome). get_or o.lengths 0 0) done, ap (λ (o : Outcome). get_or o.outs 0 []) done)

  pub done_said : (front rest : List ℕ) {start r : ℕ} {out₁ out₂ out₃ : List ℕ} → n ≡ 0 → out₁ ≡ front ++ (ys ++ rest) → length front ≡ 15 → 16 + len ≤ length out₁
      → Put (bytes "done: the text\n") 0 start out₁ out₂ → Put (newline ∷ []) (15 + len) r out₂ out₃ → Said (text_said w b style l work sums room) r out₃
  unfolding text_said bytes
  done_said front rest {start} {r} {out₁} {out₂} {out₃} z o f h p q =
      let head : List ℕ = bytes "done: the text\n" in
      let text : List ℕ = text_of w b style l in
      let tail : List ℕ = drop (length text) room in
      let is = text_is z in
      let from : start ≡ 15 = p.ends in
      let past : drop start out₁ ≡ ys ++ rest = rw (from, o) (drop_at front (ys ++ rest) 15 f) in
      let parts : (head ++ text) ++ (tail ++ rest) ≡ head ++ ((text ++ tail) ++ rest) = simp append_assoc in
      let two : out₂ ≡ (head ++ text) ++ (tail ++ rest) = p.fits (omega arith) ∙ ap (λ (y : List ℕ). head ++ y) (past ∙ ap (λ (y : List ℕ). y ++ rest) is.1) ∙ sym parts in
      let kept : length out₂ ≡ length out₁ = (grows_one p).kept in
      let ends : r ≡ 15 + len + 1 = q.ends in
      let all = behind (head ++ text) (tail ++ rest) (newline ∷ []) (15 + len) r two (omega (arith, is.0, length-append head text)) (omega arith) q in
      rw (number_is, z) (record { inside = prefix_len_of_le r out₃ (omega (arith, (grows_one q).kept)); says = all ∙ append_assoc head text (newline ∷ []) })

-- refusal 15 is that of the output
pub is_15 : (r : Refusal) → refusal_number r ≡ 15 → r ≡ ShortOutput
is_15 Header e = absurd (omega arith)
is_15 Statements e = absurd (omega arith)
is_15 Labels e = absurd (omega arith)
is_15 Hypotheses e = absurd (omega arith)
is_15 Entries e = absurd (omega arith)
is_15 Children e = absurd (omega arith)
is_15 Goal e = absurd (omega arith)
is_15 BadLayout e = absurd (omega arith)
is_15 Style e = absurd (omega arith)
is_15 Mixed e = absurd (omega arith)
is_15 StrayEssential e = absurd (omega arith)
is_15 LongLabel e = absurd (omega arith)
is_15 ManySteps e = absurd (omega arith)
is_15 ShortWork e = absurd (omega arith)
is_15 ShortOutput e = refl
is_15 BadList e = absurd (omega arith)
is_15 BadLetters e = absurd (omega arith)
is_15 BadStack e = absurd (omega arith)
