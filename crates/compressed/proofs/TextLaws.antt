-- The whole text: the writers chained are the definition, and the letters laid one after the other are the letters cut, since after `)`
-- the position is at most the width, whatever labels stand before it.
use mathlib.Core.Path.{◌≡◌, sym, ap, ◌∙◌}
use mathlib.Core.List.{List, [], ◌∷◌, map}
use Prim.Native.Nat.{ℕ, ◌+◌, ◌≤◌}
use native.Mathlib.Decide.{dec_lt}
use native.Mathlib.Omega.{arith}
use lib.ListN.{length}
use Rattle.laws.specs.Tools.{part}
use Rattle.defs.specs.Bytes.{open_paren, close_paren}
use Rattle.defs.specs.Table.{label_in}
use Rattle.defs.specs.Steps.{Step}
use Rattle.defs.specs.Letters.{letters_of}
use Rattle.defs.specs.Layout.{Layout, Line, begin, put_word, put_words}
use Rattle.defs.specs.Text.{end_word, close, compressed_in}
use Rattle.layout.specs.declared.lines.Line.{Line as End}
use Rattle.layout.specs.Laid.{Wrote, Lays}
use Rattle.layout.specs.Streams.{streamed}
use Rattle.layout.proofs.Within.{Bounds}
use Rattle.layout.proofs.Words.{put_at, passed_here, passed_next}
use Rattle.layout.proofs.Wrote.{wrote_all}
use Rattle.layout.proofs.Cutting.{letters_streamed}
use Rattle.compressed.specs.declared.places.Places.{Places}
use Rattle.compressed.specs.Stepped.{SaysAt, StepsLaid}
use Rattle.compressed.specs.Texts.{TextWrote}

-- after a word of one byte the position is at most the width
one_inside : (l : Layout) (s : Line) (x : ℕ) → Bounds l → (put_word l s (x ∷ [])).at ≤ l.width
one_inside l s x b =
    rw (put_at l s (x ∷ []))
    (elim (dec_lt (s.at + 1) l.width) [
      | yes h ↦ omega (arith, passed_here l s.at 1 h)
      | no h ↦ omega (arith, b, passed_next l s.at 1 (omega arith))
    ])

module _ (l : Layout) (ss b : List ℕ) (p : Places) (ws : List ℕ) (bounds : Bounds l) where
  -- what the writers do to the first line, one after the other
  abbrev laid_text : (order letters : List ℕ) → Line
  laid_text order letters =
      put_word l (streamed l (put_word l (put_word l (put_words l (put_word l (begin l) (open_paren ∷ [])) (map (label_in ss b) order)) (close_paren ∷ [])) []) letters) end_word

  text_is : (order letters : List ℕ) → (laid_text order letters).text ≡ compressed_in ss b l order letters
  unfolding compressed_in close
  text_is order letters = ap (λ (s : Line). (put_word l s end_word).text) (sym (letters_streamed l _ letters bounds (one_inside l _ close_paren bounds)))

  pub text_wrote : {begun opened listed closed started lettered ended : End} {o o1 o2 o3 o4 o5 o6 o7 : List ℕ} {m1 m2 m3 m4 m5 left right r : ℕ}
      → Wrote (begin l) begun o o1
      → Lays (λ s. put_word l s (left ∷ [])) m1 begun opened o1 o2
      → Lays (λ s. put_words l s (map (label_in ss b) (part p.list p.listed ws))) m2 opened listed o2 o3
      → Lays (λ s. put_word l s (right ∷ [])) m3 listed closed o3 o4
      → Lays (λ s. put_word l s []) m4 closed started o4 o5
      → StepsLaid l p started lettered ws o5 o6
      → Lays (λ s. put_word l s end_word) m5 lettered ended o6 o7
      → left ≡ open_paren → right ≡ close_paren → r ≡ ended.end
      → TextWrote l ss b p r ws o o7
  text_wrote {ended = ended} {o = o} {o7 = o7} begun opened listed closed started lettered ended_is open_is close-is r-is =
      let wrote : (thm order : List ℕ) (ts : List Step) → part p.list p.listed ws ≡ order → SaysAt p ws thm order ts
      → Wrote (laid_text order (letters_of thm order ts)) ended o o7 = λ thm order ts e says.
      let s1 = (rw open_is at opened).lays _ o begun in
      let s2 = (rw e at listed).lays _ o s1 in
      let s3 = (rw close-is at closed).lays _ o s2 in
      let s4 = started.lays _ o s3 in
      let s5 = (lettered thm order ts says).lays _ o s4 in
      ended_is.lays _ o s5 in
      record {
        ends = λ thm order ts e says. r-is ∙ (wrote thm order ts e says).ends ∙ ap length (text_is order (letters_of thm order ts));
        fits = λ thm order ts e says h. rw (text_is order (letters_of thm order ts)) at (wrote_all (wrote thm order ts e says) (omega (arith, r-is)));
      }
