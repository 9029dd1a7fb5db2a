-- Words: what stands before one, and how its bytes after that make the word of the definitions. A word may come in
-- pieces, as long as its length is known when it is opened.
use mathlib.Core.Path.{◌≡◌, refl, ap}
use mathlib.Core.List.{List, [], ◌∷◌, ◌++◌}
use Prim.Native.Nat.{ℕ, ◌+◌, ◌-◌, ◌≤◌, ◌<◌}
use native.Mathlib.Decide.{dec_lt}
use native.Mathlib.Omega.{arith}
use borrow.Author.Tests.{lt-ltb, le-ltb}
use lib.ListN.{length, length-replicate}
use lib.Seq.{append_snoc}
use Rattle.laws.specs.Puts.{Put}
use Rattle.defs.specs.Bytes.{space, newline, dollar, dot}
use Rattle.defs.specs.Layout.{Layout, Line, spaces, begin, put_word, put_words}
use Rattle.defs.specs.Text.{end_word, close}
use Rattle.layout.specs.declared.lines.Line.{Line as End}
use Rattle.laws.specs.Puts.{Grows}
use Rattle.layout.specs.Laid.{opening, passed, opened, most_before, Wrote, Lays}
use Rattle.layout.proofs.Within.{Bounds}
use Rattle.laws.specs.Puts.{grows_one}
use Rattle.layout.proofs.Wrote.{wrote_none, wrote_more}

-- the blanks with which a text begins
pub begins : (l : Layout) {end : ℕ} {before after : List ℕ} → Put (spaces (l.indent - 1 - l.first)) 0 end before after
    → Wrote (begin l) (record { at = l.indent - 1; end = end }) before after
unfolding begin
begins l put = wrote_more (wrote_none 0 _) refl (grows_one put)

-- ---- the word fits the line, or begins the next

pub passed_here : (l : Layout) (p k : ℕ) → p + k < l.width → passed l p k ≡ p + (k + 1)
unfolding passed
passed_here l p k h = rw (lt-ltb (p + k) l.width h)

pub passed_next : (l : Layout) (p k : ℕ) → l.width ≤ p + k → passed l p k ≡ l.indent + k
unfolding passed
passed_next l p k h = rw (le-ltb (p + k) l.width h)

opened_here : (l : Layout) (k : ℕ) (s : Line) → s.at + k < l.width → opened l k s ≡ record { at = s.at + (k + 1); text = s.text ++ (space ∷ []) }
unfolding opened opening passed
opened_here l k s h = rw (lt-ltb (s.at + k) l.width h)

opened_next : (l : Layout) (k : ℕ) (s : Line) → l.width ≤ s.at + k
    → opened l k s ≡ record { at = l.indent + k; text = s.text ++ (newline ∷ spaces l.indent) }
unfolding opened opening passed
opened_next l k s h = rw (le-ltb (s.at + k) l.width h)

pub opens_here : (l : Layout) (k : ℕ) {line : End} {p start : ℕ} {before after : List ℕ} → line.at + k < l.width → p ≡ line.at + (k + 1)
    → Put (space ∷ []) line.end start before after
    → Lays (opened l k) most_before line (record { at = p; end = start }) before after
opens_here l k h e put =
    record {
      lays = λ s first w. rw (opened_here l k s (omega (arith, w.position))) (wrote_more w (omega (arith, w.position)) (grows_one put));
      near = omega (arith, put.ends);
    }

pub opens_next : (l : Layout) (k : ℕ) {line : End} {p next start : ℕ} {before between after : List ℕ} → Bounds l → l.width ≤ line.at + k
    → p ≡ l.indent + k
    → Put (newline ∷ []) line.end next before between → Put (spaces l.indent) next start between after
    → Lays (opened l k) most_before line (record { at = p; end = start }) before after
opens_next l k b h e nl sp =
    record {
      lays = λ s first w.
          rw (opened_next l k s (omega (arith, w.position)), ← append_snoc s.text newline (spaces l.indent))
          (wrote_more (wrote_more w w.position (grows_one nl)) (omega arith) (grows_one sp));
      near = omega (arith, b, nl.ends, sp.ends, length-replicate l.indent space);
    }

-- ---- the bytes of a word after what stands before it

pub word_opened : (l : Layout) (k : ℕ) (s : Line) (word : List ℕ) → k ≡ length word
    → put_word l s word ≡ record { at = (opened l k s).at; text = (opened l k s).text ++ word }
unfolding put_word
word_opened l k s word e =
    elim (dec_lt (s.at + k) l.width) [
      | yes h ↦ rw (opened_here l k s h, ← e, lt-ltb (s.at + k) l.width h) (rw (append_snoc s.text space word))
      | no h ↦ rw (opened_next l k s (omega arith), ← e, le-ltb (s.at + k) l.width (omega arith))
    ]

-- a word that was opened with its length, and whose bytes were put after that in pieces
pub lays_word : (l : Layout) {k most end : ℕ} {word before between after : List ℕ} {line next : End} → k ≡ length word
    → Lays (opened l k) most line next before between → Grows word next.end end between after
    → Lays (λ s. put_word l s word) (most + length word) line (record { at = next.at; end = end }) before after
lays_word l {k} {word = word} e a g =
    record {
      lays = λ s start w. let v = a.lays s start w in rw (word_opened l k s word e) (wrote_more v v.position g);
      near = omega (arith, a.near, g.ends);
    }

-- the last word: its two bytes, and no more
pub lays_end : (l : Layout) (rest : List ℕ) {x y : ℕ} {line next : End} {before after : List ℕ}
    → Lays (λ s. put_word l s (x ∷ y ∷ rest)) (most_before + length (x ∷ y ∷ rest)) line next before after → x ≡ dollar → y ≡ dot → length rest ≡ 0
    → Lays (λ s. put_word l s end_word) (most_before + length end_word) line next before after
lays_end l [] laid first second none = rw (first, second) at laid
lays_end l (z ∷ rest) laid first second none = absurd (omega arith)

-- the text with the last word
pub closed : (l : Layout) (s : Line) → close l s ≡ (put_word l s end_word).text
unfolding close
closed l s = refl

-- the position after a word
pub put_at : (l : Layout) (s : Line) (word : List ℕ) → (put_word l s word).at ≡ passed l s.at (length word)
unfolding opened
put_at l s word = ap (λ (t : Line). t.at) (word_opened l (length word) s word refl)

-- ---- words one after the other: a loop's turn, from i words to i + 1

pub words_more : (l : Layout) (s : Line) (words : List (List ℕ)) (word : List ℕ) → put_words l s (words ++ (word ∷ [])) ≡ put_word l (put_words l s words) word
unfolding put_words
words_more l s [] word = refl
words_more l s (first ∷ words) word = words_more l (put_word l s first) words word
