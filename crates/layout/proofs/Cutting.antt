-- Letters cut: those that come one after the other, after an empty word, are the letters that the definition cuts turn by turn.
-- A turn that is not the last fills its line, so the next letter begins a line either way.
use mathlib.Core.Path.{◌≡◌, refl, sym, ap, ◌∙◌}
use mathlib.Core.List.{List, [], ◌∷◌, ◌++◌, append-nil}
use Prim.Native.Nat.{ℕ, zero, suc, ◌+◌, ◌-◌, ◌*◌, ◌≤◌, ◌<◌}
use native.Mathlib.Decide.{dec_lt, ℕ_discrete}
use native.Mathlib.Numerals.{add-one}
use native.Mathlib.Omega.{arith}
use borrow.Author.Tests.{lt-ltb, le-ltb, eq-eqb, ne_eqb}
use lib.ListN.{length, get_or, take, drop, length-drop, take-append-drop}
use lib.Seq.{append_snoc, length-take-le, take_all, take-suc}
use Rattle.laws.specs.Puts.{Put, grows_one}
use Rattle.defs.specs.Bytes.{space, newline}
use Rattle.defs.specs.Layout.{Layout, Line, spaces, put_word, room_at, cut_within, put_letters}
use Rattle.layout.specs.declared.lines.Line.{Line as End}
use Rattle.layout.specs.Laid.{opened, most_before, Lays}
use Rattle.layout.specs.Streams.{put_letter, streamed, most_letter}
use Rattle.layout.proofs.Within.{Bounds}
use Rattle.layout.proofs.Wrote.{wrote_more, lays_none, lays_then, lays_as}
use Rattle.layout.proofs.Words.{word_opened, lays_word}

-- ---- a letter: on the line, or on the next

letter_here : (l : Layout) (s : Line) (x : ℕ) → s.at < l.width → put_letter l s x ≡ record { at = s.at + 1; text = s.text ++ (x ∷ []) }
unfolding put_letter
letter_here l s x h = rw (lt-ltb s.at l.width h)

letter_next : (l : Layout) (s : Line) (x : ℕ) → l.width ≤ s.at → put_letter l s x ≡ put_word l s (x ∷ [])
unfolding put_letter
letter_next l s x h = rw (le-ltb s.at l.width h)

word_here : (l : Layout) (s : Line) (word : List ℕ) → s.at + length word < l.width
    → put_word l s word ≡ record { at = s.at + (length word + 1); text = s.text ++ (space ∷ word) }
unfolding put_word
word_here l s word h = rw (lt-ltb (s.at + length word) l.width h)

word_next : (l : Layout) (s : Line) (word : List ℕ) → l.width ≤ s.at + length word
    → put_word l s word ≡ record { at = l.indent + length word; text = s.text ++ (newline ∷ spaces l.indent) ++ word }
unfolding put_word
word_next l s word h = rw (le-ltb (s.at + length word) l.width h)

-- ---- some letters

pub streamed_append : (l : Layout) (s : Line) (xs ys : List ℕ) → streamed l s (xs ++ ys) ≡ streamed l (streamed l s xs) ys
unfolding streamed
streamed_append l s [] ys = refl
streamed_append l s (x ∷ xs) ys = streamed_append l (put_letter l s x) xs ys

-- a loop's turn, from i letters to i + 1
pub streamed_next : (l : Layout) (s : Line) (xs : List ℕ) (i : ℕ) → i < length xs
    → streamed l s (take (i + 1) xs) ≡ put_letter l (streamed l s (take i xs)) (get_or xs i 0)
unfolding streamed
streamed_next l s xs i h = rw (add-one i, take-suc xs i 0 h) (streamed_append l s (take i xs) (get_or xs i 0 ∷ []))

-- letters that all fit the line
streamed_here : (l : Layout) (s : Line) (xs : List ℕ) → s.at + length xs ≤ l.width → streamed l s xs ≡ record { at = s.at + length xs; text = s.text ++ xs }
unfolding streamed
streamed_here l s [] h = let e : s.at + 0 ≡ s.at = omega arith in rw (e, append-nil s.text)
streamed_here l s (x ∷ xs) h =
    let e : s.at + 1 + length xs ≡ s.at + suc (length xs) = omega arith in
    rw (letter_here l s x (omega arith)) (streamed_here l (record { at = s.at + 1; text = s.text ++ (x ∷ []) }) xs (omega arith) ∙ rw (e, append_snoc s.text x xs))

-- on a full line the empty word makes no difference to the letter after it
letter_full : (l : Layout) (s : Line) (x : ℕ) → Bounds l → s.at ≡ l.width → put_letter l (put_word l s []) x ≡ put_letter l s x
letter_full l s x b e =
    let z : l.indent + 0 ≡ l.indent = omega arith in
    rw (letter_next l s x (omega arith), word_next l s (x ∷ []) (omega arith), word_next l s [] (omega arith), z, append-nil)
    (letter_here l _ x (omega (arith, b)))

streamed_full : (l : Layout) (s : Line) (xs : List ℕ) → Bounds l → s.at ≡ l.width → 0 < length xs → streamed l (put_word l s []) xs ≡ streamed l s xs
unfolding streamed
streamed_full l s [] b e h = absurd (omega arith)
streamed_full l s (x ∷ xs) b e h = ap (λ (t : Line). streamed l t xs) (letter_full l s x b e)

-- ---- the room

room_end : (l : Layout) (p : ℕ) → p ≡ l.width → room_at l p ≡ l.width - l.indent
unfolding room_at
room_end l p e = rw (eq-eqb p l.width e)

room_inside : (l : Layout) (p : ℕ) → (p ≡ l.width → ⊥) → room_at l p ≡ l.width - p - 1
unfolding room_at
room_inside l p e = rw (ne_eqb p l.width e)

-- a word no longer than the room is an empty word and the letters after it; as long as the room, it fills the line
word_room : (l : Layout) (s : Line) (xs : List ℕ) → Bounds l → s.at ≤ l.width → length xs ≤ room_at l s.at
    → put_word l s xs ≡ streamed l (put_word l s []) xs
word_room l s xs b low h =
    elim (ℕ_discrete s.at l.width) [
      | yes e ↦
          let r = room_end l s.at e in
          let z : l.indent + 0 ≡ l.indent = omega arith in
          rw (word_next l s xs (omega arith), word_next l s [] (omega arith), z, append-nil) (sym (streamed_here l _ xs (omega (arith, b))))
      | no e ↦
          let r = room_inside l s.at e in
          let k : s.at + (length xs + 1) ≡ s.at + 1 + length xs = omega arith in
          rw (word_here l s xs (omega arith), word_here l s [] (omega arith), k, ← append_snoc s.text space xs) (sym (streamed_here l _ xs (omega arith)))
    ]

-- ---- the turns of the definition

cut_turn : (l : Layout) (t : ℕ) (s : Line) (xs : List ℕ) → room_at l s.at < length xs
    → cut_within l (suc t) s xs ≡ cut_within l t (put_word l s (take (room_at l s.at) xs)) (drop (room_at l s.at) xs)
cut_turn l t s xs h = unfold cut_within in rw (lt-ltb (room_at l s.at) (length xs) h)

cut_last : (l : Layout) (t : ℕ) (s : Line) (xs : List ℕ) → length xs ≤ room_at l s.at → cut_within l t s xs ≡ put_word l s xs
cut_last l zero s xs h = unfold cut_within in refl
cut_last l (suc t) s xs h = unfold cut_within in rw (le-ltb (room_at l s.at) (length xs) h)

-- a word as long as the room ends at the width
room_filled : (l : Layout) (s : Line) (word : List ℕ) → Bounds l → s.at ≤ l.width → length word ≡ room_at l s.at → (put_word l s word).at ≡ l.width
room_filled l s word b low e =
    elim (ℕ_discrete s.at l.width) [
      | yes f ↦ let r = room_end l s.at f in rw (word_next l s word (omega arith)) (omega (arith, b))
      | no f ↦ let r = room_inside l s.at f in rw (word_here l s word (omega arith)) (omega arith)
    ]

-- one turn, where those after it are right on a full line
turn_streamed : (l : Layout) (t : ℕ) (s : Line) (xs : List ℕ) → Bounds l → s.at ≤ l.width
    → ((next : Line) (ys : List ℕ) → next.at ≡ l.width → length ys ≡ length xs - room_at l s.at → cut_within l t next ys ≡ streamed l (put_word l next []) ys)
    → cut_within l (suc t) s xs ≡ streamed l (put_word l s []) xs
turn_streamed l t s xs b low later =
    let room : ℕ = room_at l s.at in
    elim (dec_lt room (length xs)) [
      | yes h ↦
          let n : length (take room xs) ≡ room = length-take-le room xs (omega arith) in
          let m : length (drop room xs) ≡ length xs - room = length-drop room xs in
          let next : Line = put_word l s (take room xs) in
          let full : next.at ≡ l.width = room_filled l s (take room xs) b low n in
          cut_turn l t s xs h
          ∙ later next (drop room xs) full m
          ∙ streamed_full l next (drop room xs) b full (omega arith)
          ∙ ap (λ (v : Line). streamed l v (drop room xs)) (word_room l s (take room xs) b low (omega arith))
          ∙ sym (streamed_append l (put_word l s []) (take room xs) (drop room xs))
          ∙ ap (streamed l (put_word l s [])) (take-append-drop room xs)
      | no h ↦ cut_last l (suc t) s xs (omega arith) ∙ word_room l s xs b low (omega arith)
    ]

-- from a full line each turn takes two letters or more
full_streamed : (l : Layout) (t : ℕ) (s : Line) (xs : List ℕ) → Bounds l → s.at ≡ l.width → length xs ≤ t → cut_within l t s xs ≡ streamed l (put_word l s []) xs
full_streamed l zero s xs b full few = cut_last l zero s xs (omega arith) ∙ word_room l s xs b (omega arith) (omega arith)
full_streamed l (suc t) s xs b full few =
    let two = room_end l s.at full in
    turn_streamed l t s xs b (omega arith) (λ next ys f n. full_streamed l t next ys b f (omega (arith, b)))

-- the definition's turns are enough: only the first may take no letter
pub letters_streamed : (l : Layout) (s : Line) (xs : List ℕ) → Bounds l → s.at ≤ l.width → put_letters l s xs ≡ streamed l (put_word l s []) xs
unfolding put_letters
letters_streamed l s [] b low = cut_last l 0 s [] (omega arith) ∙ word_room l s [] b low (omega arith)
letters_streamed l s (x ∷ xs) b low =
    let e : 2 * length (x ∷ xs) ≡ suc (2 * length xs + 1) = omega arith in
    ap (λ (t : ℕ). cut_within l t s (x ∷ xs)) e
    ∙ turn_streamed l (2 * length xs + 1) s (x ∷ xs) b low (λ next ys f n. full_streamed l (2 * length xs + 1) next ys b f (omega arith))

-- ---- the code

-- the empty word: what stands before it, and no bytes
pub empty_opened : (l : Layout) (k : ℕ) (s : Line) → k ≡ 0 → put_word l s [] ≡ opened l k s
empty_opened l k s e = word_opened l k s [] e ∙ rw (append-nil (opened l k s).text)

-- a letter was put on the line, or after what begins the next
pub lays_here : (l : Layout) (x : ℕ) {line : End} {p end : ℕ} {before after : List ℕ} → line.at < l.width → p ≡ line.at + 1
    → Put (x ∷ []) line.end end before after → Lays (λ s. put_letter l s x) most_letter line (record { at = p; end = end }) before after
lays_here l x h e put =
    record {
      lays = λ s start w. rw (letter_here l s x (omega (arith, w.position))) (wrote_more w (omega (arith, w.position)) (grows_one put));
      near = omega (arith, put.ends);
    }

pub lays_next : (l : Layout) (x : ℕ) {line next : End} {k end : ℕ} {before between after : List ℕ} → l.width ≤ line.at → k ≡ 1
    → Lays (opened l k) most_before line next before between → Put (x ∷ []) next.end end between after
    → Lays (λ s. put_letter l s x) most_letter line (record { at = next.at; end = end }) before after
lays_next l x h e a put =
    let word = lays_word l {word = x ∷ []} e a (grows_one put) in
    record { lays = λ s start w. rw (letter_next l s x (omega (arith, w.position))) (word.lays s start w); near = word.near }

-- the first i letters are laid
pub record LaidTo (l : Layout) (letters : List ℕ) (i : ℕ) (first line : End) (before after : List ℕ) : Type 0 where
  pub inside : i ≤ length letters
  pub laid : Lays (λ s. streamed l s (take i letters)) (most_letter * i) first line before after

module _ (l : Layout) (letters : List ℕ) where
  pub laid_none : (line : End) (o : List ℕ) → LaidTo l letters 0 line line o o
  laid_none line o =
      record { inside = omega arith; laid = lays_as (lays_none line o) (λ s. streamed l s (take 0 letters)) (most_letter * 0) (λ s. unfold streamed in refl) (omega arith) }

  pub laid_more : {i : ℕ} {first line next : End} {before between after : List ℕ} → LaidTo l letters i first line before between → i < length letters
      → Lays (λ s. put_letter l s (get_or letters i 0)) most_letter line next between after → LaidTo l letters (i + 1) first next before after
  laid_more {i} t h one =
      record {
        inside = omega arith;
        laid = lays_as (lays_then t.laid one) (λ s. streamed l s (take (i + 1) letters)) (most_letter * (i + 1)) (λ s. streamed_next l s letters i h) (omega arith);
      }

  pub laid_all : {i : ℕ} {first line : End} {before after : List ℕ} → LaidTo l letters i first line before after → length letters ≤ i
      → Lays (λ s. streamed l s letters) (most_letter * length letters) first line before after
  laid_all {i} t h =
      lays_as t.laid (λ s. streamed l s letters) (most_letter * length letters) (λ s. ap (streamed l s) (sym (take_all i letters h))) (omega (arith, t.inside))
