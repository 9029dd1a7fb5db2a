-- Layout of document 01: bounds, laying words on lines, cutting the letters.
use Rattle.std.specs.Prelude.{ℕ, zero, suc, ◌+◌, ◌-◌, ◌*◌, max, Bool, not, List, [], ◌∷◌, ◌++◌, length, take, drop, replicate, eqb, leb, ltb}
use Rattle.laws.specs.Tools.{pick, all_of}
use Rattle.defs.specs.Bytes.{space, newline}

-- line width, indent, first position
pub record Layout : Type 0 where
  pub width : ℕ
  pub indent : ℕ
  pub first : ℕ

-- default width 79, indent 6, first position 0
unfoldable pub standard : Layout
standard = record { width = 79; indent = 6; first = 0 }

-- the widest line that may be asked for
abbrev pub max_width : ℕ
max_width = 255

-- bounds: width at most 255, indent at least 1 and at most width − 2, first position below indent
unfoldable pub layout_rules : Layout → List Bool
layout_rules l = leb l.width max_width ∷ leb 1 l.indent ∷ leb (l.indent + 2) l.width ∷ ltb l.first l.indent ∷ []

-- 8: layout outside its bounds
unfoldable pub bad8 : Layout → Bool
bad8 l = not (all_of (layout_rules l))

-- W = line width − indent + 1
unfoldable pub line_room : Layout → ℕ
line_room l = l.width - l.indent + 1

-- the text so far, and the position p on its last line
pub record Line : Type 0 where
  pub at : ℕ
  pub text : List ℕ

abbrev pub spaces : ℕ → List ℕ
spaces k = replicate k space

-- begin with (indent − 1 − first position) spaces and p = indent − 1
unfoldable pub begin : Layout → Line
begin l = record { at = l.indent - 1; text = spaces (l.indent - 1 - l.first) }

-- a word of length k: if p+k < width, a space, then the word, p grows by k+1; else newline, indent spaces, the word, p = indent+k
unfoldable pub put_word : Layout → Line → List ℕ → Line
put_word l s word =
    let k : ℕ = length word in
    pick (ltb (s.at + k) l.width)
    (record { at = s.at + (k + 1); text = s.text ++ space ∷ word })
    (record { at = l.indent + k; text = s.text ++ newline ∷ spaces l.indent ++ word })

unfoldable pub put_words : Layout → Line → List (List ℕ) → Line
put_words l s [] = s
put_words l s (word ∷ rest) = put_words l (put_word l s word) rest

-- room for letters: width − p − 1, or width − indent if p = width
unfoldable pub room_at : Layout → ℕ → ℕ
room_at l p = pick (eqb p l.width) (l.width - l.indent) (l.width - p - 1)

-- while room is less than the letters left, write that many as a word, even zero; then the rest.
-- After an empty word the room is at least 2, so 2 turns for each letter suffice
unfoldable pub cut_within : Layout → ℕ → Line → List ℕ → Line
cut_within l zero s letters = put_word l s letters
cut_within l (suc turns) s letters =
    let room : ℕ = room_at l s.at in
    let cut : Line = cut_within l turns (put_word l s (take room letters)) (drop room letters) in
    let rest : Line = put_word l s letters in
    pick (ltb room (length letters)) cut rest

unfoldable pub put_letters : Layout → Line → List ℕ → Line
put_letters l s letters = cut_within l (2 * length letters) s letters

-- the longest line of a text, where `at` places of its first line are taken before it
unfoldable pub widest : (at : ℕ) (text : List ℕ) → ℕ
widest at [] = at
widest at (x ∷ xs) =
    let next_line : ℕ = max at (widest 0 xs) in
    let same_line : ℕ = widest (suc at) xs in
    pick (eqb x newline) next_line same_line
