-- Lines in the code and in the definitions: how a word is begun, and what a slice holds of the text laid so far.
use Rattle.std.specs.Prelude.{◌≡◌, List, [], ◌∷◌, ◌++◌, ℕ, ◌+◌, ◌<◌, ◌≤◌, ltb, length, drop}
use Rattle.laws.specs.Tools.{pick}
use Rattle.laws.specs.Puts.{farthest}
use Rattle.defs.specs.Bytes.{space, newline}
use Rattle.defs.specs.Layout.{Layout, Line, max_width, spaces}
use Rattle.layout.specs.declared.lines.Line.{Line as End}

-- ---- a word whose length is known before its bytes

-- what stands before a word of length k, and the position after the word
unfoldable pub opening : Layout → (p k : ℕ) → List ℕ
opening l p k = pick (ltb (p + k) l.width) (space ∷ []) (newline ∷ spaces l.indent)

unfoldable pub passed : Layout → (p k : ℕ) → ℕ
passed l p k = pick (ltb (p + k) l.width) (p + (k + 1)) (l.indent + k)

-- a line on which a word of length k is begun, and its bytes are to come (law `word_opened`)
unfoldable pub opened : Layout → ℕ → Line → Line
opened l k s = record { at = passed l s.at k; text = s.text ++ opening l s.at k }

-- ---- a line of the code stands for a line of the definitions

-- its position and its end are right; and where all of the text fits, the slice holds it at the front and is past it as it was at the start
pub record Wrote (s : Line) (line : End) (start held : List ℕ) : Type 0 where
  pub position : line.at ≡ s.at
  pub ends : line.end ≡ length s.text
  pub kept : length held ≡ length start
  pub fits : line.end ≤ length start → held ≡ s.text ++ drop line.end start

-- what f does to a line of the definitions, a writer does to each line of the code that stands for it; and it lays at most `most` bytes
pub record Lays (f : Line → Line) (most : ℕ) (line next : End) (before after : List ℕ) : Type 0 where
  pub lays : (s : Line) (start : List ℕ) → Wrote s line start before → Wrote (f s) next start after
  pub near : next.end ≤ line.end + most

-- ---- nothing wraps

-- every slice of bytes is shorter than this, 2 to the 63rd
abbrev pub longest : ℕ
longest = farthest + farthest

-- a newline and an indent are fewer bytes than this
abbrev pub most_before : ℕ
most_before = max_width

-- the next word of a line begins below the farthest place
abbrev pub Near : End → Type 0
Near line = line.end + most_before < farthest
