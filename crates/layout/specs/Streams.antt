-- Letters that come one after the other, with no word on how many follow (law `letters_streamed`: together they are the letters cut).
use Rattle.std.specs.Prelude.{List, [], ◌∷◌, ◌++◌, ℕ, ◌+◌, ltb}
use Rattle.laws.specs.Tools.{pick}
use Rattle.defs.specs.Layout.{Layout, Line, put_word}
use Rattle.layout.specs.Laid.{most_before}

-- a letter on a line with room; a full line is left, and the letter begins the next
unfoldable pub put_letter : Layout → Line → ℕ → Line
put_letter l s x = pick (ltb s.at l.width) (record { at = s.at + 1; text = s.text ++ x ∷ [] }) (put_word l s (x ∷ []))

unfoldable pub streamed : Layout → Line → List ℕ → Line
streamed l s [] = s
streamed l s (x ∷ xs) = streamed l (put_letter l s x) xs

-- a letter, with a newline and an indent before it
abbrev pub most_letter : ℕ
most_letter = most_before + 1
