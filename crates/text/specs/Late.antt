-- The answer once the work has begun: tests 10 to 12 (style 0), 13 (styles 1 and 3), 15.
use Rattle.std.specs.Prelude.{◌≡◌, false, not, ◌&&◌, List, [], ◌∷◌, ◌++◌, ℕ, ◌≤◌}
use Rattle.laws.specs.Tools.{pick}
use Rattle.defs.specs.Check.{◌when◌, first_of, table_refusal}
use Rattle.defs.specs.Layout.{Layout, bad8}
use Rattle.defs.specs.Text.{is_compressed, is_packed, text_of}
use Rattle.defs.specs.Refusals.{bad13, bad15, need32, need16}
use Rattle.defs.specs.Outcome.{compressed_tests, length_after, out_after}

-- what test 14 and those before it leave: a good table, a right layout, enough words
pub record Writable (w b : List ℕ) (l : Layout) (room : ℕ) : Type 0 where
  pub ok : table_refusal w b ≡ 0
  pub right : bad8 l ≡ false
  pub enough : need32 w ≤ room

-- style 0 also asks for these
abbrev pub WritableSums : (w : List ℕ) (l : Layout) (cells : ℕ) → Type 0
WritableSums w l cells = need16 w l ≤ cells

unfoldable pub late_number : (w b : List ℕ) (style : ℕ) (l : Layout) (out : List ℕ) → ℕ
late_number w b style l out =
    first_of (pick (is_compressed style) (compressed_tests w l) []
    ++ 13 when (not (is_packed style) && bad13 w)
    ∷ 15 when bad15 (text_of w b style l) out
    ∷ [])

-- the number, the length and the output
pub record WroteText (w b : List ℕ) (style : ℕ) (l : Layout) (number len : ℕ) (out out' : List ℕ) : Type 0 where
  pub number_is : number ≡ late_number w b style l out
  pub length_is : len ≡ length_after (late_number w b style l out) (text_of w b style l)
  pub out_is : out' ≡ out_after (late_number w b style l out) (text_of w b style l) out
