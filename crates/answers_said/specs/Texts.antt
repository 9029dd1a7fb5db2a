-- The answer of the command text, as it is printed.
use Rattle.std.specs.Prelude.{ℕ, ◌-◌, List, ◌++◌, eqb, length, take, drop}
use Rattle.laws.specs.Tools.{pick}
use Rattle.defs.specs.Layout.{Layout}
use Rattle.defs.specs.Text.{text_of}
use Rattle.defs.specs.Outcome.{text_number}
use Rattle.answers_said.specs.Bytes.{bytes}
use Rattle.answers_said.specs.Lines.{ended}
use Rattle.answers_said.specs.Refusals.{refusal_line}
use Rattle.answers_said.specs.Limits.{too_large_line}

-- the part that the text is to stand in, behind its first line and before a newline
abbrev pub text_room : List ℕ → List ℕ
text_room out = take (length out - 1 - 15) (drop 15 out)

-- `room` is the slice that the text is to stand in; 15 speaks of it
unfoldable pub text_said : (w b : List ℕ) (style : ℕ) (l : Layout) (work sums room : List ℕ) → List ℕ
text_said w b style l work sums room =
    let number : ℕ = text_number w b style l work sums room in
    let done : List ℕ = bytes "done: the text\n" ++ ended (text_of w b style l) in
    let larger : List ℕ = too_large_line (bytes "the text has more bytes than") (length room) in
    pick (eqb number 0) done (pick (eqb number 15) larger (refusal_line number))
