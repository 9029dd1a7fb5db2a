-- Which answers are asked of the library for a table, and in which order they are compared with the data.
use Rattle.std.specs.Prelude.{true, false, List, ℕ, zero, suc, ◌+◌, ◌-◌, ltb, length}
use Rattle.laws.specs.Tools.{pick}
use Rattle.defs.specs.Layout.{Layout}
use Rattle.table_file.specs.Words.{word_at}
use Rattle.vectors.specs.Answers.{parents_answer, distances_answer, list_answer, letters_answers, text_answer}
use Rattle.vectors.specs.Tallies.{malformed_at, moved_to, with_layout, compared}
use Rattle.vectors.specs.declared.operations.Answers.{Answers}
use Rattle.vectors.specs.declared.tally.Tally.{Tally}

-- parents, then distances
unfoldable pub counts_compared : (stored : List ℕ) → Tally → (w b sums out : List ℕ) → Tally
counts_compared stored t w b sums out = compared stored (compared stored t (parents_answer w b out)) (distances_answer w b sums)

-- the four step lists
unfoldable pub lists_compared : (stored : List ℕ) → Tally → (w b work out : List ℕ) → Tally
lists_compared stored t w b work out =
    let normal : Tally = compared stored t (list_answer w b false false work out) in
    let explicit : Tally = compared stored normal (list_answer w b false true work out) in
    let packed : Tally = compared stored explicit (list_answer w b true false work out) in
    compared stored packed (list_answer w b true true work out)

-- the texts of the first k styles
unfoldable pub texts_compared : (stored : List ℕ) → Tally → (w b : List ℕ) (l : Layout) (work sums bytes : List ℕ) (k : ℕ) → Tally
texts_compared stored t w b l work sums bytes zero = t
texts_compared stored t w b l work sums bytes (suc k) = compared stored (texts_compared stored t w b l work sums bytes k) (text_answer w b k l work sums bytes)

-- a layout of the data: three words
abbrev pub layout_at : (stored : List ℕ) (at : ℕ) → Layout
layout_at stored at = record { width = word_at stored at; indent = word_at stored (at + 4); first = word_at stored (at + 8) }

-- label list, letters and the five texts in the layout that is the next in the data
unfoldable pub layout_compared : (stored : List ℕ) → Tally → (w b work sums out bytes : List ℕ) → Tally
layout_compared stored t w b work sums out bytes =
    let l : Layout = layout_at stored t.at in
    let both : Answers = letters_answers w b l work sums out bytes in
    let begun : Tally = with_layout (moved_to (t.at + 12) t) in
    let lettered : Tally = compared stored (compared stored begun both.labels) both.letters in
    pick (ltb (length stored - t.at) 12) (malformed_at t) (texts_compared stored lettered w b l work sums bytes 5)
