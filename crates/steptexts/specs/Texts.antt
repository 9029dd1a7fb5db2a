-- Steps in a slice of words and their words by the sections of a table; what the texts require, and what they leave.
use Rattle.std.specs.Prelude.{◌≡◌, Option, Some, None, Bool, true, false, List, ℕ, ◌+◌, ◌*◌, ◌≤◌, ◌<◌, length, eqb}
use native.Mathlib.Omega.{arith}
use Rattle.laws.specs.Tools.{pick, part, over}
use Rattle.defs.specs.Table.{word, entries}
use Rattle.defs.specs.Check.{table_refusal}
use Rattle.defs.specs.Names.{name_number}
use Rattle.defs.specs.Steps.{Step, step_size, flat}
use Rattle.defs.specs.Layout.{Layout}
use Rattle.defs.specs.Text.{is_compressed, is_packed, is_explicit, packed_of, normal_of, steps_text, text_of}
use Rattle.defs.specs.Refusals.{need32, bad13}
use Rattle.table.specs.Records.{StatementIn}
use Rattle.walk.specs.Normal.{pair_size}
use Rattle.walk.specs.Steps.{step}
use Rattle.words.specs.declared.word.Word.{Word}
use Rattle.words.specs.Spelled.{HypReady, word_of}

-- ---- one step

-- the number that names mark m, m words past `names`; none for no mark
unfoldable pub number_at : (ws : List ℕ) (names m : ℕ) → Option ℕ
number_at ws names m = pick (eqb m 0) None (Some (word ws (names + m)))

-- the step at a place
abbrev pub step_at : List ℕ → ℕ → Step
step_at ws at = step (word ws at) (word ws (at + 1)) (word ws (at + 2)) (word ws (at + 3)) (word ws (at + 4))

-- its word by the sections of a table, where `number` gives the numbers that name its mark and reference
abbrev pub word_for : (ss hs : List ℕ) (theorem : ℕ) (explicit : Bool) (number : ℕ → Option ℕ) → Step → Word
word_for ss hs theorem explicit number t = word_of ss hs theorem explicit (number t.mark) (number t.ref) t.stmt t.parent t.index

-- what its word asks of the step at a place
pub record WordReady (ss hs : List ℕ) (theorem : ℕ) (ws : List ℕ) (at names : ℕ) : Type 0 where
  pub step_in : at + step_size ≤ length ws
  pub reference_in : names + word ws at < length ws
  pub mark_in : names + word ws (at + 1) < length ws
  pub statement_in : StatementIn ss (word ws (at + 2))
  pub at_root : word ws (at + 3) ≡ 0 → word ws (at + 4) ≡ 0
  pub hyp : HypReady ss hs theorem (word ws (at + 3)) (word ws (at + 4))

-- ---- a text

-- the end is counted always; where the text fits, it stands at the front, and what lies past its end is unchanged
pub record Printed (text : List ℕ) (end : ℕ) (before after : List ℕ) : Type 0 where
  pub ends : end ≡ length text
  pub fits : length text ≤ length before → after ≡ over text before

-- the packed list of a table stands in the words, `many` steps from `steps` on, and so do the names of as many marks as the table has entries
pub record PackedReady (w b : List ℕ) (explicit : Bool) (steps many names : ℕ) (ws : List ℕ) : Type 0 where
  pub ok : table_refusal w b ≡ 0
  pub as_many : many ≡ length (packed_of w explicit)
  pub inside : steps + step_size * many ≤ length ws
  pub holds : part steps (step_size * many) ws ≡ flat (packed_of w explicit)
  pub names_in : names + entries w < length ws
  pub named : (m : ℕ) → 0 < m → m ≤ entries w → word ws (names + m) ≡ name_number w b m

-- the normal list of a table is not refused, and its walk has room for its stack
pub record NormalReady (w b : List ℕ) (room : ℕ) : Type 0 where
  pub ok : table_refusal w b ≡ 0
  pub few : bad13 w ≡ false
  pub stack_in : pair_size * entries w ≤ room

-- ---- what an operation that writes a table's text has

module _ (w b : List ℕ) (ok : table_refusal w b ≡ 0) where
  -- the working slice has room for the stack
  pub normal_ready : (room : ℕ) → bad13 w ≡ false → need32 w ≤ room → NormalReady w b room
  unfolding need32
  normal_ready room few enough = record { ok = ok; few = few; stack_in = omega arith }

second : (c p : Bool) (x y z : List ℕ) → c ≡ false → p ≡ true → pick c x (pick p y z) ≡ y
second c p x y z e f = rw (e, f)

third : (c p : Bool) (x y z : List ℕ) → c ≡ false → p ≡ false → pick c x (pick p y z) ≡ z
third c p x y z e f = rw (e, f)

module _ (w b : List ℕ) (style : ℕ) (l : Layout) where
  -- the text of styles 2 and 4
  pub packed_style : is_compressed style ≡ false → is_packed style ≡ true → text_of w b style l ≡ steps_text w b l (is_explicit style) (packed_of w (is_explicit style))
  unfolding text_of
  packed_style plain packed = second (is_compressed style) (is_packed style) _ _ _ plain packed

  -- and of styles 1 and 3
  pub normal_style : is_compressed style ≡ false → is_packed style ≡ false → text_of w b style l ≡ steps_text w b l (is_explicit style) (normal_of w (is_explicit style))
  unfolding text_of
  normal_style plain normal = third (is_compressed style) (is_packed style) _ _ _ plain normal
