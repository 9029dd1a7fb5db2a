-- The label list in the working slice, with the number of each statement that letters speak of.
use Rattle.std.specs.Prelude.{◌≡◌, false, List, ℕ, ◌+◌, ◌-◌, ◌*◌, ◌≤◌, ◌<◌, length, ltb}
use Rattle.laws.specs.Tools.{pick, any, member, place}
use Rattle.defs.specs.Table.{word, statements, statement_words, label_length, mandatory}
use Rattle.defs.specs.Check.{table_refusal}
use Rattle.defs.specs.Layout.{max_width}
use Rattle.defs.specs.Text.{packed_of}
use Rattle.defs.specs.Order.{listed, label_list}
use Rattle.listing.specs.Arrays.{OnlyIn}
use Rattle.listing.specs.Kinds.{Holds}
use Rattle.listing.specs.Listing.{Arrays}

-- eight arrays of s words from `from` on: those of `listing`, then costs, use counts and room for the order. `width` is W
abbrev pub arrays : ℕ
arrays = 8

-- the listed statements of a table's packed list stand there, none has too long a label, and there are cells for the choice
pub record OrderReady (w : List ℕ) (from many W cells : ℕ) (ws : List ℕ) : Type 0 where
  pub b : List ℕ
  pub ok : table_refusal w b ≡ 0
  pub held : Arrays (statement_words w) (mandatory w) (packed_of w false) from (statements w) many ws
  pub narrow : W ≤ max_width
  pub begun : 2 ≤ W
  pub short : any (λ k. ltb (W - 1) (label_length w k)) (listed w (packed_of w false)) ≡ false
  pub room : from + arrays * statements w ≤ length ws
  pub cells_enough : (statements w + 1) * (W + 1) ≤ cells

-- the label list stands at `at`; each statement has its number plus 1: place in the theorem's list, or that list's length plus place
-- in the label list
pub record Ordered (w : List ℕ) (from many W at : ℕ) (ws ws' : List ℕ) : Type 0 where
  pub list : Holds at (label_list w W (packed_of w false)) ws'
  pub as_many : many ≡ length (label_list w W (packed_of w false))
  pub few : many ≤ statements w
  pub ends : at + many ≤ from + arrays * statements w
  pub numbers : (k : ℕ) → k < statements w → word ws' (from + k)
      ≡ pick (member k (label_list w W (packed_of w false))) (length (mandatory w) + place k (label_list w W (packed_of w false)) + 1)
      (pick (member k (mandatory w)) (place k (mandatory w) + 1) 0)
  pub only : OnlyIn from (from + arrays * statements w) ws ws'
