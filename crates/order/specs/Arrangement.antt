-- What the compressed form is written from, in the working slice: packed list, numbers of the statements, label list.
use Rattle.std.specs.Prelude.{◌≡◌, false, List, ℕ, ◌+◌, ◌*◌, ◌≤◌, ◌<◌, length}
use Rattle.std.specs.Prelude.{Result}
use Rattle.std.specs.Result.{IfOk}
use Rattle.answers.specs.Refused.{answer_number}
use Rattle.answers.specs.declared.refusals.Refusal.{Refusal}
use Rattle.laws.specs.Tools.{part}
use Rattle.laws.specs.Lists.{All}
use Rattle.defs.specs.Table.{statements, entries, child_refs, statement_words, mandatory}
use Rattle.defs.specs.Check.{first_of, table_refusal}
use Rattle.defs.specs.Layout.{Layout, bad8}
use Rattle.defs.specs.Steps.{step_size, flat}
use Rattle.defs.specs.Text.{packed_of, labels_of}
use Rattle.defs.specs.Refusals.{need32, need16}
use Rattle.defs.specs.Outcome.{compressed_tests}
use Rattle.listing.specs.Listing.{Arrays}
use Rattle.lettering.specs.Said.{SaysAll, ListReady}
use Rattle.order.specs.declared.arranged.Listed.{Listed}
use Rattle.order.specs.declared.arranged.Arranged.{Arranged}

-- a good table, with the working words that document 01 asks for
pub record Listable (w : List ℕ) (room : ℕ) : Type 0 where
  pub b : List ℕ
  pub ok : table_refusal w b ≡ 0
  pub enough : need32 w ≤ room

-- its packed list stands behind a word for each entry and one more; where it ends stand the arrays of what is listed
pub record ListedIn (w : List ℕ) (r : Listed) (ws : List ℕ) : Type 0 where
  pub end_is : r.end ≡ entries w + 1 + step_size * length (packed_of w false)
  pub steps : part (entries w + 1) (step_size * length (packed_of w false)) ws ≡ flat (packed_of w false)
  pub arrays : Arrays (statement_words w) (mandatory w) (packed_of w false) r.end (statements w) r.count ws

-- the layout is right too, and there are cells for the choice
pub record Arrangeable (w : List ℕ) (l : Layout) (room cells : ℕ) : Type 0 where
  pub listable : Listable w room
  pub right : bad8 l ≡ false
  pub cells_enough : need16 w l ≤ cells

-- the packed list is said with the theorem's list and the label list, which stands there too
pub record Arrangement (w : List ℕ) (l : Layout) (r : Arranged) (ws : List ℕ) : Type 0 where
  pub says : SaysAll r.start r.steps r.numbers r.both ws (mandatory w) (labels_of w l) (packed_of w false)
  pub ready : ListReady r.start r.steps r.numbers r.both ws
  pub listed_is : r.listed ≡ length (labels_of w l)
  pub labels_in : r.labels + r.listed ≤ length ws
  pub list : part r.labels r.listed ws ≡ labels_of w l
  pub labels_below : All (λ k. k < statements w) (labels_of w l)
  pub few_listed : r.listed ≤ statements w
  pub few_steps : r.steps ≤ child_refs w + 1

-- unless one of the tests 10 to 12 refuses
pub record Arranges (w : List ℕ) (l : Layout) (r : Result Arranged Refusal) (ws : List ℕ) : Type 0 where
  pub number_is : answer_number r ≡ first_of (compressed_tests w l)
  pub done : IfOk r (λ a. Arrangement w l a ws)
