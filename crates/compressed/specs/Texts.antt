-- What writing a compressed text asks for, and what is then written.
use Rattle.std.specs.Prelude.{◌≡◌, ℕ, ◌≤◌, List, length}
use Rattle.laws.specs.Tools.{part, over}
use Rattle.defs.specs.Table.{max_word}
use Rattle.defs.specs.Steps.{Step}
use Rattle.defs.specs.Letters.{letters_of}
use Rattle.defs.specs.Layout.{Layout}
use Rattle.defs.specs.Text.{compressed_in}
use Rattle.lettering.specs.Said.{ListReady}
use Rattle.compressed.specs.declared.places.Places.{Places}
use Rattle.compressed.specs.Listed.{LabelsReady}
use Rattle.compressed.specs.Stepped.{SaysAt}

-- the label list and the steps stand in the words, and neither is so long that an end could wrap
pub record TextReady (ss b : List ℕ) (p : Places) (ws : List ℕ) : Type 0 where
  pub few_listed : p.listed ≤ max_word
  pub labels : LabelsReady ss b p ws
  pub few_steps : p.many ≤ max_word
  pub steps : ListReady p.steps p.many p.numbers p.both ws

-- whatever label list the words hold, and whatever theorem's list and steps they say, r is the end of that text;
-- where it fits, it stands at the front of the slice, which is past it as it was before
pub record TextWrote (l : Layout) (ss b : List ℕ) (p : Places) (r : ℕ) (ws before after : List ℕ) : Type 0 where
  pub ends : (thm order : List ℕ) (ts : List Step) → part p.list p.listed ws ≡ order → SaysAt p ws thm order ts
      → r ≡ length (compressed_in ss b l order (letters_of thm order ts))
  pub fits : (thm order : List ℕ) (ts : List Step) → part p.list p.listed ws ≡ order → SaysAt p ws thm order ts
      → r ≤ length before → after ≡ over (compressed_in ss b l order (letters_of thm order ts)) before
