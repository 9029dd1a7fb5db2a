-- The children of an entry of a table, as the packed walk reads them.
use Rattle.std.specs.Prelude.{◌≡◌, Bool, List, ℕ, ◌+◌, ◌<◌}
use Rattle.defs.specs.Table.{entry_words, child_words, entry_stmt_in, child_start_in, child_count_in}
use Rattle.defs.specs.Steps.{parent_word}
use Rattle.defs.specs.Checked.{HeaderOk}
use Rattle.walk.specs.Entries.{size, Entries}

-- e is an entry of the table w
pub record EntryOf (w : List ℕ) (e : ℕ) : Type 0 where
  pub header : HeaderOk w
  pub entries : Entries (entry_words w) (child_words w)
  pub inside : e < size (entry_words w)

-- where its children stand in the child section, and the parent word that each carries
pub record ChildrenOf (w : List ℕ) (explicit : Bool) (e first until parent : ℕ) : Type 0 where
  pub first_is : first ≡ child_start_in (entry_words w) e
  pub until_is : until ≡ first + child_count_in (entry_words w) e
  pub parent_is : parent ≡ parent_word explicit (entry_stmt_in (entry_words w) e)
