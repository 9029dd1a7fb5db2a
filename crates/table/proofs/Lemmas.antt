-- What lies between two offsets of the header is a section: they are where it starts, and where it starts plus its length.
-- Assumes nothing.
use Prim.Native.Nat.{ℕ, ◌+◌, ◌*◌, ◌-◌}
use mathlib.Core.List.{List}
use mathlib.Core.Path.{◌≡◌}
use native.Mathlib.Omega.{arith}
use lib.ListN.{length}
use Rattle.laws.specs.Tools.{part}
use Rattle.defs.specs.Checked.{HeaderOk}
use Rattle.defs.specs.Table.{word, header_size, stmt_size, entry_size, statements, references, entries, child_refs, hyps_from, entries_from, children_from, statement_words, hyp_words, entry_words, child_words}

pub between : (w : List ℕ) (from to start len : ℕ) → from ≡ start → to ≡ start + len → part from (to - from) w ≡ part start len w
between w from to start len e f = let long : to - from ≡ len = omega arith in rw (long, e)

module _ (w : List ℕ) (ok : HeaderOk w) (from to : ℕ) where
  pub statement_part : from ≡ word w 4 → to ≡ word w 5 → part from (to - from) w ≡ statement_words w
  unfolding statement_words
  statement_part e f = between w from to header_size (stmt_size * statements w) (omega arith) (omega arith)

  pub hyp_part_lem : from ≡ word w 5 → to ≡ word w 6 → part from (to - from) w ≡ hyp_words w
  unfolding hyp_words
  hyp_part_lem e f = between w from to (hyps_from w) (references w) (omega arith) (omega arith)

  pub entry_part : from ≡ word w 6 → to ≡ word w 7 → part from (to - from) w ≡ entry_words w
  unfolding entry_words
  entry_part e f = between w from to (entries_from w) (entry_size * entries w) (omega arith) (omega arith)

  pub child_part : from ≡ word w 7 → to ≡ length w → part from (to - from) w ≡ child_words w
  unfolding child_words
  child_part e f = between w from to (children_from w) (child_refs w) (omega arith) (omega arith)
