-- What is counted: each function of a tally, and what is counted when an answer is compared with the next in the data.
use Rattle.std.specs.Prelude.{true, false, List, ℕ, ◌+◌, ◌-◌, eqb, ltb, length}
use Rattle.laws.specs.Tools.{pick}
use Rattle.table_file.specs.Words.{word_at}
use Rattle.vectors.specs.Answers.{is_stored}
use Rattle.vectors.specs.declared.operations.Answer.{Answer}
use Rattle.vectors.specs.declared.tally.Tally.{Tally}

-- one more, as far as can be counted
unfoldable pub more : ℕ → ℕ
more n = pick (ltb n 18446744073709551615) (n + 1) n

abbrev pub nothing_yet : Tally
nothing_yet = record { at = 0; tables = 0; layouts = 0; compared = 0; different = 0; well_formed = true }

abbrev pub malformed_at : Tally → Tally
malformed_at t =
    record { at = t.at; tables = t.tables; layouts = t.layouts; compared = t.compared; different = t.different; well_formed = false }

abbrev pub moved_to : ℕ → Tally → Tally
moved_to at t =
    record { at = at; tables = t.tables; layouts = t.layouts; compared = t.compared; different = t.different; well_formed = t.well_formed }

-- the layouts are counted anew for each table
abbrev pub with_table : Tally → Tally
with_table t =
    record { at = t.at; tables = more t.tables; layouts = 0; compared = t.compared; different = t.different; well_formed = t.well_formed }

abbrev pub with_layout : Tally → Tally
with_layout t =
    record { at = t.at; tables = t.tables; layouts = more t.layouts; compared = t.compared; different = t.different; well_formed = t.well_formed }

abbrev pub with_equal : Tally → Tally
with_equal t =
    record { at = t.at; tables = t.tables; layouts = t.layouts; compared = more t.compared; different = t.different; well_formed = t.well_formed }

abbrev pub with_different : Tally → Tally
with_different t =
    record {
      at = t.at;
      tables = t.tables;
      layouts = t.layouts;
      compared = more t.compared;
      different = more t.different;
      well_formed = t.well_formed;
    }

-- the stored length of an answer that is left out
abbrev pub left_out : ℕ
left_out = 4294967295

-- an answer that is left out is not compared, one that is the stored one does not differ
unfoldable pub judged : Tally → Answer → (length hash : ℕ) → Tally
judged t a length hash = pick (eqb length left_out) t (pick (is_stored a length hash) (with_equal t) (with_different t))

-- the stored answer is the next in the data: its length and its hash, four bytes each
unfoldable pub compared : (stored : List ℕ) → Tally → Answer → Tally
compared stored t a =
    pick (ltb (length stored - t.at) 8) (malformed_at t)
    (judged (moved_to (t.at + 8) t) a (word_at stored t.at) (word_at stored (t.at + 4)))
