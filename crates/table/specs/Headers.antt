-- The header by value, and that the header of a table that is not refused is right.
use Rattle.std.specs.Prelude.{◌≡◌, List, ℕ}
use Rattle.table.specs.declared.header.Header.{Header}
use Rattle.defs.specs.Table.{statements, references, entries, child_refs, theorem, qed}
use Rattle.defs.specs.Check.{table_refusal}
use Rattle.defs.specs.Laws.{good}
use Rattle.defs.specs.Checked.{HeaderOk, header}

-- what each field is
pub record HeaderIs (w : List ℕ) (h : Header) : Type 0 where
  pub statements_is : h.statements ≡ statements w
  pub references_is : h.references ≡ references w
  pub entries_is : h.entries ≡ entries w
  pub child_refs_is : h.child_refs ≡ child_refs w
  pub theorem_is : h.theorem.0 ≡ theorem w
  pub qed_is : h.qed.0 ≡ qed w

-- what the sections of a table that is not refused ask for
pub header_ok : (w b : List ℕ) → table_refusal w b ≡ 0 → HeaderOk w
header_ok w b ok = header w (good w b ok).ok1
