-- Demand 3: its premises, its conclusion, and the term that proves the one from the other, for every table and layout.
use Rattle.std.specs.Prelude.{◌≡◌, ℕ, ◌≤◌, false, List, length, drop}
use Rattle.std.proofs.Common.{arith}
use Rattle.std.proofs.Math.Seq.{take-append_seam}
use Rattle.defs.specs.Steps.{Step, flat}
use Rattle.defs.specs.Layout.{Layout}
use Rattle.defs.specs.Text.{packed_of, labels_of, letters_for}
use Rattle.defs.specs.Decode.{decode_outcome}
use Rattle.lengths.specs.TableWalks.{packed_length}
use Rattle.roundtrip.specs.Terms.{Decodes, written}
use Rattle.roundtrip.specs.Words.{ents, chil}
use Rattle.roundtrip.proofs.ReadBack.{store, new_table_lem, normal_reads, packed_reads, unfold_back}
use Rattle.roundtrip.proofs.LettersBack.{letters_decode}
use Rattle.roundtrip.specs.Main.{Covered, RoundTrip}

-- what a decoding wrote is the list that it decodes to
written_is : (w b labels letters : List ℕ) (list : List Step) → Decodes w b labels letters list → (out : List ℕ) → length (flat list) ≤ length out
    → written (decode_outcome w b labels letters out) ≡ flat list
unfolding Decodes written
written_is w b labels letters list d out room = rw (d out room) (take-append_seam (flat list) (drop (length (flat list)) out))

pub demand3 : (w b : List ℕ) (l : Layout) → Covered w b l → RoundTrip w b l
demand3 w b l c =
    let ok = c.good in
    let back = letters_decode w b l ok c.labels_fit c.unmixed in
    record {
      built = ents 0 (store w b ok);
      kids = chil (store w b ok);
      is_table = new_table_lem w b ok;
      normal_read = normal_reads w b ok;
      packed_read = packed_reads w b ok;
      letters_read = λ out room. rw (written_is w b (labels_of w l) (letters_for w l) (packed_of w false) back out (omega arith)) (packed_reads w b ok);
      letters_decode = back;
      unfolds = unfold_back w b ok;
      packed_size = omega (arith, packed_length w b ok);
    }
