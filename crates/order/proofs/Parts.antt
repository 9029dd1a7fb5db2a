-- A part of a slice by its words: what it is, and that it stays where only other words change.
-- Two lists are equal where they are as long and agree at each place.
use mathlib.Core.Path.{◌≡◌, sym, ◌∙◌}
use mathlib.Core.List.{List}
use Prim.Native.Nat.{ℕ, ◌+◌, ◌≤◌, ◌<◌}
use native.Mathlib.Omega.{arith}
use lib.ListN.{length, get_or}
use lib.Seq.{ext_get_or}
use Rattle.laws.specs.Tools.{part}
use Rattle.laws.specs.Lists.{part_at, part_length}
use Rattle.defs.specs.Table.{word}

module _ (at len : ℕ) (ws : List ℕ) (inside : at + len ≤ length ws) where
  pub part_is : (xs : List ℕ) → length xs ≡ len → ((i : ℕ) → i < len → word ws (at + i) ≡ get_or xs i 0) → part at len ws ≡ xs
  part_is xs long each =
      let k : length (part at len ws) ≡ len = part_length at len ws inside in
      ext_get_or 0 (part at len ws) xs (k ∙ sym long) (λ i l. part_at at len ws i 0 (omega arith) ∙ each i (omega arith))

  pub part_kept : (ws' : List ℕ) → length ws' ≡ length ws → ((j : ℕ) → at ≤ j → j < at + len → word ws' j ≡ word ws j) → part at len ws ≡ part at len ws'
  part_kept ws' long each =
      part_is (part at len ws') (part_length at len ws' (omega arith)) (λ i l.
      let same : word ws' (at + i) ≡ word ws (at + i) = each (at + i) (omega arith) (omega arith) in
      sym same ∙ sym (part_at at len ws' i 0 l))
