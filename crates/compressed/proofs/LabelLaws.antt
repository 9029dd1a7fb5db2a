-- Labels laid as words: the bytes between start and end are the label, and a turn of the loop lays one label more.
-- The words laid so far are those of the part of the label list that was read.
use mathlib.Core.Path.{◌≡◌, refl, sym, ap, ◌∙◌}
use mathlib.Core.List.{List, map}
use Prim.Native.Nat.{ℕ, ◌+◌, ◌*◌, ◌≤◌, ◌<◌}
use native.Mathlib.Numerals.{add-one}
use native.Mathlib.Omega.{arith}
use lib.ListN.{length, take, get_or}
use lib.Seq.{take-suc, take_all}
use Rattle.laws.specs.Tools.{part}
use Rattle.laws.specs.Lists.{map_snoc, part_length, part_at}
use Rattle.defs.specs.Table.{label_start_in, label_length_in, label_in}
use Rattle.defs.specs.Layout.{Layout, put_word, put_words}
use Rattle.layout.specs.declared.lines.Line.{Line as End}
use Rattle.layout.specs.Laid.{most_before, Lays}
use Rattle.layout.proofs.Words.{words_more}
use Rattle.layout.proofs.Wrote.{lays_none, lays_then, lays_as}
use Rattle.compressed.specs.declared.places.Places.{Places}
use Rattle.compressed.specs.Listed.{most_label, LabelReady, LabelsReady}

-- one label
pub lays_label : (l : Layout) (ss b : List ℕ) (k : ℕ) {label : List ℕ} {line next : End} {before after : List ℕ} → LabelReady ss b k → label ≡ label_in ss b k
    → Lays (λ s. put_word l s label) (most_before + length label) line next before after → Lays (λ s. put_word l s (label_in ss b k)) most_label line next before after
unfolding label_in
lays_label l ss b k ready e laid =
    let short = ap length e ∙ part_length (label_start_in ss k) (label_length_in ss k) b ready.label_is_in in
    lays_as laid (λ s. put_word l s (label_in ss b k)) most_label (λ s. ap (put_word l s) (sym e)) (omega (arith, short, ready.short))

-- the first i labels of a list are laid
pub record LabelsTo (l : Layout) (ss b order : List ℕ) (i : ℕ) (first line : End) (before after : List ℕ) : Type 0 where
  pub laid : Lays (λ s. put_words l s (map (label_in ss b) (take i order))) (most_label * i) first line before after

module _ (l : Layout) (ss b order : List ℕ) where
  pub labels_none : (line : End) (o : List ℕ) → LabelsTo l ss b order 0 line line o o
  unfolding put_words
  labels_none line o = record { laid = lays_as (lays_none line o) (λ s. put_words l s (map (label_in ss b) (take 0 order))) (most_label * 0) (λ s. refl) (omega arith) }

  pub labels_more : (i : ℕ) {first line next : End} {before between after : List ℕ} → i < length order → LabelsTo l ss b order i first line before between
      → Lays (λ s. put_word l s (label_in ss b (get_or order i 0))) most_label line next between after → LabelsTo l ss b order (i + 1) first next before after
  labels_more i h t one =
      record {
        laid = lays_as (lays_then t.laid one) (λ s. put_words l s (map (label_in ss b) (take (i + 1) order))) (most_label * (i + 1))
            (λ s. rw (add-one i, take-suc order i 0 h, map_snoc (label_in ss b) (take i order) (get_or order i 0))
            (words_more l s (map (label_in ss b) (take i order)) (label_in ss b (get_or order i 0)))) (omega arith);
      }

-- a label of the label list can be laid
module _ (ss b : List ℕ) (p : Places) (ws : List ℕ) (ready : LabelsReady ss b p ws) where
  pub order_length : (n : ℕ) → n ≡ p.listed → length (part p.list n ws) ≡ p.listed
  order_length n e = rw e (part_length p.list p.listed ws ready.list_in)

  pub label_ready : (i n : ℕ) → n ≡ p.listed → i < p.listed → LabelReady ss b (get_or (part p.list n ws) i 0)
  label_ready i n e h =
      let k = ready.below i h in
      rw (e, part_at p.list p.listed ws i 0 h) (record {
        record_in = omega (arith, ready.statements.long);
        label_is_in = ready.statements.label_inside _ k;
        short = ready.statements.label_most _ k;
      })

  pub labels_all : {l : Layout} {i n : ℕ} {first line : End} {before after : List ℕ} → n ≡ p.listed → p.listed ≤ i → LabelsTo l ss b (part p.list n ws) i first line before after
      → i ≤ p.listed → Lays (λ s. put_words l s (map (label_in ss b) (part p.list p.listed ws))) (most_label * p.listed) first line before after
  labels_all {l} {i} {n} e f t g =
      let whole : take i (part p.list n ws) ≡ part p.list n ws = take_all i (part p.list n ws) (omega (arith, order_length n e)) in
      let all : take i (part p.list n ws) ≡ part p.list p.listed ws = whole ∙ ap (λ (k : ℕ). part p.list k ws) e in
      lays_as t.laid (λ s. put_words l s (map (label_in ss b) (part p.list p.listed ws))) (most_label * p.listed)
      (λ s. ap (λ (x : List ℕ). put_words l s (map (label_in ss b) x)) (sym all)) (omega arith)
