-- The verdict on the letters read, and on the three ways together, at each return.
-- Slices that were lent before count by their lengths. Assumes nothing.
use mathlib.Core.Path.{◌≡◌, refl, sym, ap, ◌∙◌}
use mathlib.Core.Bool.{true, false}
use mathlib.Core.List.{List}
use Prim.Native.Nat.{ℕ}
use lib.ListN.{length, take}
use Rattle.laws.specs.Tools.{same}
use Rattle.defs.specs.Layout.{Layout}
use Rattle.defs.specs.Decode.{decode_outcome}
use Rattle.verify.specs.Gave.{Gave, gave, letters_same, decode_same}
use Rattle.verify.specs.Verified.{read_again, packed_gave, built_gave, letters_gave, decoded_gave, lists_way, spelled_way, decoded_way, letters_way, Lent, verified}
use Rattle.verify.specs.Came.{Held, Came}
use Rattle.verify.specs.Spelled.{Spelt, Decoding}
use Rattle.verify.proofs.AgainLaws.{again_same}
use Rattle.verify.specs.declared.verdict.Stage.TheVariants.{Decoded, LettersRead}
use Rattle.verify.specs.declared.verdict.Verdict.{Verdict}
use Rattle.verify.specs.Verdicts.{told}
use Rattle.verify.specs.declared.verdict.Verdict.TheVariants.{Differ}
use Rattle.std.specs.Prelude.{Result, Ok, Err}
use Rattle.verify.specs.declared.verdict.Disagreement.{Disagreement}
use Rattle.verify.specs.declared.walks.Kept.{Kept}

-- ---- the decoded steps

module _ (w b steps packed built kids work entries children : List ℕ) where
  pub decoded_differ : same steps packed ≡ false → decoded_way w b steps packed built kids work entries children ≡ Differ Decoded
  unfolding decoded_way
  decoded_differ other = rw other

  pub decoded_same : same steps packed ≡ true → (v : Verdict) → v ≡ read_again LettersRead w b steps built kids work entries children
      → v ≡ decoded_way w b steps packed built kids work entries children
  unfolding decoded_way
  decoded_same e v is = rw e is

decoded_lent : (w b steps packed built kids work work' entries entries' children children' : List ℕ)
    → length work' ≡ length work → length entries' ≡ length entries → length children' ≡ length children
    → decoded_way w b steps packed built kids work' entries' children' ≡ decoded_way w b steps packed built kids work entries children
unfolding decoded_way
decoded_lent w b steps packed built kids work work' entries entries' children children' e₁ e₂ e₃ =
    rw (again_same LettersRead w b steps built kids work work' entries entries' children children' e₁ e₂ e₃)

-- ---- the letters

pub spelt : (w b : List ℕ) (l : Layout) (work sums list letters steps steps' : List ℕ) (r : Result ℕ Disagreement) (n : ℕ) → Decoding w b l work sums list letters steps steps' r → r ≡ Ok n
    → Spelt w b l work sums list letters steps steps' n
unfolding Decoding
spelt w b l work sums list letters steps steps' r n came e = rw e at came

module _ (w b : List ℕ) (l : Layout) (packed built kids work sums steps list letters entries children : List ℕ) where
  pub letters_ended : (steps' : List ℕ) (r : Result ℕ Disagreement) (d : Disagreement) → Decoding w b l work sums list letters steps steps' r → r ≡ Err d
      → (v : Verdict) → v ≡ told d → v ≡ letters_way w b l packed built kids work sums steps list letters entries children
  unfolding Decoding letters_way
  letters_ended steps' r d came e v is =
      let ended : (next : Verdict) → spelled_way w b l work sums list letters steps next ≡ told d = rw e at came in
      is ∙ sym (ended _)

  pub letters_read : (steps' : List ℕ) (n : ℕ) → Spelt w b l work sums list letters steps steps' n → (work' : List ℕ) → length work' ≡ length work → (v : Verdict)
      → v ≡ decoded_way w b (take n steps') packed built kids work' entries children → v ≡ letters_way w b l packed built kids work sums steps list letters entries children
  unfolding letters_way
  letters_read steps' n came work' kept v is =
      is ∙ decoded_lent w b (take n steps') packed built kids work work' entries entries children children kept refl refl
      ∙ ap (λ (xs : List ℕ). decoded_way w b xs packed built kids work entries children) came.steps_kept.holds ∙ sym (came.goes_on _)

-- only the lengths of the slices lent count
letters_lent : (w b : List ℕ) (l : Layout) (packed built kids work work' sums steps steps' list letters entries entries' children children' : List ℕ)
    → length work' ≡ length work → length steps' ≡ length steps → length entries' ≡ length entries → length children' ≡ length children
    → letters_way w b l packed built kids work' sums steps' list letters entries' children' ≡ letters_way w b l packed built kids work sums steps list letters entries children
unfolding letters_way spelled_way
letters_lent w b l packed built kids work work' sums steps steps' list letters entries entries' children children' e₁ e₂ e₃ e₄ =
    let spell : letters_gave w b l work' sums list letters ≡ letters_gave w b l work sums list letters = letters_same w b l work work' sums sums list list letters letters e₁ refl refl refl in
    let decoding : decoded_gave w b l work' sums list letters steps' ≡ decoded_gave w b l work sums list letters steps =
    ap (λ (g : Gave). gave (decode_outcome w b g.first g.second steps')) spell
    ∙ decode_same w b (letters_gave w b l work sums list letters).first (letters_gave w b l work sums list letters).second steps steps' e₂ in
    rw (decoding, spell, decoded_lent w b (decoded_gave w b l work sums list letters steps).first packed built kids work work' entries entries' children children' e₁ e₃ e₄)

-- ---- the three ways

module _ (w b : List ℕ) (l : Layout) (m : Lent) where
  abbrev list : Gave
  list = packed_gave w b m.work m.packed

  abbrev read : Gave
  read = built_gave w b m.work m.packed m.built m.kids

  abbrev ways : Verdict → Verdict
  ways = lists_way w b m.work m.packed m.steps m.built m.kids m.entries m.children

  pub lists_ended : (packed built kids : List ℕ) (r : Result Kept Disagreement) (d : Disagreement) → Came ways list read packed built kids r → r ≡ Err d → told d ≡ verified w b l m
  unfolding Came verified
  lists_ended packed built kids r d came e =
      let ended : (next : Verdict) → ways next ≡ told d = rw e at came in
      sym (ended _)

  pub all_read : (packed built kids : List ℕ) (k : Kept) → Held ways list read packed built kids k → (work steps entries children : List ℕ)
      → length work ≡ length m.work → length steps ≡ length m.steps → length entries ≡ length m.entries → length children ≡ length m.children → (v : Verdict)
      → v ≡ letters_way w b l (take k.packed packed) (take k.built built) (take k.kids kids) work m.sums steps m.list m.letters entries children
      → v ≡ verified w b l m
  unfolding verified
  all_read packed built kids k came work steps entries children e₁ e₂ e₃ e₄ v is =
      is
      ∙ rw (came.packed_kept.holds, came.built_kept.holds, came.kids_kept.holds)
      (letters_lent w b l list.first read.first read.second m.work work m.sums m.steps steps m.list m.letters m.entries entries m.children children e₁ e₂ e₃ e₄)
      ∙ sym (came.goes_on _)
