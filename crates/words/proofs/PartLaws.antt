-- The parts of a word, where each stands and where it does not: their bytes, and how many these are.
-- A name has at most ten digits and a label at most 255 bytes, which bounds the word.
use Rattle.std.specs.Prelude.{Option, Some, None, IfSome}
use mathlib.Core.Path.{◌≡◌, refl, sym, ap, ◌∙◌}
use mathlib.Core.List.{List, [], ◌∷◌, ◌++◌}
use Prim.Native.Nat.{ℕ, ◌+◌, ◌-◌, ◌≤◌}
use native.Mathlib.Omega.{arith}
use native.Mathlib.Decide.{ℕ_discrete}
use lib.ListN.{length, length-append}
use Rattle.laws.specs.Tools.{part}
use Rattle.laws.specs.Lists.{eqb_yes, eqb_no, part_length}
use Rattle.laws.specs.Puts.{Put, Grows, grows_none, grows_one, grows_more}
use Rattle.defs.specs.Bytes.{colon, equals_sign}
use Rattle.defs.specs.Table.{max_word, max_label_length}
use Rattle.defs.specs.Names.{digits}
use Rattle.names.proofs.Decimals.{digits_most}
use Rattle.words.specs.declared.spans.Span.{Span}
use Rattle.words.specs.declared.word.Word.{Word}
use Rattle.words.specs.Spelled.{most_mark, Inside, mark_part, hyp_part, last_part, spelled, HypLong, LastLong, WordLong}

-- ---- the mark's name and a colon

mark_none : (number : ℕ) → number ≡ 0 → mark_part (Some number) ≡ []
unfolding mark_part
mark_none number e = rw (eqb_yes number 0 e)

mark_some : (number : ℕ) → ¬ (number ≡ 0) → mark_part (Some number) ≡ digits number ++ colon ∷ []
unfolding mark_part
mark_some number h = rw (eqb_no number 0 h)

pub no_mark_long : (number : ℕ) → number ≡ 0 → 0 ≡ length (mark_part (Some number))
no_mark_long number e = sym (ap length (mark_none number e))

pub mark_long : (number : ℕ) → ¬ (number ≡ 0) → length (digits number) + 1 ≡ length (mark_part (Some number))
mark_long number h = sym (ap length (mark_some number h) ∙ length-append (digits number) (colon ∷ []))

pub no_mark_put : (at : ℕ) (out : List ℕ) → Grows (mark_part None) at at out out
unfolding mark_part
no_mark_put at out = grows_none at out

pub mark_0_put : (number at : ℕ) (out : List ℕ) → number ≡ 0 → Grows (mark_part (Some number)) at at out out
mark_0_put number at out e = rw (mark_none number e) (grows_none at out)

pub mark_put : (number : ℕ) {at mid end byte : ℕ} {before between after : List ℕ} → ¬ (number ≡ 0) → byte ≡ colon
    → Put (digits number) at mid before between → Put (byte ∷ []) mid end between after → Grows (mark_part (Some number)) at end before after
mark_put number h e a b = rw (mark_some number h, ← e) (grows_more (grows_one a) b)

-- ---- the hypothesis' label and an equals sign

module _ (labels : List ℕ) (hyp : Span) where
  hyp_none : hyp.length ≡ 0 → hyp_part labels (Some hyp) ≡ []
  unfolding hyp_part
  hyp_none e = rw (eqb_yes hyp.length 0 e)

  hyp_some : ¬ (hyp.length ≡ 0) → hyp_part labels (Some hyp) ≡ part hyp.start hyp.length labels ++ equals_sign ∷ []
  unfolding hyp_part
  hyp_some h = rw (eqb_no hyp.length 0 h)

  hyp_0_long : hyp.length ≡ 0 → 0 ≡ length (hyp_part labels (Some hyp))
  hyp_0_long e = sym (ap length (hyp_none e))

  hyp_long : Inside labels hyp → ¬ (hyp.length ≡ 0) → hyp.length + 1 ≡ length (hyp_part labels (Some hyp))
  hyp_long i h =
      omega (arith, ap length (hyp_some h), length-append (part hyp.start hyp.length labels) (equals_sign ∷ []), part_length hyp.start hyp.length labels i.inside)

  some_most : Inside labels hyp → length (hyp_part labels (Some hyp)) ≤ max_label_length + 1
  some_most i =
      elim (ℕ_discrete hyp.length 0) [
        | yes e ↦ omega (arith, hyp_0_long e)
        | no e ↦ omega (arith, hyp_long i e, i.short)
      ]

  pub hyp_0_put : (at : ℕ) (out : List ℕ) → hyp.length ≡ 0 → Grows (hyp_part labels (Some hyp)) at at out out
  hyp_0_put at out e = rw (hyp_none e) (grows_none at out)

  -- its label lies from start to stop
  pub hyp_put : {at mid end stop byte : ℕ} {before between after : List ℕ} → ¬ (hyp.length ≡ 0) → stop ≡ hyp.start + hyp.length → byte ≡ equals_sign
      → Put (part hyp.start (stop - hyp.start) labels) at mid before between → Put (byte ∷ []) mid end between after
      → Grows (hyp_part labels (Some hyp)) at end before after
  hyp_put {stop = stop} h e f a b =
      let l : stop - hyp.start ≡ hyp.length = omega arith in
      rw (hyp_some h, ← f) (grows_more (grows_one (rw l at a)) b)

pub hyp_most : (labels : List ℕ) (hyp : Option Span) → IfSome hyp (Inside labels) → length (hyp_part labels hyp) ≤ max_label_length + 1
unfolding hyp_part
hyp_most labels None i = omega arith
hyp_most labels (Some hyp) i = some_most labels hyp i

pub no_hyp_put : (labels : List ℕ) (at : ℕ) (out : List ℕ) → Grows (hyp_part labels None) at at out out
unfolding hyp_part
no_hyp_put labels at out = grows_none at out

-- ---- the label, or the referred name

module _ (labels : List ℕ) (label : Span) where
  last_label : (number : ℕ) → number ≡ 0 → last_part labels label (Some number) ≡ part label.start label.length labels
  unfolding last_part
  last_label number e = rw (eqb_yes number 0 e)

  last_name : (number : ℕ) → ¬ (number ≡ 0) → last_part labels label (Some number) ≡ digits number
  unfolding last_part
  last_name number h = rw (eqb_no number 0 h)

  pub label_put : {at end stop : ℕ} {before after : List ℕ} → stop ≡ label.start + label.length
      → Put (part label.start (stop - label.start) labels) at end before after → Grows (last_part labels label None) at end before after
  unfolding last_part
  label_put {stop = stop} e a =
      let l : stop - label.start ≡ label.length = omega arith in
      grows_one (rw l at a)

  pub label_0_put : (number : ℕ) {at end stop : ℕ} {before after : List ℕ} → number ≡ 0 → stop ≡ label.start + label.length
      → Put (part label.start (stop - label.start) labels) at end before after → Grows (last_part labels label (Some number)) at end before after
  label_0_put number {stop = stop} z e a =
      let l : stop - label.start ≡ label.length = omega arith in
      rw (last_label number z) (grows_one (rw l at a))

  pub name_put : (number : ℕ) {at end : ℕ} {before after : List ℕ} → ¬ (number ≡ 0) → Put (digits number) at end before after
      → Grows (last_part labels label (Some number)) at end before after
  name_put number h a = rw (last_name number h) (grows_one a)

-- ---- how long they are

pub no_hyp_length : HypLong None 0
unfolding hyp_part
no_hyp_length = record { most = omega arith; long = λ labels i. refl }

pub hyp_0_length : (hyp : Span) → hyp.length ≡ 0 → HypLong (Some hyp) 0
hyp_0_length hyp e = record { most = omega arith; long = λ labels i. hyp_0_long labels hyp e }

pub hyp_length : (hyp : Span) → hyp.length ≤ max_label_length → ¬ (hyp.length ≡ 0) → HypLong (Some hyp) (hyp.length + 1)
hyp_length hyp l h = record { most = omega arith; long = λ labels i. hyp_long labels hyp i h }

pub label_length : (label : Span) → label.length ≤ max_label_length → LastLong label None label.length
unfolding last_part
label_length label l = record { most = l; long = λ labels i. sym (part_length label.start label.length labels i.inside) }

pub label_0_length : (label : Span) (number : ℕ) → label.length ≤ max_label_length → number ≡ 0 → LastLong label (Some number) label.length
label_0_length label number l e =
    record { most = l; long = λ labels i. sym (ap length (last_label labels label number e) ∙ part_length label.start label.length labels i.inside) }

pub name_length : (label : Span) (number r : ℕ) → number ≤ max_word → ¬ (number ≡ 0) → r ≡ length (digits number) → LastLong label (Some number) r
name_length label number r l h e =
    record { most = omega (arith, digits_most number l); long = λ labels i. e ∙ sym (ap length (last_name labels label number h)) }

-- ---- all of it

word_long : (labels : List ℕ) (v : Word)
    → length (spelled labels v) ≡ length (mark_part v.mark) + length (hyp_part labels v.hyp) + length (last_part labels v.label v.reference)
unfolding spelled
word_long labels v =
    length-append (mark_part v.mark ++ hyp_part labels v.hyp) (last_part labels v.label v.reference)
    ∙ ap (λ (n : ℕ). n + length (last_part labels v.label v.reference)) (length-append (mark_part v.mark) (hyp_part labels v.hyp))

pub word_length : (v : Word) (mark hyp last : ℕ) → mark ≡ length (mark_part v.mark) → mark ≤ most_mark → HypLong v.hyp hyp → LastLong v.label v.reference last
    → WordLong v (mark + hyp + last)
word_length v mark hyp last m l h k =
    record {
      most = omega (arith, h.most, k.most);
      long = λ labels i. omega (arith, word_long labels v, h.long labels i.hyp_in, k.long labels i.label_is_in);
    }
