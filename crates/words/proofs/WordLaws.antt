-- A word in three parts: how long it is, that its bytes are those of its parts one after the other, and how it is laid on a line.
-- Nothing is asked of the line but that its end is near.
use mathlib.Core.Path.{refl}
use mathlib.Core.List.{List}
use Prim.Native.Nat.{ℕ}
use native.Mathlib.Omega.{arith}
use Rattle.laws.specs.Puts.{Grows, grows_then}
use Rattle.defs.specs.Layout.{Layout, put_word}
use Rattle.layout.specs.declared.lines.Line.{Line as End}
use Rattle.layout.specs.Laid.{opened, most_before, Lays}
use Rattle.layout.proofs.Wrote.{lays_as}
use Rattle.layout.proofs.Words.{lays_word}
use Rattle.words.specs.declared.word.Word.{Word}
use Rattle.words.specs.Spelled.{mark_part, hyp_part, last_part, spelled, WordInside, WordLong, most_laid}

pub spelled_put : (labels : List ℕ) (v : Word) {at hyp last end : ℕ} {before a b after : List ℕ} → Grows (mark_part v.mark) at hyp before a
    → Grows (hyp_part labels v.hyp) hyp last a b → Grows (last_part labels v.label v.reference) last end b after → Grows (spelled labels v) at end before after
unfolding spelled
spelled_put labels v m h l = grows_then (grows_then m h) l

pub word_laid : (l : Layout) (labels : List ℕ) (v : Word) {k end : ℕ} {before between after : List ℕ} {line next : End} → WordInside labels v → WordLong v k
    → Lays (opened l k) most_before line next before between → Grows (spelled labels v) next.end end between after
    → Lays (λ s. put_word l s (spelled labels v)) most_laid line (record { at = next.at; end = end }) before after
word_laid l labels v i long a g =
    let k = long.long labels i in lays_as (lays_word l k a g) (λ s. put_word l s (spelled labels v)) most_laid (λ s. refl) (omega (arith, long.most, k))
