-- The words of steps, laid one after the other: what a loop over the steps keeps, its start, a turn and its end.
-- The words are by the sections of a table; at the end they are document 01's words of the table's steps.
use mathlib.Core.Path.{◌≡◌, refl, sym, ap, ap₂, ◌∙◌}
use Rattle.std.specs.Prelude.{Option}
use mathlib.Core.Bool.{Bool}
use mathlib.Core.List.{List, [], ◌∷◌, ◌++◌, map}
use Prim.Native.Nat.{ℕ, ◌+◌, ◌*◌, ◌≤◌}
use native.Mathlib.Omega.{arith}
use lib.ListN.{length, length-append}
use Rattle.laws.specs.Lists.{All, map_snoc}
use Rattle.defs.specs.Table.{theorem, statement_words, hyp_words}
use Rattle.defs.specs.Check.{table_refusal}
use Rattle.defs.specs.Layout.{Layout, Line, begin, put_word, put_words}
use Rattle.defs.specs.Steps.{Step}
use Rattle.defs.specs.Text.{end_word, close, step_word, steps_text}
use Rattle.layout.specs.declared.lines.Line.{Line as End}
use Rattle.layout.specs.Laid.{Wrote, Lays}
use Rattle.layout.proofs.Wrote.{wrote_all, lays_none, lays_then, lays_as, lays_kept}
use Rattle.layout.proofs.Words.{closed, words_more}
use Rattle.words.specs.Spelled.{spelled, most_laid}
use Rattle.words.specs.Carried.{StepSound}
use Rattle.words.specs.Tables.{NameIs, word_spelled}
use Rattle.steptexts.specs.Texts.{word_for, Printed}
use Rattle.steptexts.proofs.Lent.{Lent}

-- ---- by the sections

-- the bytes of a step's word, where `number` gives the numbers that name its mark and reference
abbrev pub word_in : (ss hs b : List ℕ) (thm : ℕ) (explicit : Bool) (number : ℕ → Option ℕ) → Step → List ℕ
word_in ss hs b thm explicit number t = spelled b (word_for ss hs thm explicit number t)

-- from a line on, the words of these steps are laid
pub record Laid (ss hs b : List ℕ) (thm : ℕ) (explicit : Bool) (number : ℕ → Option ℕ) (l : Layout) (ts : List Step) (line next : End) (before after : List ℕ) : Type 0 where
  pub laid : Lays (λ s. put_words l s (map (word_in ss hs b thm explicit number) ts)) (most_laid * length ts) line next before after

module _ {ss hs b : List ℕ} {thm : ℕ} {explicit : Bool} {number : ℕ → Option ℕ} {l : Layout} where
  pub none_laid : (line : End) (out : List ℕ) → Laid ss hs b thm explicit number l [] line line out out
  unfolding put_words
  none_laid line out = record { laid = lays_as (lays_none line out) _ _ (λ s. refl) (omega arith) }

  pub one_laid : {ts : List Step} (t : Step) {line next last : End} {before between after : List ℕ} → Laid ss hs b thm explicit number l ts line next before between
      → Lays (λ s. put_word l s (word_in ss hs b thm explicit number t)) most_laid next last between after
      → Laid ss hs b thm explicit number l (ts ++ (t ∷ [])) line last before after
  one_laid {ts} t a one =
      let word = word_in ss hs b thm explicit number in
      record {
        laid = lays_as (lays_then a.laid one) _ _
            (λ s. ap (put_words l s) (map_snoc word ts t) ∙ words_more l s (map word ts) (word t))
            (omega (arith, length-append ts (t ∷ [])));
      }

  -- the slice keeps its length, and the end is near
  pub laid_kept : {ts : List Step} {line next : End} {before after : List ℕ} → Laid ss hs b thm explicit number l ts line next before after → length after ≡ length before
  laid_kept a = lays_kept a.laid

  pub laid_near : {ts : List Step} {line next : End} {before after : List ℕ} → Laid ss hs b thm explicit number l ts line next before after
      → next.end ≤ line.end + most_laid * length ts
  laid_near a = a.laid.near

-- ---- of a table

module _ (w b : List ℕ) (ok : table_refusal w b ≡ 0) (explicit : Bool) (number : ℕ → Option ℕ) (m : ℕ) (names : (k : ℕ) → k ≤ m → NameIs w b k (number k)) where
  words_are : (ts : List Step) → All (StepSound w m) ts → map (word_in (statement_words w) (hyp_words w) b (theorem w) explicit number) ts ≡ map (step_word w b explicit) ts
  words_are [] a = refl
  words_are (t ∷ ts) a =
      let s = a.0 in
      ap₂ (λ (x : List ℕ) (xs : List (List ℕ)). x ∷ xs)
      (word_spelled w b ok t m s explicit (number t.mark) (number t.ref) (names t.mark s.fits.mark_most) (names t.ref s.fits.ref_most))
      (words_are ts a.1)

  -- the text begins, the words of all steps are laid, and the last word
  pub all_printed : (l : Layout) {ss hs : List ℕ} {thm : ℕ} → Lent w ss hs thm → (ts : List Step) → All (StepSound w m) ts
      → {first line last : End} {most end : ℕ} {start before between after : List ℕ} → end ≡ last.end → Wrote (begin l) first start before
      → Laid ss hs b thm explicit number l ts first line before between → Lays (λ s. put_word l s end_word) most line last between after
      → Printed (steps_text w b l explicit ts) end start after
  unfolding steps_text
  all_printed l {ss} {hs} {thm} lent ts sound {start = start} e begun a ended =
      let text : Line = put_words l (begin l) (map (word_in ss hs b thm explicit number) ts) in
      let wrote = ended.lays text start (a.laid.lays (begin l) start begun) in
      let are : text ≡ put_words l (begin l) (map (step_word w b explicit) ts) = ap (put_words l (begin l)) (rw (lent.statements_are, lent.hyps_are, lent.theorem_is) (words_are ts sound)) in
      let whole : close l (put_words l (begin l) (map (step_word w b explicit) ts)) ≡ (put_word l text end_word).text = ap (close l) (sym are) ∙ closed l text in
      record {
        ends = e ∙ wrote.ends ∙ ap length (sym whole);
        fits = λ h. rw whole (wrote_all wrote (omega (arith, wrote.ends, ap length whole)));
      }
