-- The letters of a step stand at the front of the array, and are laid one after the other; a turn of the loop lays those of one step
-- more. Each law is about any step and any lists that the words say.
use mathlib.Core.Path.{◌≡◌, refl, sym, ap, ◌∙◌}
use mathlib.Core.List.{List}
use Prim.Native.Nat.{ℕ, ◌+◌, ◌*◌, ◌≤◌, ◌<◌}
use native.Mathlib.Omega.{arith}
use lib.ListN.{length, get_or, take, drop}
use lib.Seq.{length-take-le, take_at, take_all}
use Rattle.defs.specs.Steps.{Step, step_size}
use Rattle.defs.specs.Letters.{step_letters, letters_of}
use Rattle.defs.specs.Layout.{Layout}
use Rattle.layout.specs.declared.lines.Line.{Line as End}
use Rattle.layout.specs.Laid.{Lays}
use Rattle.layout.specs.Streams.{streamed, most_letter}
use Rattle.layout.proofs.Cutting.{streamed_append}
use Rattle.layout.proofs.Wrote.{lays_none, lays_then, lays_as}
use Rattle.lettering.specs.Said.{most_step, Says, StepWrote}
use Rattle.lettering.proofs.Lemmas.{any_step, letters_next, step_said}
use Rattle.compressed.specs.declared.places.Places.{Places}
use Rattle.compressed.specs.Stepped.{most_laid, StepLaid, SaysAt, StepsLaid}

-- ---- one step

module _ {at numbers both end : ℕ} {ws start letters : List ℕ} (w : StepWrote at numbers both 0 end ws start letters) (long : length letters ≡ most_step) (same : length start ≡ most_step) where
  pub front_length : length (take end letters) ≡ end
  front_length = length-take-le end letters (omega (arith, w.near))

  front_is : (thm labels : List ℕ) (t : Step) → Says at numbers both ws thm labels t → take end letters ≡ step_letters thm labels t
  front_is thm labels t says =
      let g = w.wrote thm labels t says in
      ap (take end) (g.fits (omega (arith, w.near))) ∙ take_at (step_letters thm labels t) (drop end start) end (omega (arith, g.ends))

  pub lays_step : (l : Layout) {line next : End} {before after : List ℕ}
      → Lays (λ s. streamed l s (take end letters)) (most_letter * length (take end letters)) line next before after
      → StepLaid l at numbers both line next ws before after
  lays_step l laid thm labels t says =
      lays_as laid (λ s. streamed l s (step_letters thm labels t)) most_laid (λ s. ap (streamed l s) (sym (front_is thm labels t says))) (omega (arith, front_length, w.near))

-- ---- a list of steps

-- the letters of the first i steps are laid
pub record StepsTo (l : Layout) (p : Places) (ws : List ℕ) (i : ℕ) (first line : End) (before after : List ℕ) : Type 0 where
  pub inside : i ≤ p.many
  pub laid : (thm labels : List ℕ) (ts : List Step) → SaysAt p ws thm labels ts
      → Lays (λ s. streamed l s (letters_of thm labels (take i ts))) (most_laid * i) first line before after

module _ (l : Layout) (p : Places) (ws : List ℕ) where
  pub steps_none : (i : ℕ) (line : End) (o : List ℕ) → i ≡ 0 → StepsTo l p ws i line line o o
  unfolding streamed letters_of
  steps_none i line o e =
      rw e (record {
        inside = omega arith;
        laid = λ thm labels ts says. lays_as (lays_none line o) (λ s. streamed l s (letters_of thm labels (take 0 ts))) (most_laid * 0) (λ s. refl) (omega arith);
      })

  pub steps_more : {i at : ℕ} {first line next : End} {before between after : List ℕ} → i < p.many → at ≡ p.steps + step_size * i
      → StepsTo l p ws i first line before between → StepLaid l at p.numbers p.both line next ws between after
      → StepsTo l p ws (i + 1) first next before after
  steps_more {i} {at} h e t one =
      record {
        inside = omega arith;
        laid = λ thm labels ts says.
            let step : Step = get_or ts i any_step in
            let said : Says at p.numbers p.both ws thm labels step = rw e (step_said p.steps p.many p.numbers p.both i ws thm labels ts says h) in
            lays_as (lays_then (t.laid thm labels ts says) (one thm labels step said)) (λ s. streamed l s (letters_of thm labels (take (i + 1) ts))) (most_laid * (i + 1))
            (λ s. ap (streamed l s) (letters_next thm labels ts i (omega (arith, says.as_many))) ∙ streamed_append l s (letters_of thm labels (take i ts)) (step_letters thm labels step))
            (omega arith);
      }

  pub steps_all : {i : ℕ} {first line : End} {before after : List ℕ} → p.many ≤ i → StepsTo l p ws i first line before after
      → StepsLaid l p first line ws before after
  steps_all {i} h t thm labels ts says =
      lays_as (t.laid thm labels ts says) (λ s. streamed l s (letters_of thm labels ts)) (most_laid * p.many)
      (λ s. ap (λ (x : List Step). streamed l s (letters_of thm labels x)) (sym (take_all i ts (omega (arith, says.as_many))))) (omega (arith, t.inside))
