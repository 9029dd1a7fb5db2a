-- The letters of steps that stand in words, cut to the lines: whatever step, or list of steps, the words say.
use Rattle.std.specs.Prelude.{ℕ, ◌+◌, ◌*◌, ◌<◌, List}
use Rattle.laws.specs.Puts.{farthest}
use Rattle.defs.specs.Steps.{Step}
use Rattle.defs.specs.Letters.{step_letters, letters_of}
use Rattle.defs.specs.Layout.{Layout}
use Rattle.layout.specs.Laid.{Lays}
use Rattle.layout.specs.Streams.{streamed, most_letter}
use Rattle.layout.specs.declared.lines.Line.{Line}
use Rattle.lettering.specs.Said.{most_step, Says, SaysAll}
use Rattle.compressed.specs.declared.places.Places.{Places}

-- the letters of a step, with what may stand before each
abbrev pub most_laid : ℕ
most_laid = most_letter * most_step

-- the letters of so many steps end below the farthest place
abbrev pub NearSteps : ℕ → Line → Type 0
NearSteps many line = line.end + most_laid * many < farthest

abbrev pub StepLaid : (l : Layout) (at numbers both : ℕ) (line next : Line) (ws before after : List ℕ) → Type 0
StepLaid l at numbers both line next ws before after = (thm labels : List ℕ) (t : Step) → Says at numbers both ws thm labels t
    → Lays (λ s. streamed l s (step_letters thm labels t)) most_laid line next before after

-- the words say these lists and steps
abbrev pub SaysAt : Places → (ws thm labels : List ℕ) → List Step → Type 0
SaysAt p = SaysAll p.steps p.many p.numbers p.both

abbrev pub StepsLaid : (l : Layout) (p : Places) (line next : Line) (ws before after : List ℕ) → Type 0
StepsLaid l p line next ws before after = (thm labels : List ℕ) (ts : List Step) → SaysAt p ws thm labels ts
    → Lays (λ s. streamed l s (letters_of thm labels ts)) (most_laid * p.many) line next before after
