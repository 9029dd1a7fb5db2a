-- What the code keeps of a reading of crate defs, and what its answers say of one.
use Rattle.std.specs.Prelude as code
use Rattle.std.specs.Prelude.{◌≡◌, true, false, List, [], ◌++◌, ℕ, ◌+◌, ◌*◌, ◌<◌, ◌≤◌, length, set, take, drop}
use Rattle.std.proofs.Math.Option.{Option, none, some}
use Rattle.laws.specs.Tools.{over}
use Rattle.defs.specs.Table.{max_references, max_statements}
use Rattle.defs.specs.Steps.{Step, step_size, step_words, flat}
use Rattle.defs.specs.Decode.{Reading}
use Rattle.letters.specs.Numbers.{capped}
use Rattle.decode.specs.declared.steps.NamedStep.{NamedStep}
use Rattle.decode.specs.declared.reading.Decoder.{Decoder}

-- the largest number that can index
abbrev pub max_size : ℕ
max_size = 18446744073709551615

-- the two lists that numbers name, as short as they are once tests 1 to 7 and 16 have passed
pub record Short (thm list : List ℕ) : Type 0 where
  pub few_hyps : length thm ≤ max_references
  pub few_labels : length list ≤ max_statements

-- the step as it stands before a mark
abbrev pub step_of : NamedStep → Step
step_of s = record { ref = s.reference; mark = 0; stmt = s.statement; parent = 0; index = 0 }

-- ---- stores of step n, which has its words from 5n on: they are made where the slice has room for that step

abbrev pub StepPut : Step → ℕ → List ℕ → List ℕ → Type 0
StepPut t n before after =
    step_size * n + step_size ≤ length before → after ≡ (take (step_size * n) before ++ step_words t) ++ drop (step_size * n + step_size) before

-- the mark is the second word
abbrev pub MarkPut : ℕ → ℕ → List ℕ → List ℕ → Type 0
MarkPut mark n before after = step_size * n + step_size ≤ length before → after ≡ set before (step_size * n + 1) mark

-- ---- where the reading stands

-- there can be one step more, and there is a step where a code was just finished
pub record Ready (d : Decoder) : Type 0 where
  pub room : d.steps < max_size
  pub begun : d.finished ≡ true → 0 < d.steps

-- the code's state is that of a reading; the slice, which held `before`, has the words of its steps where it has room for all of them
pub record Keeps (reading : Reading) (d : Decoder) (before after : List ℕ) : Type 0 where
  pub pending_is : d.pending ≡ capped reading.pending
  pub finished_is : d.finished ≡ reading.finished
  pub given_is : d.given ≡ reading.given
  pub steps_is : d.steps ≡ length reading.out
  pub begun : d.finished ≡ true → 0 < d.steps
  pub long : length after ≡ length before
  pub holds : step_size * d.steps ≤ length before → after ≡ over (flat reading.out) before

-- ---- answers

-- after one letter: both refuse, or the code's state is that of the next reading, with so many steps at the most
unfoldable pub Came : Option Reading → code.Option Decoder → ℕ → List ℕ → List ℕ → Type 0
Came none code.None most before after = Unit {0}
Came none (code.Some d) most before after = ⊥
Came (some reading) code.None most before after = ⊥
Came (some reading) (code.Some d) most before after = Keeps reading d before after × (d.steps ≤ most)

-- after all: both refuse, or the steps are counted, and stored where the slice has room for them
unfoldable pub Wrote : Option (List Step) → code.Option ℕ → List ℕ → List ℕ → Type 0
Wrote none code.None before after = Unit {0}
Wrote none (code.Some n) before after = ⊥
Wrote (some ts) code.None before after = ⊥
Wrote (some ts) (code.Some n) before after = (n ≡ length ts) × (step_size * n ≤ length before → after ≡ over (flat ts) before)

-- the reading before the first letter
abbrev pub beginning : Reading
beginning = record { pending = 0; finished = false; given = 0; out = [] }
