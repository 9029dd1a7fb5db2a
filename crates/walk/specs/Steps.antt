-- A step in a list of words.
use Rattle.std.specs.Prelude.{List, ◌++◌, ℕ, ◌+◌, take, drop}
use Rattle.defs.specs.Steps.{Step, step_size, step_words}

abbrev pub step : (reference mark statement parent index : ℕ) → Step
step reference mark statement parent index = record { ref = reference; mark = mark; stmt = statement; parent = parent; index = index }

-- the words with a step put at a place, over the five that were there
unfoldable pub with_step : List ℕ → ℕ → Step → List ℕ
with_step ws at t = take at ws ++ step_words t ++ drop (at + step_size) ws
