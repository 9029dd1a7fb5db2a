-- The answer of letters alone, once the earlier tests have passed.
use Rattle.std.proofs.Math.Option.{Option}
use Rattle.std.specs.Prelude.{List, [], ◌∷◌, ℕ}
use Rattle.defs.specs.Check.{◌when◌, first_of}
use Rattle.defs.specs.Steps.{Step, flat}
use Rattle.defs.specs.Refusals.{bad15}
use Rattle.defs.specs.Outcome.{Outcome, one_output}
use Rattle.defs.specs.Decode.{refused_steps, steps_or}

-- 17, then 15 (law `letters_left`: it is `decode_outcome` of crate defs where tests 1 to 7, 10 and 16 pass)
unfoldable pub letters_outcome : Option (List Step) → List ℕ → Outcome
letters_outcome steps out =
    one_output (first_of (17 when refused_steps steps ∷ 15 when bad15 (flat (steps_or steps)) out ∷ [])) (flat (steps_or steps)) [] out
