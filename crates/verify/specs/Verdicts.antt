-- The verdict on the three ways, with the numbers of document 01; and what a result of the code says of it.
use Rattle.std.specs.Prelude.{◌≡◌, refl, ℕ, ◌-◌, List, [], ◌∷◌, ◌++◌, get_or, Result, Ok, Err}
use Rattle.std.proofs.Common.{sym, ap, ◌∙◌}
use Rattle.answers.specs.declared.refusals.Refusal.{Refusal}
use Rattle.answers.specs.declared.refusals.Refusal.TheVariants.{Header, Statements, Labels, Hypotheses, Entries, Children, Goal, Layout, Style}
use Rattle.answers.specs.declared.refusals.Refusal.TheVariants.{Mixed, StrayEssential, LongLabel, ManySteps, ShortWork, ShortOutput, BadList, BadLetters, BadStack}
use Rattle.answers.specs.Refused.{refusal_number}
use Rattle.verify.specs.declared.verdict.Stage.{Stage}
use Rattle.verify.specs.declared.verdict.Verdict.{Verdict}
use Rattle.verify.specs.declared.verdict.Verdict.TheVariants.{Agree, Refused, Differ}
use Rattle.verify.specs.declared.verdict.Disagreement.{Disagreement}
use Rattle.verify.specs.declared.verdict.Disagreement.TheVariants as code

-- why they do not agree, as a verdict; and what a result says
abbrev pub told : Disagreement → Verdict
told (code.Refused stage refusal) = Refused stage (refusal_number refusal)
told (code.Differ stage) = Differ stage

abbrev pub verdict_of : {T : Type 0} → Result T Disagreement → Verdict
verdict_of (Ok _) = Agree
verdict_of (Err disagreement) = told disagreement

-- what the operation of a stage answered: its refusal ends the comparison
abbrev pub at_stage : {T : Type 0} → Stage → Result T Refusal → Result T Disagreement
at_stage stage (Ok given) = Ok given
at_stage stage (Err refusal) = Err (code.Refused stage refusal)

-- ---- a verdict tells which result it is of: no two refusals have one number

refusals : List Refusal
refusals =
    (Header ∷ Statements ∷ Labels ∷ Hypotheses ∷ Entries ∷ Children ∷ Goal ∷ Layout ∷ Style ∷ [])
    ++ (Mixed ∷ StrayEssential ∷ LongLabel ∷ ManySteps ∷ ShortWork ∷ ShortOutput ∷ BadList ∷ BadLetters ∷ BadStack ∷ [])

refusal_with : ℕ → Refusal
refusal_with number = get_or refusals (number - 1) Header

known : (r : Refusal) → refusal_with (refusal_number r) ≡ r
unfolding refusal_with refusals
known Header = refl
known Statements = refl
known Labels = refl
known Hypotheses = refl
known Entries = refl
known Children = refl
known Goal = refl
known Layout = refl
known Style = refl
known Mixed = refl
known StrayEssential = refl
known LongLabel = refl
known ManySteps = refl
known ShortWork = refl
known ShortOutput = refl
known BadList = refl
known BadLetters = refl
known BadStack = refl

told_once : (d d' : Disagreement) → told d ≡ told d' → d ≡ d'
told_once (code.Refused s r) (code.Refused s' r') e =
    let stage : s ≡ s' = cc in
    let number : refusal_number r ≡ refusal_number r' = cc in
    let refusal : r ≡ r' = sym (known r) ∙ ap refusal_with number ∙ known r' in
    rw (stage, refusal)
told_once (code.Refused s r) (code.Differ s') e = cc
told_once (code.Differ s) (code.Refused s' r') e = cc
told_once (code.Differ s) (code.Differ s') e = let stage : s ≡ s' = cc in ap code.Differ stage

agrees_not : (d : Disagreement) → told d ≡ Agree → {P : Type 0} → P
agrees_not (code.Refused s r) e = cc
agrees_not (code.Differ s) e = cc

pub verdict_once : {T : Type 0} (r r' : Result T Disagreement) → verdict_of r ≡ verdict_of r' → ((x y : T) → x ≡ y) → r ≡ r'
verdict_once (Ok x) (Ok y) e one = ap Ok (one x y)
verdict_once (Ok x) (Err d') e one = agrees_not d' (sym e)
verdict_once (Err d) (Ok y) e one = agrees_not d e
verdict_once (Err d) (Err d') e one = ap Err (told_once d d' e)
