-- A refusal as it is printed: its number, and document 01's reason in words.
use Rattle.std.specs.Prelude.{ℕ, List, [], ◌∷◌, ◌++◌, get_or}
use Rattle.defs.specs.Names.{digits}
use Rattle.answers_said.specs.Bytes.{bytes}
use Rattle.answers_said.specs.Lines.{ended}

-- the reasons in the order of their numbers; 0 is no refusal
unfoldable pub reasons : List (List ℕ)
reasons =
    bytes "done"
    ∷ bytes "fewer than 10 words, a count over its limit, a wrong offset or length"
    ∷ bytes "a statement record is wrong, or labels or hypotheses are not filled exactly"
    ∷ bytes "a label byte other than letter, digit, . - _, or two equal labels"
    ∷ bytes "a hypothesis reference out of range, of kind 0, or repeated in its list"
    ∷ bytes "an entry record is wrong, or the child references are not filled exactly"
    ∷ bytes "a child not below its parent"
    ∷ bytes "the theorem is not a statement of kind 0, or QED is not below the number of entries"
    ∷ bytes "layout outside its bounds"
    ∷ bytes "style not 0 to 4"
    ∷ bytes "compressed: the theorem's list has a floating after an essential"
    ∷ bytes "compressed: a reachable essential not in the theorem's list"
    ∷ bytes "compressed: a label to be listed longer than line width minus indent"
    ∷ bytes "normal styles: more than 1,000,000 steps"
    ∷ bytes "working slice too short"
    ∷ bytes "output does not fit"
    ∷ bytes "malformed step list or label list"
    ∷ bytes "malformed letters"
    ∷ bytes "stack short, or not exactly one item at the end"
    ∷ []

unfoldable pub reason_line : ℕ → List ℕ
reason_line number = ended (get_or reasons number [])

unfoldable pub refusal_line : ℕ → List ℕ
refusal_line number = ((bytes "refused " ++ digits number) ++ bytes ": ") ++ reason_line number
