-- Letters of a compressed proof: the number of a step, the code of a number, the letters of a packed list.
use Rattle.std.specs.Prelude.{ℕ, zero, suc, ◌+◌, ◌-◌, ◌/◌, ◌%◌, List, [], ◌∷◌, ◌++◌, length, eqb}
use Rattle.laws.specs.Tools.{pick, member, place}
use Rattle.defs.specs.Steps.{Step, is_normal}

-- the leading letters of q, put in front of `letters`: while q > 0, take 1, put `U` + q mod 5 in front, divide by 5
unfoldable pub leading : ℕ → ℕ → List ℕ → List ℕ
leading zero q letters = letters
leading (suc turns) zero letters = letters
leading (suc turns) (suc q) letters = leading turns (q / 5) ((85 + q % 5) ∷ letters)

-- the code of v: last letter `A` + v mod 20, in front of it those of v div 20
unfoldable pub code : ℕ → List ℕ
code v = leading (v / 20) (v / 20) ((65 + v % 20) ∷ [])

-- the number of a step, with the theorem's list and the label list: the place in the theorem's list;
-- else that list's length plus the place in the label list; a reference adds both lengths and its mark − 1
unfoldable pub step_number : List ℕ → List ℕ → Step → ℕ
step_number thm labels t =
    pick (is_normal t)
    (pick (member t.stmt thm) (place t.stmt thm) (length thm + place t.stmt labels))
    (length thm + length labels + (t.ref - 1))

-- a marked step is followed by `Z`
unfoldable pub step_letters : List ℕ → List ℕ → Step → List ℕ
step_letters thm labels t = code (step_number thm labels t) ++ pick (eqb t.mark 0) [] (90 ∷ [])

unfoldable pub letters_of : List ℕ → List ℕ → List Step → List ℕ
letters_of thm labels [] = []
letters_of thm labels (t ∷ ts) = step_letters thm labels t ++ letters_of thm labels ts
