-- Laws of the byte ranges: what each range is read as, and that `one_letter` of crate defs goes by the same decision.
-- Each test of the definition is decided by arithmetic on the byte.
use mathlib.Core.Path.{◌≡◌, refl}
use mathlib.Core.Bool.{true, ◌&&◌}
use mathlib.Core.Option.{none}
use mathlib.Core.List.{List}
use Prim.Native.Nat.{ℕ, ◌+◌, ◌-◌, ◌<◌, ◌≤◌}
use native.Mathlib.Omega.{arith}
use mir.Facts.{and_yes}
use lib.Dec.{leb, eqb, leb→le}
use borrow.Author.Tests.{le-leb, lt-leb, ne_eqb}
use Rattle.laws.specs.Lists.{boole, T_of}
use Rattle.defs.specs.Decode.{Reading, finish_code, lead_code, mark_step, one_letter}
use Rattle.letters.specs.declared.letter.Letter.{Letter}
use Rattle.letters.specs.declared.letter.Letter.TheVariants.{Finishing, Leading, Mark, Other}
use Rattle.letters.specs.Ranges.{letter_of}

-- ---- the ranges

pub is_finishing : (x digit : ℕ) → x ≡ 65 + digit → digit < 20 → letter_of x ≡ Finishing digit
unfolding letter_of
is_finishing x digit e h =
    let d : x - 65 ≡ digit = omega arith in
    simp (le-leb 65 x (omega arith), le-leb x 84 (omega arith), d)

pub is_leading : (x digit : ℕ) → x ≡ 84 + digit → 0 < digit → digit ≤ 5 → letter_of x ≡ Leading digit
unfolding letter_of
is_leading x digit e l h =
    let d : x - 84 ≡ digit = omega arith in
    simp (le-leb 65 x (omega arith), lt-leb x 84 (omega arith), le-leb 85 x (omega arith), le-leb x 89 (omega arith), d)

pub is_mark : letter_of 90 ≡ Mark
unfolding letter_of
is_mark = refl

pub is_low : (x : ℕ) → x < 65 → letter_of x ≡ Other
unfolding letter_of
is_low x h = simp (lt-leb 65 x h, lt-leb 85 x (omega arith), ne_eqb x 90 (λ e. omega arith))

pub is_high : (x : ℕ) → 90 < x → letter_of x ≡ Other
unfolding letter_of
is_high x h = simp (le-leb 65 x (omega arith), lt-leb x 84 (omega arith), le-leb 85 x (omega arith), lt-leb x 89 (omega arith), ne_eqb x 90 (λ e. omega arith))

-- the byte of a range lies between its bounds
between : {P : Type 0} (low high x : ℕ) → (leb low x && leb x high) ≡ true → (low ≤ x → x ≤ high → P) → P
between low high x t use-both =
    let p = and_yes (leb low x) (leb x high) (T_of t) in
    use-both (leb→le low x p.0) (leb→le x high p.1)

-- ---- what a letter says of the reading of its byte

abbrev pub Said : List ℕ → List ℕ → Reading → ℕ → Letter → Type 0
Said thm labels d x (Finishing digit) = (one_letter thm labels d x ≡ finish_code thm labels d x) × ((x - 65 ≡ digit) × (digit < 20))
Said thm labels d x (Leading digit) = (one_letter thm labels d x ≡ lead_code d x) × ((x - 84 ≡ digit) × ((0 < digit) × (digit ≤ 5)))
Said thm labels d x Mark = one_letter thm labels d x ≡ mark_step d
Said thm labels d x Other = one_letter thm labels d x ≡ none

pub letter_said : (thm labels : List ℕ) (d : Reading) (x : ℕ) → Said thm labels d x (letter_of x)
unfolding letter_of one_letter
letter_said thm labels d x =
    boole (leb 65 x && leb x 84)
    (λ t. rw t (rw t, (refl, between 65 84 x t (λ a b. omega arith))))
    (λ f. rw f
    (boole (leb 85 x && leb x 89)
    (λ t. rw t (rw (f, t), (refl, between 85 89 x t (λ a b. (omega arith, omega arith)))))
    (λ g. rw g
    (boole (eqb x 90) (λ t. rw t (rw (f, g, t))) (λ t. rw t (rw (f, g, t)))))))
