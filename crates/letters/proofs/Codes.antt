-- Laws of the letters of a number: the turn of a loop that makes them from the last to the first, and how many there are.
-- The definition counts its turns; any count that is large enough says the same.
use mathlib.Core.Path.{◌≡◌, refl, sym, ap, ◌∙◌}
use mathlib.Core.List.{List, [], ◌∷◌}
use Prim.Native.Nat.{ℕ, zero, suc, ◌+◌, ◌*◌, ◌-◌, ◌/◌, ◌%◌, ◌<◌, ◌≤◌}
use native.Mathlib.Nat.{le_refl}
use native.Mathlib.Decide.{dec_lt}
use native.Mathlib.Numerals.{add-one}
use native.Mathlib.Omega.{arith}
use lib.ListN.{length}
use Rattle.defs.specs.Letters.{leading, code}
use Rattle.letters.specs.Most.{most_letters}
use Rattle.defs.specs.Table.{max_word}

-- ---- one turn

-- any number of turns that is at least q gives the leading letters of q
pub enough : (a b q : ℕ) (letters : List ℕ) → q ≤ a → q ≤ b → leading a q letters ≡ leading b q letters
unfolding leading
enough zero zero zero letters h k = refl
enough zero (suc b) zero letters h k = refl
enough (suc a) zero zero letters h k = refl
enough (suc a) (suc b) zero letters h k = refl
enough zero b (suc q) letters h k = absurd (omega arith)
enough (suc a) zero (suc q) letters h k = absurd (omega arith)
enough (suc a) (suc b) (suc q) letters h k = enough a b (q / 5) ((85 + q % 5) ∷ letters) (omega arith) (omega arith)

-- `letters`, with the leading letters of q in front
abbrev pub front : ℕ → List ℕ → List ℕ
front q letters = leading q q letters

pub front_none : (letters : List ℕ) → front 0 letters ≡ letters
unfolding leading
front_none letters = refl

-- while q > 0, take 1, put `U` + q mod 5 in front, divide by 5
pub front_turn : (q : ℕ) (letters : List ℕ) → 0 < q → front ((q - 1) / 5) ((85 + (q - 1) % 5) ∷ letters) ≡ front q letters
unfolding leading
front_turn zero letters h = absurd (omega arith)
front_turn (suc q) letters h =
    let e : suc q - 1 ≡ q = omega arith in
    rw e (enough (q / 5) q (q / 5) ((85 + q % 5) ∷ letters) (le_refl (q / 5)) (omega arith))

-- the last letter is there before the first turn
pub code_start : (v : ℕ) → front (v / 20) ((65 + v % 20) ∷ []) ≡ code v
unfolding code
code_start v = refl

-- a number below 20 is one letter
pub code_one : (v : ℕ) → v < 20 → (65 + v) ∷ [] ≡ code v
code_one v h =
    let q : v / 20 ≡ 0 = omega arith in
    let m : v % 20 ≡ v = omega arith in
    sym (front_none ((65 + v) ∷ [])) ∙ rw (q, m) at (code_start v)

-- ---- how many letters

-- each turn puts one letter, whatever stands behind it
leading_length : (turns q : ℕ) (letters : List ℕ) → length (leading turns q letters) ≡ length (leading turns q []) + length letters
unfolding leading
leading_length zero q letters = omega arith
leading_length (suc turns) zero letters = omega arith
leading_length (suc turns) (suc q) letters =
    omega (arith, leading_length turns (q / 5) ((85 + q % 5) ∷ letters), leading_length turns (q / 5) ((85 + q % 5) ∷ []))

-- how many leading letters q has
abbrev pub leads : ℕ → ℕ
leads q = length (front q [])

pub front_length : (q : ℕ) (letters : List ℕ) → length (front q letters) ≡ leads q + length letters
front_length q letters = leading_length q q letters

pub leads_none : (q : ℕ) → q ≡ 0 → leads q ≡ 0
leads_none q e = rw e (ap length (front_none []))

pub leads_turn : (q : ℕ) → 0 < q → leads ((q - 1) / 5) + 1 ≡ leads q
leads_turn q h =
    let e : length (front ((q - 1) / 5) ((85 + (q - 1) % 5) ∷ [])) ≡ leads q = ap length (front_turn q [] h) in
    omega (arith, front_length ((q - 1) / 5) ((85 + (q - 1) % 5) ∷ []))

pub code_length : (v : ℕ) → leads (v / 20) + 1 ≡ length (code v)
code_length v =
    let e : length (front (v / 20) ((65 + v % 20) ∷ [])) ≡ length (code v) = ap length (code_start v) in
    omega (arith, front_length (v / 20) ((65 + v % 20) ∷ []))

-- the max_word q that n leading letters say
unfoldable pub most : ℕ → ℕ
most zero = 0
most (suc n) = 5 * most n + 5

pub most_none : most 0 ≡ 0
unfolding most
most_none = refl

pub most_next : (n : ℕ) → most (n + 1) ≡ 5 * most n + 5
unfolding most
most_next n = rw (add-one n)

-- up to it n leading letters are enough, and past it they are too few
pub leads_few : (n q : ℕ) → q ≤ most n → leads q ≤ n
unfolding most
leads_few zero q h = omega (arith, leads_none q (omega arith))
leads_few (suc n) q h =
    elim (dec_lt 0 q) [
      | yes p ↦ omega (arith, leads_few n ((q - 1) / 5) (omega arith), leads_turn q p)
      | no p ↦ omega (arith, leads_none q (omega arith))
    ]

pub leads_many : (n q : ℕ) → most n < q → n < leads q
unfolding most
leads_many zero q h = omega (arith, leads_turn q h)
leads_many (suc n) q h = omega (arith, leads_many n ((q - 1) / 5) (omega arith), leads_turn q (omega arith))

-- the leading letters of a number of 32 bits are one fewer than its letters
pub code_most : (v : ℕ) → v ≤ max_word → length (code v) ≤ most_letters
unfolding most
code_most v h = omega (arith, code_length v, leads_few (most_letters - 1) (v / 20) (omega arith))
