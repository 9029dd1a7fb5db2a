-- Laws of the decimal digits of a number: the turn of a loop that makes them from the last to the first, and how many there are.
-- The definition bounds its turns; any bound past the number says the same.
use mathlib.Core.Path.{◌≡◌, sym, ap, ◌∙◌}
use mathlib.Core.List.{List, [], ◌∷◌, ◌++◌, append_assoc}
use Prim.Native.Nat.{ℕ, zero, suc, ◌+◌, ◌-◌, ◌*◌, ◌/◌, ◌%◌, ◌<◌, ◌≤◌}
use native.Mathlib.Decide.{dec_lt}
use native.Mathlib.Omega.{arith}
use borrow.Author.Tests.{lt-ltb, le-ltb}
use lib.ListN.{length, take, drop, length-append, length-drop}
use lib.Seq.{take_all}
use Rattle.defs.specs.Table.{max_word}
use Rattle.defs.specs.Names.{digits_within, digits}
use Rattle.names.specs.Decimals.{most_digits}

-- ---- one turn

enough : (a b x : ℕ) → x < a → x < b → digits_within a x ≡ digits_within b x
unfolding digits_within
enough zero b x h k = absurd (omega arith)
enough (suc a) zero x h k = absurd (omega arith)
enough (suc a) (suc b) x h k =
    elim (dec_lt x 10) [
      | yes l ↦ simp (lt-ltb x 10 l)
      | no l ↦ (let t = le-ltb x 10 (omega arith) in rw t (ap (λ (d : List ℕ). d ++ (48 + x % 10) ∷ []) (enough a b (x / 10) (omega arith) (omega arith))))
    ]

-- a number below 10 is one digit
pub digits_one : (x : ℕ) → x < 10 → digits x ≡ (48 + x) ∷ []
unfolding digits digits_within
digits_one x h = simp (lt-ltb x 10 h)

-- any other has the digits of its tenth, and one more
digits_more : (x : ℕ) → 10 ≤ x → digits x ≡ digits (x / 10) ++ (48 + x % 10) ∷ []
unfolding digits digits_within
digits_more x h = rw (le-ltb x 10 h) (ap (λ (d : List ℕ). d ++ (48 + x % 10) ∷ []) (enough x (suc (x / 10)) (x / 10) (omega arith) (omega arith)))

-- a turn moves the last digit of q to those that stand
pub digits_turn : (q : ℕ) (tail : List ℕ) → 10 ≤ q → digits (q / 10) ++ ((48 + q % 10) ∷ tail) ≡ digits q ++ tail
digits_turn q tail h = rw (digits_more q h) (sym (append_assoc (digits (q / 10)) ((48 + q % 10) ∷ []) tail))

-- ---- how many digits

pub length_one : (x : ℕ) → x < 10 → length (digits x) ≡ 1
length_one x h = ap length (digits_one x h)

pub length_more : (x : ℕ) → 10 ≤ x → length (digits x) ≡ length (digits (x / 10)) + 1
length_more x h = ap length (digits_more x h) ∙ length-append (digits (x / 10)) ((48 + x % 10) ∷ [])

pub length_some : (x : ℕ) → 1 ≤ length (digits x)
length_some x =
    elim (dec_lt x 10) [
      | yes l ↦ omega (arith, length_one x l)
      | no l ↦ omega (arith, length_more x (omega arith))
    ]

-- the least number of n + 1 digits
unfoldable tens : ℕ → ℕ
tens zero = 1
tens (suc n) = 10 * tens n

digits_few : (n x : ℕ) → x < tens (suc n) → length (digits x) ≤ suc n
unfolding tens
digits_few zero x h = omega (arith, length_one x (omega arith))
digits_few (suc n) x h =
    elim (dec_lt x 10) [
      | yes l ↦ omega (arith, length_one x l)
      | no l ↦ omega (arith, length_more x (omega arith), digits_few n (x / 10) (omega arith))
    ]

pub digits_most : (x : ℕ) → x ≤ max_word → length (digits x) ≤ most_digits
unfolding tens
digits_most x h = digits_few (most_digits - 1) x (omega arith)

-- ---- an array whose last elements are the digits of v: its part from `start` to its end

pub array_part : (array : List ℕ) (start v : ℕ) → drop start array ≡ digits v → take (length array - start) (drop start array) ≡ digits v
array_part array start v last = take_all (length array - start) (drop start array) (omega (arith, length-drop start array)) ∙ last
