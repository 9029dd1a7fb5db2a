-- Laws of the number that letters spell: what is kept in 32 bits answers as the number without a bound does.
-- All is arithmetic around one number, the cap.
use mathlib.Core.Path.{◌≡◌, refl, sym, ◌∙◌}
use Prim.Native.Nat.{ℕ, ◌+◌, ◌*◌, ◌<◌, ◌≤◌}
use native.Mathlib.Omega.{arith}
use lib.Dec.{leb}
use borrow.Author.Tests.{le-leb, lt-leb, leb-true, leb-false}
use Rattle.laws.specs.Lists.{boole}
use Rattle.std.specs.Prelude.{Option, Some, None}
use Rattle.defs.specs.Table.{max_word}
use Rattle.letters.specs.Numbers.{cap, capped, number_of}

-- ---- the cap

-- whatever letter finishes it, its number passes 32 bits; and it is the least such value
pub cap_passes : (digit : ℕ) → max_word < cap * 20 + digit
cap_passes digit = omega arith

pub cap_least : (pending : ℕ) → pending < cap → pending * 20 + 0 ≤ max_word
cap_least pending h = omega arith

-- a code is begun where what is kept says so
pub capped_zero : (pending : ℕ) → capped pending ≡ 0 → pending ≡ 0
capped_zero pending e = omega arith

pub zero_capped : (pending : ℕ) → pending ≡ 0 → capped pending ≡ 0
zero_capped pending e = omega arith

-- the next value of what is kept is what is kept of the next value
pub capped_lead : (pending digit : ℕ) → capped (capped pending * 5 + digit) ≡ capped (pending * 5 + digit)
capped_lead pending digit = omega arith

-- ---- the number

pub number_fits : (n : ℕ) → n ≤ max_word → number_of n ≡ Some n
unfolding number_of
number_fits n h = simp (le-leb n max_word h)

pub number_passes : (n : ℕ) → max_word < n → number_of n ≡ None
unfolding number_of
number_passes n h = simp (lt-leb n max_word h)

-- and back: what an answer tells of the number
abbrev pub Told : ℕ → Option ℕ → Type 0
Told n (Some m) = (m ≡ n) × (n ≤ max_word)
Told n None = max_word < n

pub number_told : (n : ℕ) → Told n (number_of n)
unfolding number_of
number_told n =
    boole (leb n max_word)
    (λ t. rw t (refl, leb-true n max_word t))
    (λ t. rw t (leb-false n max_word t))

-- the number of what is kept is the number
pub capped_number : (pending digit : ℕ) → number_of (capped pending * 20 + digit) ≡ number_of (pending * 20 + digit)
capped_number pending digit =
    boole (leb cap pending)
    (λ t. (let h : cap ≤ pending = leb-true cap pending t in
    number_passes (capped pending * 20 + digit) (omega arith) ∙ sym (number_passes (pending * 20 + digit) (omega arith))))
    (λ t. (let h : pending < cap = leb-false cap pending t in
    let e : capped pending ≡ pending = omega arith in
    rw e))
