-- Sums over a list and over the numbers below n; how often a number stands in a list.
use Rattle.std.specs.Prelude.{◌≡◌, refl, ◌≢◌, ℕ, zero, suc, ◌+◌, ◌*◌, ◌≤◌, ◌<◌, Bool, true, false, List, [], ◌∷◌, ◌++◌, map, length, get_or, T, eqb}
use Rattle.std.proofs.Common.{sym, ap, ap₂, ◌∙◌, subst, arith, eqb→eq}
use Rattle.std.proofs.Math.Decide.{dec_lt}
use Rattle.std.proofs.Math.Dec.{eqb_refl}
use Rattle.laws.specs.Tools.{pick, member, total, count, sum_below}
use Rattle.laws.specs.Lists.{boole, T_of, of_T, All}

abbrev pub tot : (ℕ → ℕ) → List ℕ → ℕ
tot w xs = total (map w xs)

-- a test as a number: `count x xs` is the sum of `bit (eqb x y)` over the members y
abbrev pub bit : Bool → ℕ
bit b = pick b 1 0

pub bit_cases {ℓ} : {X : Type ℓ} (x y : ℕ) → (x ≡ y → bit (eqb x y) ≡ 1 → X) → (x ≢ y → bit (eqb x y) ≡ 0 → X) → X
bit_cases x y f g =
    boole (eqb x y) (λ h. f (eqb→eq x y (T_of h)) (rw h)) (λ h. g (λ e. T_of (sym h ∙ ap (eqb x) (sym e) ∙ of_T (eqb x x) (eqb_refl x))) (rw h))

pub tot_append : (w : ℕ → ℕ) (xs ys : List ℕ) → tot w (xs ++ ys) ≡ tot w xs + tot w ys
tot_append w [] ys = omega arith
tot_append w (x ∷ xs) ys = omega (arith, tot_append w xs ys)

pub count_append : (x : ℕ) (xs ys : List ℕ) → count x (xs ++ ys) ≡ count x xs + count x ys
count_append x = tot_append (λ y. bit (eqb x y))

pub tot_ge : (w : ℕ → ℕ) (p : ℕ) (xs : List ℕ) → 1 ≤ count p xs → w p ≤ tot w xs
tot_ge w p [] h = absurd (omega arith)
tot_ge w p (x ∷ xs) h = bit_cases p x (λ e h1. rw e (omega arith)) (λ e h0. let ih = tot_ge w p xs (omega arith) in omega arith)

pub length_tot : (xs : List ℕ) → length xs ≡ tot (λ x. 1) xs
length_tot [] = refl
length_tot (x ∷ xs) = omega (arith, length_tot xs)

pub sum_le : (f g : ℕ → ℕ) (n : ℕ) → ((x : ℕ) → x < n → f x ≤ g x) → sum_below f n ≤ sum_below g n
unfolding sum_below
sum_le f g zero h = omega arith
sum_le f g (suc n) h = omega (arith, sum_le f g n (λ x l. h x (omega arith)), h n (omega arith))

pub sum_eq : (f g : ℕ → ℕ) (n : ℕ) → ((x : ℕ) → x < n → f x ≡ g x) → sum_below f n ≡ sum_below g n
unfolding sum_below
sum_eq f g zero h = refl
sum_eq f g (suc n) h = omega (arith, sum_eq f g n (λ x l. h x (omega arith)), h n (omega arith))

pub sum_zero : (f : ℕ → ℕ) (n : ℕ) → ((x : ℕ) → x < n → f x ≡ 0) → sum_below f n ≡ 0
unfolding sum_below
sum_zero f zero h = refl
sum_zero f (suc n) h = omega (arith, sum_zero f n (λ x l. h x (omega arith)), h n (omega arith))

pub sum_one : (n : ℕ) → sum_below (λ x. 1) n ≡ n
unfolding sum_below
sum_one zero = refl
sum_one (suc n) = omega (arith, sum_one n)

pub sum_mono : (f : ℕ → ℕ) (k n : ℕ) → k ≤ n → sum_below f k ≤ sum_below f n
unfolding sum_below
sum_mono f k zero h = subst (λ (j : ℕ). sum_below f j ≤ 0) (sym (let e : k ≡ 0 = omega arith in e)) (omega arith)
sum_mono f k (suc n) h =
    elim (dec_lt k (suc n)) [
      | yes l ↦ omega (arith, sum_mono f k n (omega arith))
      | no l ↦ (let e : k ≡ suc n = omega arith in rw e (omega arith))
    ]

pub sum_add : (f g : ℕ → ℕ) (n : ℕ) → sum_below (λ x. f x + g x) n ≡ sum_below f n + sum_below g n
unfolding sum_below
sum_add f g zero = refl
sum_add f g (suc n) = omega (arith, sum_add f g n)

sum_bit : (w : ℕ → ℕ) (e n : ℕ) → e < n → sum_below (λ x. bit (eqb x e) * w x) n ≡ w e
unfolding sum_below
sum_bit w e zero h = absurd (omega arith)
sum_bit w e (suc n) h =
    bit_cases n e
    (λ i h1. let z = sum_zero (λ x. bit (eqb x e) * w x) n (λ x l. bit_cases x e (λ j k1. absurd (omega arith)) (λ j k0. rw k0 (omega arith))) in
    rw h1 (omega (arith, z, ap w i)))
    (λ i h0. let ih = sum_bit w e n (omega arith) in rw h0 (omega arith))

-- a test that holds of one number at the most
pub sum_once : (test : ℕ → Bool) (n : ℕ) → ((x y : ℕ) → test x ≡ true → test y ≡ true → x ≡ y) → sum_below (λ x. bit (test x)) n ≤ 1
unfolding sum_below
sum_once test zero one = omega arith
sum_once test (suc n) one =
    boole (test n)
    (λ h. let none = sum_zero (λ x. bit (test x)) n (λ x l. boole (test x) (λ t. absurd (omega (arith, one x n t h))) (λ t. rw t)) in rw h (omega arith))
    (λ h. rw h (omega (arith, sum_once test n one)))

-- a sum over a list, by how often each number stands in it
pub tot_sum : (w : ℕ → ℕ) (n : ℕ) (xs : List ℕ) → All (λ x. x < n) xs → tot w xs ≡ sum_below (λ x. count x xs * w x) n
tot_sum w n [] h = sym (sum_zero (λ x. 0 * w x) n (λ x l. omega arith))
tot_sum w n (e ∷ xs) h =
    ap₂ (λ (a b : ℕ). a + b) (sym (sum_bit w e n h.0)) (tot_sum w n xs h.1)
    ∙ sym (sum_add (λ x. bit (eqb x e) * w x) (λ x. count x xs * w x) n)
    ∙ sum_eq (λ x. bit (eqb x e) * w x + count x xs * w x) (λ x. count x (e ∷ xs) * w x) n (λ x l. omega arith)

-- ---- counts and properties

pub count_self : (x : ℕ) (xs : List ℕ) → 1 ≤ count x (x ∷ xs)
count_self x xs = bit_cases x x (λ i h. omega arith) (λ i h. absurd (i refl))

pub head_in : (xs : List ℕ) → 1 ≤ length xs → (x : ℕ) × (1 ≤ count x xs)
head_in [] h = absurd (omega arith)
head_in (x ∷ xs) h = (x, count_self x xs)

pub all_count : (P : ℕ → Type 0) (es : List ℕ) → ((k : ℕ) → 1 ≤ count k es → P k) → All P es
all_count P [] f = tt
all_count P (e ∷ es) f =
    (f e (count_self e es), all_count P es (λ k h. f k (omega arith)))

pub count_all : (P : ℕ → Type 0) (es : List ℕ) → All P es → (k : ℕ) → 1 ≤ count k es → P k
count_all P [] a k h = absurd (omega arith)
count_all P (e ∷ es) a k h = bit_cases k e (λ i y. rw i a.0) (λ i y. count_all P es a.1 k (omega arith))

pub member_count : (x : ℕ) (xs : List ℕ) → T (member x xs) → 1 ≤ count x xs
unfolding member
member_count x [] t = absurd t
member_count x (y ∷ ys) t = boole (eqb x y) (λ h. rw h (omega arith)) (λ h. rw h (omega (arith, member_count x ys (rw h at t))))

pub count_member : (x : ℕ) (xs : List ℕ) → 1 ≤ count x xs → T (member x xs)
unfolding member
count_member x [] h = absurd (omega arith)
count_member x (y ∷ ys) h = boole (eqb x y) (λ e. rw e tt) (λ e. rw e (count_member x ys (omega (arith, ap bit e))))

pub count_no : (x : ℕ) (xs : List ℕ) → member x xs ≡ false → count x xs ≡ 0
unfolding member
count_no x [] h = refl
count_no x (y ∷ ys) h = boole (eqb x y) (λ e. absurd (T_of (sym (rw e at h)))) (λ e. omega (arith, count_no x ys (rw e at h), ap bit e))

pub count_most : (x : ℕ) (xs : List ℕ) → count x xs ≤ length xs
count_most x [] = omega arith
count_most x (y ∷ ys) = bit_cases x y (λ e h. omega (arith, count_most x ys)) (λ e h. omega (arith, count_most x ys))

pub count_length : (k : ℕ) (es : List ℕ) → 1 ≤ count k es → 1 ≤ length es
count_length k es h = omega (arith, count_most k es)

pub mul_le : (a b : ℕ) → a ≤ 1 → a * b ≤ b
mul_le zero b h = omega arith
mul_le (suc zero) b h = omega arith
mul_le (suc (suc a)) b h = absurd (omega arith)

-- a list whose elements tell their places has no element twice
count_none : (f : ℕ → ℕ) (off x : ℕ) → f x ≤ off → (xs : List ℕ) → ((i : ℕ) → i < length xs → off < f (get_or xs i 0)) → count x xs ≡ 0
count_none f off x l [] h = refl
count_none f off x l (y ∷ xs) h =
    bit_cases x y
    (λ i h1. absurd (omega (arith, h 0 (omega arith), ap f i)))
    (λ i h0. omega (arith, count_none f off x l xs (λ j m. h (suc j) (omega arith))))

pub count_places : (f : ℕ → ℕ) (off : ℕ) (xs : List ℕ) → ((i : ℕ) → i < length xs → f (get_or xs i 0) ≡ off + i) → (x : ℕ) → count x xs ≤ 1
count_places f off [] h x = omega arith
count_places f off (y ∷ xs) h x =
    let g : (i : ℕ) → i < length xs → f (get_or xs i 0) ≡ suc off + i = λ i m. omega (arith, h (suc i) (omega arith)) in
    bit_cases x y
    (λ i h1. omega (arith, count_none f off x (omega (arith, ap f i, h 0 (omega arith))) xs (λ j m. omega (arith, g j m))))
    (λ i h0. omega (arith, count_places f (suc off) xs g x))
