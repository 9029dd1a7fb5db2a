-- Small functions on numbers and lists that the other modules share. Nothing here is about proofs or tables.
-- Branches that recurse are bound by `let` before `pick`, so that a closed example computes only the branch taken.
use Rattle.std.specs.Prelude.{ℕ, zero, suc, ◌+◌, ◌-◌, Bool, true, false, ◌&&◌, ◌||◌, List, [], ◌∷◌, ◌++◌, map, length, take, drop, replicate, eqb}

-- the first value where the test holds, else the second
abbrev pub pick {ℓ} : {X : Type ℓ} → Bool → X → X → X
pick true x y = x
pick false x y = y

-- the numbers from `start`, `count` of them, ascending
unfoldable pub range : ℕ → ℕ → List ℕ
range start zero = []
range start (suc count) = start ∷ range (suc start) count

-- the test holds of every number below n; of some number below n
unfoldable pub all_below : (ℕ → Bool) → ℕ → Bool
all_below test zero = true
all_below test (suc n) = all_below test n && test n

unfoldable pub some_below : (ℕ → Bool) → ℕ → Bool
some_below test zero = false
some_below test (suc n) = some_below test n || test n

-- the sum of f over the numbers below n: a running sum
unfoldable pub sum_below : (ℕ → ℕ) → ℕ → ℕ
sum_below f zero = 0
sum_below f (suc n) = sum_below f n + f n

-- the first of `count` numbers from `start` at which the test holds; start + count if there is none
unfoldable pub first_from : (ℕ → Bool) → ℕ → ℕ → ℕ
first_from test start zero = start
first_from test start (suc count) = let later = first_from test (suc start) count in pick (test start) start later

-- all of these tests hold
unfoldable pub all_of : List Bool → Bool
all_of [] = true
all_of (x ∷ xs) = x && all_of xs

-- the test holds of every member; of some member
unfoldable pub all {ℓ} : {A : Type ℓ} → (A → Bool) → List A → Bool
all test [] = true
all test (x ∷ xs) = test x && all test xs

unfoldable pub any {ℓ} : {A : Type ℓ} → (A → Bool) → List A → Bool
any test [] = false
any test (x ∷ xs) = test x || any test xs

-- the members of which the test holds, in order
unfoldable pub keep {ℓ} : {A : Type ℓ} → (A → Bool) → List A → List A
keep test [] = []
keep test (x ∷ xs) = pick (test x) (x ∷ keep test xs) (keep test xs)

unfoldable pub member : ℕ → List ℕ → Bool
member x [] = false
member x (y ∷ ys) = eqb x y || member x ys

-- the place of the first x; the length if there is none
unfoldable pub place : ℕ → List ℕ → ℕ
place x [] = 0
place x (y ∷ ys) = pick (eqb x y) 0 (suc (place x ys))

abbrev pub total : List ℕ → ℕ
total [] = 0
total (x ∷ xs) = x + total xs

-- how often x stands in the list: 1 for each place where it does
abbrev pub count : ℕ → List ℕ → ℕ
count x xs = total (map (λ y. pick (eqb x y) 1 0) xs)

-- some member stands twice
unfoldable pub repeats : List ℕ → Bool
repeats [] = false
repeats (x ∷ xs) = member x xs || repeats xs

unfoldable pub same : List ℕ → List ℕ → Bool
same [] [] = true
same [] (y ∷ ys) = false
same (x ∷ xs) [] = false
same (x ∷ xs) (y ∷ ys) = eqb x y && same xs ys

-- one list after another
unfoldable pub join {ℓ} : {A : Type ℓ} → List (List A) → List A
join [] = []
join (x ∷ xs) = x ++ join xs

-- `len` elements from place `start`
abbrev pub part : ℕ → ℕ → List ℕ → List ℕ
part start len xs = take len (drop start xs)

-- a slice after a writer put `written` at its front: what lies past the end is unchanged
abbrev pub over : List ℕ → List ℕ → List ℕ
over written slice = written ++ drop (length written) slice

-- a slice of the same length, all zero
abbrev pub zeroed : List ℕ → List ℕ
zeroed slice = replicate (length slice) 0

-- a slice of the same length: `written`, then zeros
abbrev pub over_zero : List ℕ → List ℕ → List ℕ
over_zero written slice = written ++ replicate (length slice - length written) 0

-- each once, by first appearance: what is not yet there is put at the end
unfoldable pub add_new : List ℕ → List ℕ → List ℕ
add_new seen [] = seen
add_new seen (x ∷ xs) = add_new (pick (member x seen) seen (seen ++ x ∷ [])) xs

unfoldable pub firsts : List ℕ → List ℕ
firsts xs = add_new [] xs

-- sorting: x goes behind those members that must stand before it, and in front of its equals, so the sort is stable

unfoldable pub insert_by : (ℕ → ℕ → Bool) → ℕ → List ℕ → List ℕ
insert_by before x [] = x ∷ []
insert_by before x (y ∷ ys) = pick (before y x) (y ∷ insert_by before x ys) (x ∷ y ∷ ys)

unfoldable pub sort_by : (ℕ → ℕ → Bool) → List ℕ → List ℕ
sort_by before [] = []
sort_by before (x ∷ xs) = insert_by before x (sort_by before xs)
