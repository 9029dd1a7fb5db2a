-- How often a number stands in a list that is sorted, kept, picked out or mapped. Nothing here is about proofs or tables.
use Rattle.std.specs.Prelude.{◌≡◌, refl, ℕ, zero, suc, ◌+◌, ◌*◌, ◌≤◌, ◌<◌, min, Bool, true, false, not, ◌&&◌, ◌||◌, List, [], ◌∷◌, ◌++◌, map, length, get_or, eqb}
use Rattle.std.proofs.Common.{sym, ap, ap₂, ◌∙◌, arith, ext_get_or}
use Rattle.std.proofs.lemmas.List.{length-map}
use Rattle.laws.specs.Tools.{pick, sum_below, range, any, keep, member, repeats, count, add_new, firsts, insert_by, sort_by}
use Rattle.laws.specs.Lists.{of_T, or_no, and_false, and_true, boole, T_of, no_T, clash, All, all_get_d, get_d_map, range_length, range_at}
use Rattle.laws.specs.Sums.{count_member, sum_le, sum_one, tot, bit, bit_cases, count_append, length_tot, sum_eq, tot_sum, all_count, count_all, member_count, count_no, count_self, count_places}

-- ---- sorting moves, and adds or drops nothing

tot_insert : (w : ℕ → ℕ) (before : ℕ → ℕ → Bool) (x : ℕ) (ys : List ℕ) → tot w (insert_by before x ys) ≡ w x + tot w ys
unfolding insert_by
tot_insert w before x [] = refl
tot_insert w before x (y ∷ ys) = boole (before y x) (λ h. rw h (omega (arith, tot_insert w before x ys))) (λ h. rw h)

tot_sort : (w : ℕ → ℕ) (before : ℕ → ℕ → Bool) (xs : List ℕ) → tot w (sort_by before xs) ≡ tot w xs
unfolding sort_by
tot_sort w before [] = refl
tot_sort w before (x ∷ xs) = omega (arith, tot_insert w before x (sort_by before xs), tot_sort w before xs)

pub count_sort : (x : ℕ) (before : ℕ → ℕ → Bool) (xs : List ℕ) → count x (sort_by before xs) ≡ count x xs
count_sort x = tot_sort (λ y. bit (eqb x y))

pub length_sort : (before : ℕ → ℕ → Bool) (xs : List ℕ) → length (sort_by before xs) ≡ length xs
length_sort before xs = length_tot (sort_by before xs) ∙ tot_sort (λ y. 1) before xs ∙ sym (length_tot xs)

-- ---- keeping

pub count_keep : (test : ℕ → Bool) (x : ℕ) (xs : List ℕ) → count x (keep test xs) ≡ pick (test x) (count x xs) 0
unfolding keep
count_keep test x [] = boole (test x) (λ h. rw h) (λ h. rw h)
count_keep test x (y ∷ ys) =
    let ih = count_keep test x ys in
    bit_cases x y
    (λ i h1. boole (test y)
    (λ h. let hx : test x ≡ true = ap test i ∙ h in rw (h, hx) (omega (arith, rw hx at ih)))
    (λ h. let hx : test x ≡ false = ap test i ∙ h in rw (h, hx) (rw hx at ih)))
    (λ i h0. boole (test y)
    (λ h. boole (test x) (λ hx. rw (h, hx) (omega (arith, rw hx at ih))) (λ hx. rw (h, hx) (omega (arith, rw hx at ih))))
    (λ h. boole (test x) (λ hx. rw (h, hx) (omega (arith, rw hx at ih))) (λ hx. rw (h, hx) (rw hx at ih))))

pub keep_shorter : (test : ℕ → Bool) (xs : List ℕ) → length (keep test xs) ≤ length xs
unfolding keep
keep_shorter test [] = omega arith
keep_shorter test (x ∷ xs) = boole (test x) (λ h. rw h (omega (arith, keep_shorter test xs))) (λ h. rw h (omega (arith, keep_shorter test xs)))

pub keep_drops : (test : ℕ → Bool) (x : ℕ) (xs : List ℕ) → 1 ≤ count x xs → test x ≡ false → length (keep test xs) < length xs
unfolding keep
keep_drops test x [] h f = absurd (omega arith)
keep_drops test x (y ∷ ys) h f =
    boole (test y)
    (λ t. rw t (bit_cases x y (λ i h1. clash (test x) (ap test i ∙ t) f) (λ i h0. omega (arith, keep_drops test x ys (omega arith) f))))
    (λ t. rw t (omega (arith, keep_shorter test ys)))

-- the two halves of a test
pub count_halves : (test : ℕ → Bool) (x : ℕ) (xs : List ℕ) → count x (keep (λ k. not (test k)) xs ++ keep test xs) ≡ count x xs
count_halves test x xs =
    count_append x (keep (λ k. not (test k)) xs) (keep test xs)
    ∙ ap₂ (λ (a b : ℕ). a + b) (count_keep (λ k. not (test k)) x xs) (count_keep test x xs)
    ∙ boole (test x) (λ h. rw h (omega arith)) (λ h. rw h (omega arith))

-- ---- each once

count_new : (x : ℕ) (seen xs : List ℕ) → count x seen ≤ 1 → count x (add_new seen xs) ≡ min 1 (count x seen + count x xs)
unfolding add_new
count_new x seen [] h = omega arith
count_new x seen (y ∷ ys) h =
    boole (member y seen)
    (λ m. rw m (bit_cases x y
    (λ i h1. let o : 1 ≤ count x seen = rw i (member_count y seen (T_of m)) in omega (arith, count_new x seen ys h))
    (λ i h0. omega (arith, count_new x seen ys h))))
    (λ m. rw m
    (let more : count x (seen ++ (y ∷ [])) ≡ count x seen + bit (eqb x y) = omega (arith, count_append x seen (y ∷ [])) in
    bit_cases x y
    (λ i h1. let none : count x seen ≡ 0 = rw i (count_no y seen m) in omega (arith, count_new x (seen ++ (y ∷ [])) ys (omega arith)))
    (λ i h0. omega (arith, count_new x (seen ++ (y ∷ [])) ys (omega arith)))))

pub count_firsts : (x : ℕ) (xs : List ℕ) → count x (firsts xs) ≡ min 1 (count x xs)
unfolding firsts
count_firsts x xs = count_new x [] xs (omega arith) ∙ omega arith

-- one more: nothing new, or a new one at the end
add_append : (seen xs ys : List ℕ) → add_new seen (xs ++ ys) ≡ add_new (add_new seen xs) ys
unfolding add_new
add_append seen [] ys = refl
add_append seen (x ∷ xs) ys = add_append (pick (member x seen) seen (seen ++ x ∷ [])) xs ys

firsts_snoc : (xs : List ℕ) (x : ℕ) → firsts (xs ++ (x ∷ [])) ≡ pick (member x (firsts xs)) (firsts xs) (firsts xs ++ (x ∷ []))
unfolding firsts add_new
firsts_snoc xs x = add_append [] xs (x ∷ [])

pub firsts_known : (xs : List ℕ) (x : ℕ) → 1 ≤ count x xs → firsts (xs ++ (x ∷ [])) ≡ firsts xs
firsts_known xs x h = firsts_snoc xs x ∙ rw (of_T (member x (firsts xs)) (count_member x (firsts xs) (omega (arith, count_firsts x xs))))

pub firsts_new : (xs : List ℕ) (x : ℕ) → count x xs ≡ 0 → firsts (xs ++ (x ∷ [])) ≡ firsts xs ++ (x ∷ [])
firsts_new xs x h =
    firsts_snoc xs x
    ∙ rw (no_T (member x (firsts xs)) (λ t. omega (arith, count_firsts x xs, member_count x (firsts xs) t)))

-- what holds of all holds of those
pub firsts_all : (P : ℕ → Type 0) (xs : List ℕ) → All P xs → All P (firsts xs)
firsts_all P xs a = all_count P (firsts xs) (λ k h. count_all P xs a k (omega (arith, count_firsts k xs)))

pub not_repeated : (xs : List ℕ) → ((x : ℕ) → count x xs ≤ 1) → repeats xs ≡ false
unfolding repeats
not_repeated [] h = refl
not_repeated (x ∷ xs) h =
    rw (no_T (member x xs) (λ m. bit_cases x x (λ i h1. omega (arith, h x, member_count x xs m)) (λ i h0. absurd (i refl))))
    (not_repeated xs (λ y. omega (arith, h y)))

pub repeated_no : (xs : List ℕ) → repeats xs ≡ false → (x : ℕ) → count x xs ≤ 1
unfolding repeats
repeated_no [] e x = omega arith
repeated_no (y ∷ ys) e x =
    let p = or_no (member y ys) (repeats ys) e in
    bit_cases x y
    (λ i h. omega (arith, ap (λ (z : ℕ). count z ys) i, count_no y ys p.0))
    (λ i h. omega (arith, repeated_no ys p.1 x))

pub none_is : (test : ℕ → Bool) (xs : List ℕ) → ((x : ℕ) → 1 ≤ count x xs → test x ≡ false) → any test xs ≡ false
unfolding any
none_is test [] h = refl
none_is test (x ∷ xs) h =
    rw (h x (count_self x xs)) (none_is test xs (λ y l. h y (omega arith)))

pub none_of : (test : ℕ → Bool) (xs : List ℕ) (x : ℕ) → any test xs ≡ false → 1 ≤ count x xs → test x ≡ false
unfolding any
none_of test [] x e h = absurd (omega arith)
none_of test (y ∷ ys) x e h =
    let p = or_no (test y) (any test ys) e in
    bit_cases x y (λ q h1. ap test q ∙ p.0) (λ q h0. none_of test ys x p.1 (omega arith))

-- a test holds of some member exactly where one is found of which it holds
pub some_is : (test : ℕ → Bool) (xs : List ℕ) (x : ℕ) → 1 ≤ count x xs → test x ≡ true → any test xs ≡ true
some_is test xs x h t = boole (any test xs) (λ e. e) (λ e. clash (test x) t (none_of test xs x e h))

pub some_of : (test : ℕ → Bool) (xs : List ℕ) → any test xs ≡ true → (x : ℕ) × (1 ≤ count x xs) × (test x ≡ true)
unfolding any
some_of test [] e = clash false e refl
some_of test (x ∷ xs) e =
    boole (test x)
    (λ h. (x, count_self x xs, h))
    (λ h. let r = some_of test xs (rw h at e) in (r.0, omega (arith, r.1), r.2))

-- so two lists with the same members have the same answer
pub any_same : (test : ℕ → Bool) (xs ys : List ℕ) → ((x : ℕ) → 1 ≤ count x xs → 1 ≤ count x ys) → ((x : ℕ) → 1 ≤ count x ys → 1 ≤ count x xs) → any test xs ≡ any test ys
any_same test xs ys to from =
    boole (any test xs)
    (λ e. let r = some_of test xs e in e ∙ sym (some_is test ys r.0 (to r.0 r.1) r.2))
    (λ e. e ∙ sym (none_is test ys (λ x h. none_of test xs x e (from x h))))

pub any_map : (test : ℕ → Bool) (f : ℕ → ℕ) (xs : List ℕ) → any test (map f xs) ≡ any (λ x. test (f x)) xs
unfolding any
any_map test f [] = refl
any_map test f (x ∷ xs) = ap (λ (t : Bool). test (f x) || t) (any_map test f xs)

-- a test of the members that are kept
pub any_keep : (test kept : ℕ → Bool) (xs : List ℕ) → any test (keep kept xs) ≡ any (λ x. test x && kept x) xs
unfolding any keep
any_keep test kept [] = refl
any_keep test kept (x ∷ xs) =
    boole (kept x)
    (λ h. rw h (ap₂ (λ (s t : Bool). s || t) (sym (and_true (test x))) (any_keep test kept xs)))
    (λ h. rw (h, and_false (test x)) (any_keep test kept xs))

pub none_at : (test : ℕ → Bool) (xs : List ℕ) (i : ℕ) → any test xs ≡ false → i < length xs → test (get_or xs i 0) ≡ false
unfolding any
none_at test [] i e l = absurd (omega arith)
none_at test (x ∷ xs) zero e l = boole (test x) (λ h. absurd (T_of (sym (rw h at e)))) (λ h. h)
none_at test (x ∷ xs) (suc i) e l = boole (test x) (λ h. absurd (T_of (sym (rw h at e)))) (λ h. none_at test xs i (rw h at e) (omega arith))

-- ---- a permutation of the numbers below m

pub range_once : (m x : ℕ) → count x (range 0 m) ≤ 1
range_once m x = count_places (λ y. y) 0 (range 0 m) (λ i l. range_at 0 m i 0 (rw (range_length 0 m) at l)) x

pub range_below : (m : ℕ) → All (λ x. x < m) (range 0 m)
range_below m = all_get_d (λ x. x < m) (range 0 m) (λ i l. (let k : i < m = rw (range_length 0 m) at l in omega (arith, range_at 0 m i 0 k)))

-- numbers below n, none twice, are at most n
pub once_below : (n : ℕ) (xs : List ℕ) → All (λ x. x < n) xs → ((x : ℕ) → count x xs ≤ 1) → length xs ≤ n
once_below n xs low once =
    let most : sum_below (λ x. count x xs * 1) n ≤ sum_below (λ x. 1) n = sum_le (λ x. count x xs * 1) (λ x. 1) n (λ x l. omega (arith, once x)) in
    omega (arith, length_tot xs, tot_sum (λ x. 1) n xs low, most, sum_one n)

pub firsts_few : (n : ℕ) (xs : List ℕ) → All (λ x. x < n) xs → length (firsts xs) ≤ n
firsts_few n xs low = once_below n (firsts xs) (firsts_all (λ x. x < n) xs low) (λ k. omega (arith, count_firsts k xs))

tot_map : (w f : ℕ → ℕ) (xs : List ℕ) → tot w (map f xs) ≡ tot (λ x. w (f x)) xs
tot_map w f [] = refl
tot_map w f (x ∷ xs) = omega (arith, tot_map w f xs)

map_range : (ls : List ℕ) → map (λ i. get_or ls i 0) (range 0 (length ls)) ≡ ls
map_range ls =
    let m = length ls in
    let len : length (map (λ i. get_or ls i 0) (range 0 m)) ≡ m = length-map (range 0 m) (λ i. get_or ls i 0) ∙ range_length 0 m in
    ext_get_or 0 (map (λ i. get_or ls i 0) (range 0 m)) ls len
    (λ i l. (let k : i < m = rw len at l in
    get_d_map (λ i. get_or ls i 0) (range 0 m) i (rw (range_length 0 m) k) ∙ ap (λ (j : ℕ). get_or ls j 0) (range_at 0 m i 0 k ∙ omega arith)))

-- the elements of a list at the places of such a permutation are those of the list
pub count_permuted : (ls is : List ℕ) → ((x : ℕ) → count x is ≡ count x (range 0 (length ls))) → (k : ℕ) → count k (map (λ i. get_or ls i 0) is) ≡ count k ls
count_permuted ls is same k =
    let m = length ls in
    let w : ℕ → ℕ = λ i. bit (eqb k (get_or ls i 0)) in
    let below : All (λ x. x < m) is = all_count (λ x. x < m) is (λ x h. count_all (λ x. x < m) (range 0 m) (range_below m) x (omega (arith, same x))) in
    tot_map (λ y. bit (eqb k y)) (λ i. get_or ls i 0) is
    ∙ tot_sum w m is below
    ∙ sum_eq (λ x. count x is * w x) (λ x. count x (range 0 m) * w x) m (λ x l. ap (λ (c : ℕ). c * w x) (same x))
    ∙ sym (tot_sum w m (range 0 m) (range_below m))
    ∙ sym (tot_map (λ y. bit (eqb k y)) (λ i. get_or ls i 0) (range 0 m))
    ∙ ap (count k) (map_range ls)
