-- General lemmas on tests and lists. Nothing here is about proofs or tables.
use Rattle.std.specs.Prelude.{◌≡◌, refl, ℕ, zero, suc, ◌+◌, ◌≤◌, ◌<◌, Bool, true, false, not, ◌&&◌, ◌||◌, List, [], ◌∷◌, ◌++◌, map, length, get_or, set, take, drop, replicate, T, eqb, leb, ltb}
use Rattle.std.proofs.Common.{sym, ap, ap₂, ◌∙◌, subst, arith, not-suc-le-zero, le_of_suc-le-suc, length-append, length-drop, length-take-le, get_or-take, get_or-drop, eqb→eq, le→leb, leb→le, ltb→lt, lt→ltb, inl, inr}
use Rattle.std.proofs.Math.Decide.{dec_lt, ℕ_discrete}
use Rattle.std.proofs.Math.ListN.{get_or-append, get_or-eq_default}
use Rattle.std.proofs.Math.Seq.{get_or-append_seam}
use Rattle.std.proofs.Math.Dec.{eqb_refl}
use Rattle.std.proofs.Math.Facts.{and_yes, yes_and, or_yes}
use Rattle.laws.specs.Tools.{pick, part, range, all, keep, member, place, same}

-- ---- tests

-- a test is true or false
pub boole {ℓ} : {X : Type ℓ} (b : Bool) → (b ≡ true → X) → (b ≡ false → X) → X
boole true f g = f refl
boole false f g = g refl

pub T_of : {b : Bool} → b ≡ true → T b
T_of e = subst T (sym e) tt

pub of_T : (b : Bool) → T b → b ≡ true
of_T true t = refl
of_T false t = absurd t

pub no_T : (b : Bool) → ¬ T b → b ≡ false
no_T true t = absurd (t tt)
no_T false t = refl

-- a test cannot be both
pub clash {ℓ} : {X : Type ℓ} (b : Bool) → b ≡ true → b ≡ false → X
clash b p q = absurd (T_of (sym q ∙ p))

-- two tests, one of which holds
pub or_left : (a b : Bool) → T a → T (a || b)
or_left true b t = tt
or_left false b t = absurd t

pub or_right : (a b : Bool) → T b → T (a || b)
or_right true b t = tt
or_right false b t = t

pub or_true : (a : Bool) → (a || true) ≡ true
or_true true = refl
or_true false = refl

pub and_false : (a : Bool) → (a && false) ≡ false
and_false true = refl
and_false false = refl

pub and_true : (a : Bool) → (a && true) ≡ a
and_true true = refl
and_true false = refl

-- neither holds where one of the two must not
pub or_no : (a b : Bool) → (a || b) ≡ false → (a ≡ false) × (b ≡ false)
or_no true b e = clash true refl e
or_no false b e = (refl, e)

-- a test that must not fail and does not; a test that may not hold and does not
pub passed : (x : Bool) → not x ≡ false → T x
passed true e = tt
passed false e = clash true refl e

pub not_no : (b : Bool) → T b → not b ≡ false
not_no true t = refl
not_no false t = absurd t

pub eqb_yes : (m n : ℕ) → m ≡ n → eqb m n ≡ true
eqb_yes m n e = of_T (eqb m n) (subst (λ (k : ℕ). T (eqb m k)) e (eqb_refl m))

pub eqb_no : (m n : ℕ) → ¬ (m ≡ n) → eqb m n ≡ false
eqb_no m n h = no_T (eqb m n) (λ t. h (eqb→eq m n t))

pub leb_yes : (m n : ℕ) → m ≤ n → leb m n ≡ true
leb_yes m n h = of_T (leb m n) (le→leb m n h)

pub leb_no : (m n : ℕ) → n < m → leb m n ≡ false
leb_no m n h = no_T (leb m n) (λ t. omega (arith, leb→le m n t))

-- ---- lists of numbers, compared

pub same_refl : (xs : List ℕ) → same xs xs ≡ true
unfolding same
same_refl [] = refl
same_refl (x ∷ xs) = rw (of_T (eqb x x) (eqb_refl x)) (same_refl xs)

pub same_is : (xs ys : List ℕ) → T (same xs ys) → xs ≡ ys
unfolding same
same_is [] [] t = refl
same_is [] (y ∷ ys) t = absurd t
same_is (x ∷ xs) [] t = absurd t
same_is (x ∷ xs) (y ∷ ys) t =
    let h = and_yes (eqb x y) (same xs ys) t in
    ap₂ (λ (a : ℕ) (b : List ℕ). a ∷ b) (eqb→eq x y h.0) (same_is xs ys h.1)

-- ---- every element has the property

abbrev pub All {ℓ} : {A : Type ℓ} → (A → Type 0) → List A → Type 0
All P [] = Unit
All P (x ∷ xs) = P x × All P xs

pub all_map {ℓ} : {A : Type ℓ} (P Q : A → Type 0) → ((a : A) → P a → Q a) → (es : List A) → All P es → All Q es
all_map P Q f [] h = tt
all_map P Q f (e ∷ es) h = (f e h.0, all_map P Q f es h.1)

pub all_append {ℓ} : {A : Type ℓ} (P : A → Type 0) (xs ys : List A) → All P xs → All P ys → All P (xs ++ ys)
all_append P [] ys a b = b
all_append P (x ∷ xs) ys a b = (a.0, all_append P xs ys a.1 b)

pub all_snoc {ℓ} : {A : Type ℓ} (P : A → Type 0) (xs : List A) (e : A) → All P xs → P e → All P (xs ++ (e ∷ []))
all_snoc P xs e a h = all_append P xs (e ∷ []) a (h, tt)

pub all_get_d : (P : ℕ → Type 0) (xs : List ℕ) → ((i : ℕ) → i < length xs → P (get_or xs i 0)) → All P xs
all_get_d P [] h = tt
all_get_d P (x ∷ xs) h = (h 0 (omega arith), all_get_d P xs (λ i l. h (suc i) (omega arith)))

pub all_at {ℓ} : {A : Type ℓ} (P : A → Type 0) (xs : List A) (d : A) → All P xs → (i : ℕ) → i < length xs → P (get_or xs i d)
all_at P [] d h i l = absurd (omega arith)
all_at P (x ∷ xs) d h zero l = h.0
all_at P (x ∷ xs) d h (suc i) l = all_at P xs d h.1 i (omega arith)

pub below_all : (e : ℕ) (cs : List ℕ) → All (λ k. k < e) cs → T (all (λ c. ltb c e) cs)
unfolding all
below_all e [] h = tt
below_all e (c ∷ cs) h = yes_and (ltb c e) (all (λ d. ltb d e) cs) (lt→ltb c e h.0) (below_all e cs h.1)

pub all_below_lem : (e : ℕ) (cs : List ℕ) → T (all (λ c. ltb c e) cs) → All (λ k. k < e) cs
unfolding all
all_below_lem e [] t = tt
all_below_lem e (c ∷ cs) t = let p = and_yes (ltb c e) (all (λ d. ltb d e) cs) t in (ltb→lt c e p.0, all_below_lem e cs p.1)

pub all_join : (test : ℕ → Bool) (xs ys : List ℕ) → T (all test xs) → T (all test ys) → T (all test (xs ++ ys))
unfolding all
all_join test [] ys a b = b
all_join test (x ∷ xs) ys a b =
    let p = and_yes (test x) (all test xs) a in
    yes_and (test x) (all test (xs ++ ys)) p.0 (all_join test xs ys p.1 b)

pub all_member : (test : ℕ → Bool) (cs : List ℕ) (c : ℕ) → T (all test cs) → T (member c cs) → T (test c)
unfolding all member
all_member test [] c t m = absurd m
all_member test (x ∷ xs) c t m =
    let p = and_yes (test x) (all test xs) t in
    elim (or_yes (eqb c x) (member c xs) m) [
      | inl h ↦ subst (λ (j : ℕ). T (test j)) (sym (eqb→eq c x h)) p.0
      | inr h ↦ all_member test xs c p.1 h
    ]

pub all_split {ℓ} : {A : Type ℓ} (P : A → Type 0) (xs ys : List A) → All P (xs ++ ys) → All P xs × All P ys
all_split P [] ys a = (tt, a)
all_split P (x ∷ xs) ys a = let r = all_split P xs ys a.1 in ((a.0, r.0), r.1)

pub all_take {ℓ} : {A : Type ℓ} (P : A → Type 0) (n : ℕ) (xs : List A) → All P xs → All P (take n xs)
all_take P zero xs a = tt
all_take P (suc n) [] a = tt
all_take P (suc n) (x ∷ xs) a = (a.0, all_take P n xs a.1)

pub all_drop {ℓ} : {A : Type ℓ} (P : A → Type 0) (n : ℕ) (xs : List A) → All P xs → All P (drop n xs)
all_drop P zero xs a = a
all_drop P (suc n) [] a = tt
all_drop P (suc n) (x ∷ xs) a = all_drop P n xs a.1

pub all_set : (P : ℕ → Type 0) (xs : List ℕ) (i v : ℕ) → All P xs → P v → All P (set xs i v)
all_set P [] i v a h = tt
all_set P (x ∷ xs) zero v a h = (h, a.1)
all_set P (x ∷ xs) (suc i) v a h = (a.0, all_set P xs i v a.1 h)

pub all_replicate : (P : ℕ → Type 0) (n v : ℕ) → P v → All P (replicate n v)
all_replicate P zero v h = tt
all_replicate P (suc n) v h = (h, all_replicate P n v h)

pub all_keep : {A : Type 0} (P : A → Type 0) (test : A → Bool) (xs : List A) → All P xs → All P (keep test xs)
unfolding keep
all_keep P test [] a = tt
all_keep P test (x ∷ xs) a = boole (test x) (λ h. rw h (a.0, all_keep P test xs a.1)) (λ h. rw h (all_keep P test xs a.1))

pub all_image {ℓ} : {A B : Type ℓ} (P : B → Type 0) (f : A → B) (xs : List A) → All (λ x. P (f x)) xs → All P (map f xs)
all_image P f [] a = tt
all_image P f (x ∷ xs) a = (a.0, all_image P f xs a.1)

pub map-append {ℓ κ} : {A : Type ℓ} {B : Type κ} (f : A → B) (xs ys : List A) → map f (xs ++ ys) ≡ map f xs ++ map f ys
map-append f [] ys = refl
map-append f (x ∷ xs) ys = ap (λ l. f x ∷ l) (map-append f xs ys)

pub keep_append : {A : Type 0} (test : A → Bool) (xs ys : List A) → keep test (xs ++ ys) ≡ keep test xs ++ keep test ys
unfolding keep
keep_append test [] ys = refl
keep_append test (x ∷ xs) ys = boole (test x) (λ h. rw h (ap (λ l. x ∷ l) (keep_append test xs ys))) (λ h. rw h (keep_append test xs ys))

pub map_snoc {ℓ κ} : {A : Type ℓ} {B : Type κ} (f : A → B) (xs : List A) (e : A) → map f (xs ++ (e ∷ [])) ≡ map f xs ++ (f e ∷ [])
map_snoc f [] e = refl
map_snoc f (x ∷ xs) e = ap (λ l. f x ∷ l) (map_snoc f xs e)

pub map_all : (f g : ℕ → ℕ) (P : ℕ → Type 0) → ((e : ℕ) → P e → f e ≡ g e) → (xs : List ℕ) → All P xs → map f xs ≡ map g xs
map_all f g P h [] a = refl
map_all f g P h (x ∷ xs) a = ap₂ (λ (y : ℕ) (l : List ℕ). y ∷ l) (h x a.0) (map_all f g P h xs a.1)

pub get_D_constant {ℓ} : {A : Type ℓ} (m x : ℕ) (d : A) → get_or (replicate m d) x d ≡ d
get_D_constant zero x d = refl
get_D_constant (suc m) zero d = refl
get_D_constant (suc m) (suc x) d = get_D_constant m x d

pub get_d_map : (f : ℕ → ℕ) (xs : List ℕ) (i : ℕ) → i < length xs → get_or (map f xs) i 0 ≡ f (get_or xs i 0)
get_d_map f [] i l = absurd (omega arith)
get_d_map f (x ∷ xs) zero l = refl
get_d_map f (x ∷ xs) (suc i) l = get_d_map f xs i (omega arith)

-- at an index of a list with one element more: an old one, the new one, or none
pub snoc_cases {ℓ} : {A : Type 0} (P : A → ℕ → Type ℓ) (xs : List A) (y d : A)
    → ((i : ℕ) → i < length xs → P (get_or xs i d) i) → P y (length xs) → ((i : ℕ) → length xs < i → P d i)
    → (i : ℕ) → P (get_or (xs ++ (y ∷ [])) i d) i
snoc_cases P xs y d old new no_more i =
    elim (dec_lt i (length xs)) [
      | yes h ↦ rw (get_or-append xs (y ∷ []) d i h) (old i h)
      | no h ↦ elim (ℕ_discrete i (length xs)) [
        | yes e ↦ rw e (rw (get_or-append_seam xs y [] d) new)
        | no e ↦ rw (get_or-eq_default (xs ++ (y ∷ [])) d {n = i} (omega (arith, length-append xs (y ∷ [])))) (no_more i (omega arith))
      ]
    ]

-- ---- parts and ranges, element by element

pub part_at : (start len : ℕ) (xs : List ℕ) (i d : ℕ) → i < len → get_or (part start len xs) i d ≡ get_or xs (start + i) d
part_at start len xs i d h = get_or-take len (drop start xs) i d h ∙ get_or-drop start xs i d

pub part_length : (start len : ℕ) (xs : List ℕ) → start + len ≤ length xs → length (part start len xs) ≡ len
part_length start len xs h = length-take-le len (drop start xs) (subst (λ (j : ℕ). len ≤ j) (sym (length-drop start xs)) (omega arith))

pub range_length : (start n : ℕ) → length (range start n) ≡ n
unfolding range
range_length start zero = refl
range_length start (suc n) = ap suc (range_length (suc start) n)

pub range_at : (start n i d : ℕ) → i < n → get_or (range start n) i d ≡ start + i
unfolding range
range_at start zero i d h = absurd (not-suc-le-zero h)
range_at start (suc n) zero d h = omega arith
range_at start (suc n) (suc i) d h = let k = range_at (suc start) n i d (le_of_suc-le-suc h) in omega arith

-- ---- the first place at which a test holds, the length if there is none; whether there is one

abbrev pub find : {A : Type 0} → (A → Bool) → List A → ℕ
find p [] = 0
find p (x ∷ xs) = pick (p x) 0 (suc (find p xs))

abbrev pub found : {A : Type 0} → (A → Bool) → List A → Bool
found p [] = false
found p (x ∷ xs) = pick (p x) true (found p xs)

module _ {A : Type 0} (p : A → Bool) where
  pub found_lt : (xs : List A) → found p xs ≡ true → find p xs < length xs
  found_lt [] e = absurd (T_of e)
  found_lt (x ∷ xs) e = boole (p x) (λ h. rw h (omega arith)) (λ h. rw h (let ih = found_lt xs (rw h at e) in omega arith))

  -- what is found stays where it is when the list grows
  pub found_more : (xs ys : List A) → found p xs ≡ true → found p (xs ++ ys) ≡ true
  found_more [] ys e = absurd (T_of e)
  found_more (x ∷ xs) ys e = boole (p x) (λ h. rw h) (λ h. rw h (found_more xs ys (rw h at e)))

  pub find_more : (xs ys : List A) → found p xs ≡ true → find p (xs ++ ys) ≡ find p xs
  find_more [] ys e = absurd (T_of e)
  find_more (x ∷ xs) ys e = boole (p x) (λ h. rw h) (λ h. rw h (ap suc (find_more xs ys (rw h at e))))

  -- what is not found is found at the end once it is put there
  pub find_none : (xs : List A) → found p xs ≡ false → find p xs ≡ length xs
  find_none [] e = refl
  find_none (x ∷ xs) e = boole (p x) (λ h. absurd (T_of (sym (rw h at e)))) (λ h. rw h (ap suc (find_none xs (rw h at e))))

  pub found_end : (xs : List A) (y : A) → p y ≡ true → found p (xs ++ (y ∷ [])) ≡ true
  found_end [] y t = rw t
  found_end (x ∷ xs) y t = boole (p x) (λ h. rw h) (λ h. rw h (found_end xs y t))

  pub find_end : (xs : List A) (y : A) → p y ≡ true → found p xs ≡ false → find p (xs ++ (y ∷ [])) ≡ length xs
  find_end [] y t e = rw t
  find_end (x ∷ xs) y t e = boole (p x) (λ h. absurd (T_of (sym (rw h at e)))) (λ h. rw h (ap suc (find_end xs y t (rw h at e))))

  -- what stands at the place found passes the test
  pub find_is : (xs : List A) (d : A) → found p xs ≡ true → p (get_or xs (find p xs) d) ≡ true
  find_is [] d e = absurd (T_of e)
  find_is (x ∷ xs) d e = boole (p x) (λ h. rw h h) (λ h. rw h (find_is xs d (rw h at e)))

  pub found_other : (xs : List A) (y : A) → p y ≡ false → found p (xs ++ (y ∷ [])) ≡ found p xs
  found_other [] y t = rw t
  found_other (x ∷ xs) y t = boole (p x) (λ h. rw h) (λ h. rw h (found_other xs y t))

-- a number that is found has what all have, and its image stands where it does
pub found_all : (P : ℕ → Type 0) (e : ℕ) (xs : List ℕ) → found (eqb e) xs ≡ true → All P xs → P e
found_all P e [] h a = absurd (T_of h)
found_all P e (x ∷ xs) h a =
    boole (eqb e x) (λ y. subst P (sym (eqb→eq e x (T_of y))) a.0) (λ y. found_all P e xs (rw y at h) a.1)

pub found_at : (f : ℕ → ℕ) (e : ℕ) (xs : List ℕ) → found (eqb e) xs ≡ true → get_or (map f xs) (find (eqb e) xs) 0 ≡ f e
found_at f e [] h = absurd (T_of h)
found_at f e (x ∷ xs) h =
    boole (eqb e x) (λ y. rw y (ap f (sym (eqb→eq e x (T_of y))))) (λ y. rw y (found_at f e xs (rw y at h)))

-- members and places of numbers are such finds
pub member_is : (x : ℕ) (xs : List ℕ) → member x xs ≡ found (eqb x) xs
unfolding member
member_is x [] = refl
member_is x (y ∷ ys) = boole (eqb x y) (λ h. rw h) (λ h. rw h (member_is x ys))

pub place_is : (x : ℕ) (xs : List ℕ) → place x xs ≡ find (eqb x) xs
unfolding place
place_is x [] = refl
place_is x (y ∷ ys) = boole (eqb x y) (λ h. rw h) (λ h. rw h (ap suc (place_is x ys)))

pub place_lt : (x : ℕ) (xs : List ℕ) → T (member x xs) → place x xs < length xs
place_lt x xs m = rw (place_is x xs) (found_lt (eqb x) xs (sym (member_is x xs) ∙ of_T (member x xs) m))

pub place_at : (x : ℕ) (xs : List ℕ) → T (member x xs) → get_or xs (place x xs) 0 ≡ x
place_at x xs m =
    rw (place_is x xs)
    (sym (eqb→eq x (get_or xs (find (eqb x) xs) 0) (T_of (find_is (eqb x) xs 0 (sym (member_is x xs) ∙ of_T (member x xs) m)))))
