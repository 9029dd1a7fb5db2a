-- Tests, sums and first places below a number: what a counting loop asks for. Nothing here is about proofs or tables.
use Rattle.std.specs.Prelude.{◌≡◌, refl, Bool, true, false, ◌&&◌, ◌||◌, List, [], ◌∷◌, T}
use Rattle.std.proofs.Common.{sym, ◌∙◌, subst, not-suc-le-zero, add-one}
use Rattle.std.proofs.Math.Path.{ap}
use Prim.Native.Nat.{ℕ, zero, suc, ◌+◌, ◌≤◌, ◌<◌}
use Rattle.std.proofs.Math.Decide.{dec_lt, ℕ_discrete}
use native.Mathlib.Omega.{arith}
use Rattle.std.proofs.Math.Facts.{and_yes, yes_and}
use Rattle.laws.specs.Lists.{boole, clash, and_false, or_true}
use Rattle.laws.specs.Tools.{all_of, all_below, some_below, sum_below, first_from}

-- ---- tests

-- the tests of a list, one by one
abbrev pub Each : List Bool → Type 0
Each [] = Unit {0}
Each (x ∷ xs) = T x × Each xs

pub each : (xs : List Bool) → T (all_of xs) → Each xs
unfolding all_of
each [] t = tt
each (x ∷ xs) t = let p = and_yes x (all_of xs) t in (p.0, each xs p.1)

pub all_of_each : (xs : List Bool) → Each xs → T (all_of xs)
unfolding all_of
all_of_each [] t = tt
all_of_each (x ∷ xs) t = yes_and x (all_of xs) t.0 (all_of_each xs t.1)

-- ---- one more: a loop's counter goes from k to k + 1, which is not `suc k` by computation

pub sum_below_next : (f : ℕ → ℕ) (k : ℕ) → sum_below f (k + 1) ≡ sum_below f k + f k
unfolding sum_below
sum_below_next f k = ap (sum_below f) (add-one k)

pub all_below_next : (test : ℕ → Bool) (k : ℕ) → all_below test (k + 1) ≡ (all_below test k && test k)
unfolding all_below
all_below_next test k = ap (all_below test) (add-one k)

pub some_below_next : (test : ℕ → Bool) (k : ℕ) → some_below test (k + 1) ≡ (some_below test k || test k)
unfolding some_below
some_below_next test k = ap (some_below test) (add-one k)

the_last : (k n : ℕ) → ¬ (k < n) → k < suc n → k ≡ n
the_last k n l h = omega arith

-- one failure below n decides, wherever it is found: what a loop that leaves early asks for
pub all_below_fails : (test : ℕ → Bool) (k n : ℕ) → k < n → test k ≡ false → all_below test n ≡ false
unfolding all_below
all_below_fails test k zero h e = absurd (not-suc-le-zero h)
all_below_fails test k (suc n) h e =
    elim (dec_lt k n) [
      | yes l ↦ ap (λ (x : Bool). x && test n) (all_below_fails test k n l e)
      | no l ↦ ap (λ (x : Bool). all_below test n && x) (ap test (sym (the_last k n l h)) ∙ e) ∙ and_false (all_below test n)
    ]

pub some_below_holds : (test : ℕ → Bool) (k n : ℕ) → k < n → test k ≡ true → some_below test n ≡ true
unfolding some_below
some_below_holds test k zero h e = absurd (not-suc-le-zero h)
some_below_holds test k (suc n) h e =
    elim (dec_lt k n) [
      | yes l ↦ ap (λ (x : Bool). x || test n) (some_below_holds test k n l e)
      | no l ↦ ap (λ (x : Bool). some_below test n || x) (ap test (sym (the_last k n l h)) ∙ e) ∙ or_true (some_below test n)
    ]

-- and the other way: a test of all holds of each
pub all_below_at : (test : ℕ → Bool) (k n : ℕ) → k < n → T (all_below test n) → T (test k)
unfolding all_below
all_below_at test k zero h t = absurd (not-suc-le-zero h)
all_below_at test k (suc n) h t =
    let p = and_yes (all_below test n) (test n) t in
    elim (dec_lt k n) [
      | yes l ↦ all_below_at test k n l p.0
      | no l ↦ subst (λ (j : ℕ). T (test j)) (sym (the_last k n l h)) p.1
    ]

-- what holds of each holds of all; what holds of none, of no one
pub all_below_all : (test : ℕ → Bool) (n : ℕ) → ((k : ℕ) → k < n → T (test k)) → T (all_below test n)
unfolding all_below
all_below_all test zero h = tt
all_below_all test (suc n) h = yes_and (all_below test n) (test n) (all_below_all test n (λ k l. h k (omega arith))) (h n (omega arith))

pub some_below_none : (test : ℕ → Bool) (n : ℕ) → ((k : ℕ) → k < n → test k ≡ false) → some_below test n ≡ false
unfolding some_below
some_below_none test zero h = refl
some_below_none test (suc n) h = rw (some_below_none test n (λ k l. h k (omega arith))) (h n (omega arith))

pub some_below_at : (test : ℕ → Bool) (k n : ℕ) → k < n → some_below test n ≡ false → test k ≡ false
some_below_at test k n h e = boole (test k) (λ t. clash (some_below test n) (some_below_holds test k n h t) e) (λ t. t)

pub some_below_yes : (test : ℕ → Bool) (n : ℕ) → some_below test n ≡ true → (k : ℕ) × (k < n) × (test k ≡ true)
unfolding some_below
some_below_yes test zero e = clash false e refl
some_below_yes test (suc n) e =
    boole (some_below test n)
    (λ h. let r = some_below_yes test n h in (r.0, omega (arith, r.1), r.2))
    (λ h. (n, omega arith, rw h at e))

-- ---- the first of `n` numbers from `start` at which a test holds

module _ (test : ℕ → Bool) where
  pub first_low : (start n : ℕ) → start ≤ first_from test start n
  unfolding first_from
  first_low start zero = omega arith
  first_low start (suc n) = boole (test start) (λ h. rw h (omega arith)) (λ h. rw h (omega (arith, first_low (suc start) n)))

  pub first_high : (start n : ℕ) → first_from test start n ≤ start + n
  unfolding first_from
  first_high start zero = omega arith
  first_high start (suc n) = boole (test start) (λ h. rw h (omega arith)) (λ h. rw h (omega (arith, first_high (suc start) n)))

  -- the test holds of none before it, and of it where there is one
  pub first_before : (start n x : ℕ) → start ≤ x → x < first_from test start n → test x ≡ false
  unfolding first_from
  first_before start zero x l m = absurd (omega arith)
  first_before start (suc n) x l m =
      boole (test start) (λ h. absurd (omega (arith, rw h at m)))
      (λ h. elim (ℕ_discrete start x) [
        | yes e ↦ ap test (sym e) ∙ h
        | no e ↦ first_before (suc start) n x (omega arith) (rw h at m)
      ])

  pub first_is : (start n : ℕ) → first_from test start n < start + n → test (first_from test start n) ≡ true
  unfolding first_from
  first_is start zero m = absurd (omega arith)
  first_is start (suc n) m = boole (test start) (λ h. rw h h) (λ h. rw h (first_is (suc start) n (let k = rw h at m in omega arith)))
