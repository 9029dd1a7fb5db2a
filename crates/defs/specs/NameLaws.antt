-- The names of marks: they grow, none is a label, every number that is skipped is one; so different marks have different names.
-- A mark's name is at most s past its number, since of the numbers in a row at most s are labels.
use Rattle.std.specs.Prelude.{◌≡◌, ◌≢◌, Bool, true, false, ◌||◌, List, [], ◌∷◌, ◌++◌}
use Rattle.std.proofs.Math.Path.{refl, ap}
use Rattle.std.proofs.Common.{sym, ◌∙◌}
use Prim.Native.Nat.{ℕ, zero, suc, ◌+◌, ◌-◌, ◌*◌, ◌/◌, ◌%◌, ◌≤◌, ◌<◌}
use native.Mathlib.Omega.{arith}
use Rattle.std.proofs.Math.Decide.{dec_lt, ℕ_discrete}
use borrow.Author.Tests.{not-true, not-false}
use Rattle.laws.specs.Tools.{first_from, some_below, sum_below, same}
use Rattle.defs.specs.Table.{statements, statement_words, label_in}
use Rattle.defs.specs.Names.{digits_within, digits, is_label_in, is_free_in, name_number_in, is_label, name_number, name}
use Rattle.laws.specs.Lists.{boole, clash, T_of, same_is, leb_yes, leb_no}
use Rattle.laws.specs.Sums.{bit, sum_le, sum_eq, sum_zero, sum_one, sum_add, sum_once}
use Rattle.laws.specs.Below.{first_low, first_high, first_before, first_is}

-- ---- decimals are read back

-- the number that digits stand for, behind those read so far
unfoldable pub value : ℕ → List ℕ → ℕ
value before [] = before
value before (d ∷ ds) = value (10 * before + (d - 48)) ds

pub value_append : (before : ℕ) (xs ys : List ℕ) → value before (xs ++ ys) ≡ value (value before xs) ys
unfolding value
value_append before [] ys = refl
value_append before (x ∷ xs) ys = value_append (10 * before + (x - 48)) xs ys

value_within : (room x : ℕ) → x < room → value 0 (digits_within room x) ≡ x
unfolding digits_within value
value_within zero x l = absurd (omega arith)
value_within (suc room) x l =
    elim (dec_lt x 10) [
      | yes h ↦ rw (leb_yes (suc x) 10 h) (omega arith)
      | no h ↦
          rw (leb_no (suc x) 10 (omega arith))
          (value_append 0 (digits_within room (x / 10)) ((48 + x % 10) ∷ [])
          ∙ ap (λ (y : ℕ). 10 * y + (48 + x % 10 - 48)) (value_within room (x / 10) (omega arith)) ∙ omega arith)
    ]

pub value_digits : (x : ℕ) → value 0 (digits x) ≡ x
unfolding digits
value_digits x = value_within (suc x) x (omega arith)

pub digits_differ : (x y : ℕ) → digits x ≡ digits y → x ≡ y
digits_differ x y e = sym (value_digits x) ∙ ap (value 0) e ∙ value_digits y

-- ---- there are only s labels to skip

bit_or : (x y : Bool) → bit (x || y) ≤ bit x + bit y
bit_or true y = omega arith
bit_or false y = omega arith

-- of n numbers in a row at most one has these digits
one_number : (text : List ℕ) (start n : ℕ) → sum_below (λ y. bit (same text (digits (start + y)))) n ≤ 1
one_number text start n =
    sum_once (λ y. same text (digits (start + y))) n
    (λ x y t u. omega (arith, digits_differ (start + x) (start + y) (sym (same_is text _ (T_of t)) ∙ same_is text _ (T_of u))))

-- and at most s are labels
few_labels : (ss b : List ℕ) (s start n : ℕ) → sum_below (λ y. bit (is_label_in ss b s (digits (start + y)))) n ≤ s
unfolding is_label_in some_below
few_labels ss b zero start n = omega (arith, sum_zero (λ y. 0) n (λ y l. refl))
few_labels ss b (suc s) start n =
    let before : ℕ → ℕ = λ y. bit (is_label_in ss b s (digits (start + y))) in
    let last : ℕ → Bool = λ y. same (label_in ss b s) (digits (start + y)) in
    omega (
      arith,
      few_labels ss b s start n,
      one_number (label_in ss b s) start n,
      sum_add before (λ y. bit (last y)) n,
      sum_le (λ y. bit (is_label_in ss b (suc s) (digits (start + y)))) (λ y. before y + bit (last y)) n (λ y l. bit_or (is_label_in ss b s (digits (start + y))) (last y)),
    )

module _ (ss b : List ℕ) (s : ℕ) where
  pub free_no_label : (x : ℕ) → is_free_in ss b s x ≡ true → is_label_in ss b s (digits x) ≡ false
  unfolding is_free_in
  free_no_label x e = not-true (is_label_in ss b s (digits x)) e

  pub not_free_label : (x : ℕ) → is_free_in ss b s x ≡ false → is_label_in ss b s (digits x) ≡ true
  unfolding is_free_in
  not_free_label x e = not-false (is_label_in ss b s (digits x)) e

  crowded : (start n : ℕ) → ((x : ℕ) → start ≤ x → x < start + n → is_free_in ss b s x ≡ false) → n ≤ s
  crowded start n h =
      let all : sum_below (λ y. bit (is_label_in ss b s (digits (start + y)))) n ≡ sum_below (λ y. 1) n =
      sum_eq _ _ n (λ y l. ap bit (not_free_label (start + y) (h (start + y) (omega arith) (omega arith)))) in
      omega (arith, few_labels ss b s start n, sum_one n)

  -- ---- the names

  -- each is past the one before
  pub name_grows : (m : ℕ) → name_number_in ss b s m < name_number_in ss b s (suc m)
  unfolding name_number_in
  name_grows m = first_low (is_free_in ss b s) (suc (name_number_in ss b s m)) s

  pub names_grow : (m k : ℕ) → m < k → name_number_in ss b s m < name_number_in ss b s k
  names_grow m zero l = absurd (omega arith)
  names_grow m (suc k) l =
      elim (dec_lt m k) [
        | yes h ↦ omega (arith, names_grow m k h, name_grows k)
        | no h ↦ (let e : m ≡ k = omega arith in omega (arith, ap (name_number_in ss b s) e, name_grows k))
      ]

  -- what lies between two names is a label
  pub name_skips : (m x : ℕ) → name_number_in ss b s m < x → x < name_number_in ss b s (suc m) → is_free_in ss b s x ≡ false
  unfolding name_number_in
  name_skips m x l h = first_before (is_free_in ss b s) (suc (name_number_in ss b s m)) s x l h

  -- no name is a label
  pub name_free : (m : ℕ) → is_free_in ss b s (name_number_in ss b s (suc m)) ≡ true
  unfolding name_number_in
  name_free m =
      let start : ℕ = suc (name_number_in ss b s m) in
      let r : ℕ = first_from (is_free_in ss b s) start s in
      boole (is_free_in ss b s r) (λ h. h)
      (λ h. elim (dec_lt r (start + s)) [
        | yes l ↦ first_is (is_free_in ss b s) start s l
        | no l ↦ absurd (omega (
          arith,
          crowded start (suc s) (λ x y z. elim (ℕ_discrete x r) [
            | yes e ↦ ap (is_free_in ss b s) e ∙ h
            | no e ↦ first_before (is_free_in ss b s) start s x y (omega (arith, first_high (is_free_in ss b s) start s))
          ]),
        ))
      ])

  -- so every free number from 1 on is the name of a mark (0 stands for no mark)
  pub name_least : (m : ℕ) → m ≤ name_number_in ss b s m
  name_least zero = omega arith
  name_least (suc m) = omega (arith, name_least m, name_grows m)

  pub free_named : (x : ℕ) → is_free_in ss b s x ≡ true → (m : ℕ) × (name_number_in ss b s m ≡ x)
  unfolding name_number_in
  free_named x free = go (suc x) (name_least (suc x))
    where
      go : (m : ℕ) → x < name_number_in ss b s m → (k : ℕ) × (name_number_in ss b s k ≡ x)
      go zero l = absurd (omega arith)
      go (suc m) l =
          elim (dec_lt x (name_number_in ss b s m)) [
            | yes h ↦ go m h
            | no h ↦ elim (ℕ_discrete (name_number_in ss b s m) x) [
              | yes e ↦ (m, e)
              | no e ↦ clash (is_free_in ss b s x) free (name_skips m x (omega arith) l)
            ]
          ]

  -- ---- counting up: x is the next number to try once mark m has its name

  abbrev pub Next : ℕ → ℕ → Type 0
  Next m x = (name_number_in ss b s m < x) × (x ≤ name_number_in ss b s (suc m))

  pub next_first : Next 0 1
  unfolding name_number_in
  next_first = omega (arith, name_grows 0)

  -- a free number is the next name
  pub next_free : (m x : ℕ) → Next m x → is_free_in ss b s x ≡ true → (x ≡ name_number_in ss b s (suc m)) × Next (suc m) (x + 1)
  next_free m x h free =
      let e : x ≡ name_number_in ss b s (suc m) = elim (dec_lt x (name_number_in ss b s (suc m))) [
        | yes l ↦ clash (is_free_in ss b s x) free (name_skips m x h.0 l)
        | no l ↦ omega arith
      ] in
      (e, omega (arith, name_grows (suc m)))

  -- a label is passed
  pub next_label : (m x : ℕ) → Next m x → is_free_in ss b s x ≡ false → Next m (x + 1)
  next_label m x h taken =
      elim (ℕ_discrete x (name_number_in ss b s (suc m))) [
        | yes e ↦ clash (is_free_in ss b s x) (ap (is_free_in ss b s) e ∙ name_free m) taken
        | no e ↦ omega arith
      ]

  -- the numbers from 1 to x are names and labels, so a mark's name is at most s past its number
  record Passed (x : ℕ) : Type 0 where
    m : ℕ
    next : Next m (x + 1)
    as_many : m + sum_below (λ y. bit (is_label_in ss b s (digits (1 + y)))) x ≡ x

  passed : (x : ℕ) → Passed x
  unfolding sum_below
  passed zero = record { m = 0; next = next_first; as_many = refl }
  passed (suc x) =
      let r = passed x in
      let e : suc x ≡ x + 1 = omega arith in
      let f : 1 + x ≡ x + 1 = omega arith in
      boole (is_free_in ss b s (x + 1))
      (λ h. record {
        m = suc r.m;
        next = rw e (next_free r.m (x + 1) r.next h).1;
        as_many = rw (f, free_no_label (x + 1) h) (omega (arith, r.as_many));
      })
      (λ h. record {
        m = r.m;
        next = rw e (next_label r.m (x + 1) r.next h);
        as_many = rw (f, not_free_label (x + 1) h) (omega (arith, r.as_many));
      })

  pub name_most : (m : ℕ) → name_number_in ss b s m ≤ m + s
  name_most m =
      let x : ℕ = name_number_in ss b s m in
      let r = passed x in
      elim (dec_lt m r.m) [
        | yes l ↦ absurd (omega (arith, names_grow m r.m l, r.next))
        | no l ↦ omega (arith, r.as_many, few_labels ss b s 1 x)
      ]

-- ---- of a table

module _ (w b : List ℕ) where
  pub name_no_label : (m : ℕ) → is_label w b (name w b (suc m)) ≡ false
  unfolding name
  name_no_label m = free_no_label (statement_words w) b (statements w) (name_number w b (suc m)) (name_free (statement_words w) b (statements w) m)

  -- names of different marks differ
  pub names_differ : (m k : ℕ) → m ≢ k → name w b m ≢ name w b k
  unfolding name
  names_differ m k d e =
      let same_number : name_number w b m ≡ name_number w b k = digits_differ _ _ e in
      elim (dec_lt m k) [
        | yes h ↦ omega (arith, names_grow (statement_words w) b (statements w) m k h)
        | no h ↦ omega (arith, names_grow (statement_words w) b (statements w) k m (omega arith))
      ]
