-- Which of several tests refuses first: a test at the front, tests after other tests, and the early numbers among them.
use Rattle.std.specs.Prelude.{◌≡◌, refl, ◌≢◌, Bool, true, false, ◌||◌, List, [], ◌∷◌, ◌++◌, ℕ, zero, suc, ◌<◌, ◌≤◌, ltb}
use Rattle.std.proofs.Common.{sym, ◌∙◌, arith, lt-ltb, le-ltb}
use Rattle.laws.specs.Tools.{pick}
use Rattle.laws.specs.Lists.{All, or_true}
use Rattle.defs.specs.Check.{Test, ◌when◌, first_of, or_else, table_refusal}
use Rattle.defs.specs.Layout.{Layout}
use Rattle.defs.specs.Outcome.{is_early, compressed_tests}
use Rattle.defs.specs.OutcomeLaws.{else_refused, else_good, table_refusal_most, refused_early}

-- ---- the test at the front

pub stops : (k : ℕ) (bad : Bool) (ts : List Test) → bad ≡ true → first_of (k when bad ∷ ts) ≡ k
unfolding first_of
stops k bad ts h = rw h

pub past : (k n : ℕ) (bad : Bool) (ts : List Test) → bad ≡ false → first_of ts ≡ n → first_of (k when bad ∷ ts) ≡ n
unfolding first_of
past k n bad ts h e = rw h e

pub none_left : first_of [] ≡ 0
unfolding first_of
none_left = refl

-- one that holds a length against what is asked
pub stops_short : (k have asked : ℕ) (ts : List Test) → have < asked → first_of (k when ltb have asked ∷ ts) ≡ k
stops_short k have asked ts h = stops k _ ts (lt-ltb have asked h)

pub past_enough : (k n have asked : ℕ) (ts : List Test) → asked ≤ have → first_of ts ≡ n → first_of (k when ltb have asked ∷ ts) ≡ n
past_enough k n have asked ts h = past k n _ ts (le-ltb have asked h)

-- two lengths against what is asked of them
pub short_first : (have asked : ℕ) (other : Bool) → have < asked → (ltb have asked || other) ≡ true
short_first have asked other h = rw (lt-ltb have asked h)

pub short_second : (other : Bool) (have asked : ℕ) → have < asked → (other || ltb have asked) ≡ true
short_second other have asked h = rw (lt-ltb have asked h, or_true other)

pub both_enough : (have₁ asked₁ have₂ asked₂ : ℕ) → asked₁ ≤ have₁ → asked₂ ≤ have₂ → (ltb have₁ asked₁ || ltb have₂ asked₂) ≡ false
both_enough have₁ asked₁ have₂ asked₂ h₁ h₂ = rw (le-ltb have₁ asked₁ h₁, le-ltb have₂ asked₂ h₂)

-- ---- tests after other tests

then_one : (bad : Bool) (k r t next : ℕ) → k ≢ 0 → r ≡ or_else t next → pick bad k r ≡ or_else (pick bad k t) next
unfolding or_else
then_one true zero r t next some e = absurd (some refl)
then_one true (suc k) r t next some e = refl
then_one false k r t next some e = e

pub first_then : (ts us : List Test) → All (λ t. t.number ≢ 0) ts → first_of (ts ++ us) ≡ or_else (first_of ts) (first_of us)
unfolding first_of or_else
first_then [] us a = refl
first_then (t ∷ ts) us a = then_one t.fails t.number (first_of (ts ++ us)) (first_of ts) (first_of us) a.0 (first_then ts us a.1)

module _ (ts us : List Test) (some : All (λ t. t.number ≢ 0) ts) where
  pub stops_among : (k : ℕ) → k ≡ first_of ts → k ≢ 0 → first_of (ts ++ us) ≡ k
  stops_among k is bad = first_then ts us some ∙ else_refused (first_of ts) (first_of us) (λ z. bad (is ∙ z)) ∙ sym is

  pub past_all : (n : ℕ) → 0 ≡ first_of ts → first_of us ≡ n → first_of (ts ++ us) ≡ n
  past_all n fine e = first_then ts us some ∙ else_good (first_of ts) (first_of us) (sym fine) ∙ e

-- ---- where no test's number is an early one, neither is the number given

pick_early : (bad : Bool) (k rest : ℕ) → is_early k ≡ false → is_early rest ≡ false → is_early (pick bad k rest) ≡ false
pick_early true k rest h t = h
pick_early false k rest h t = t

pub none_early : (ts : List Test) → All (λ t. is_early t.number ≡ false) ts → is_early (first_of ts) ≡ false
unfolding first_of is_early
none_early [] a = refl
none_early (t ∷ ts) a = pick_early t.fails t.number (first_of ts) a.0 (none_early ts a.1)

-- ---- refusals 1 to 9 and 14 are early ones

pub early_8 : is_early 8 ≡ true
unfolding is_early
early_8 = refl

pub early_9 : is_early 9 ≡ true
unfolding is_early
early_9 = refl

pub early_14 : is_early 14 ≡ true
unfolding is_early
early_14 = refl

pub late_10 : is_early 10 ≡ false
unfolding is_early
late_10 = refl

pub late_11 : is_early 11 ≡ false
unfolding is_early
late_11 = refl

pub late_12 : is_early 12 ≡ false
unfolding is_early
late_12 = refl

pub late_13 : is_early 13 ≡ false
unfolding is_early
late_13 = refl

pub late_15 : is_early 15 ≡ false
unfolding is_early
late_15 = refl

-- ---- tests 1 to 7, then others

pub table_stops : (w b : List ℕ) (next : ℕ) → table_refusal w b ≢ 0 → or_else (table_refusal w b) next ≡ table_refusal w b
table_stops w b next = else_refused (table_refusal w b) next

pub past_table : (w b : List ℕ) (next n : ℕ) → table_refusal w b ≡ 0 → next ≡ n → or_else (table_refusal w b) next ≡ n
past_table w b next n ok e = else_good (table_refusal w b) next ok ∙ e

pub table_early : (w b : List ℕ) → table_refusal w b ≢ 0 → is_early (table_refusal w b) ≡ true
table_early w b h = refused_early (table_refusal w b) h (table_refusal_most w b)

-- ---- the tests that only the compressed form has

pub compressed_some : (w : List ℕ) (l : Layout) → All (λ t. t.number ≢ 0) (compressed_tests w l)
unfolding compressed_tests
compressed_some w l = ((λ e. omega arith), ((λ e. omega arith), ((λ e. omega arith), tt)))

pub compressed_late : (w : List ℕ) (l : Layout) → All (λ t. is_early t.number ≡ false) (compressed_tests w l)
unfolding compressed_tests
compressed_late w l = (late_10, (late_11, (late_12, tt)))
