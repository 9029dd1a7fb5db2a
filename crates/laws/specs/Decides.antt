-- A test decides a fact: it holds where the fact does and fails where the fact does not. The code's row of tests then needs only numbers:
-- each early return has one fact less than is needed, the last one has them all. Assumes nothing.
use Rattle.std.specs.Prelude.{ℕ, ◌≤◌, ◌<◌, Bool, true, false, not, ◌||◌, ◌≡◌, refl, T, eqb, leb}
use Rattle.std.proofs.Common.{sym, ap, ◌∙◌, arith, eqb-true, leb-true, leb-false}
use Rattle.std.proofs.lemmas.Bool.{eqb-false}
use Rattle.laws.specs.Lists.{boole, T_of, of_T, no_T}

pub record Decides (test : Bool) (Fact : Type 0) : Type 0 where
  pub yes : Fact → test ≡ true
  pub no : (Fact → ⊥) → test ≡ false
  pub so : test ≡ true → Fact

pub decides : {Fact : Type 0} (test : Bool) → (T test → Fact) → (Fact → T test) → Decides test Fact
decides test sound complete = record { yes = λ h. of_T test (complete h); no = λ h. no_T test (λ t. h (sound t)); so = λ e. sound (T_of e) }

-- another test of the same fact
pub agree : {Fact : Type 0} {test : Bool} → Decides test Fact → (answer : Bool) → (answer ≡ true → Fact) → (answer ≡ false → Fact → ⊥) → answer ≡ test
agree d true y n = sym (d.yes (y refl))
agree d false y n = sym (d.no (n refl))

-- the code's last test decides what the tests before it left open
module _ {Fact : Type 0} {test : Bool} (d : Decides test Fact) (m n : ℕ) where
  pub last_equal : (m ≡ n → Fact) → (Fact → m ≡ n) → eqb m n ≡ test
  last_equal y f = agree d (eqb m n) (λ e. y (eqb-true m n e)) (λ e h. eqb-false m n e (f h))

  pub last_differs : (m ≡ n → Fact) → (Fact → m ≡ n) → not (eqb m n) ≡ not test
  last_differs y f = ap not (last_equal y f)

  pub last_most : (m ≤ n → Fact) → (Fact → m ≤ n) → leb m n ≡ test
  last_most y f = agree d (leb m n) (λ e. y (leb-true m n e)) (λ e h. omega (arith, leb-false m n e, f h))

  pub last_reaches : (n < m → Fact) → (Fact → n < m) → leb m n ≡ not test
  last_reaches y f =
      boole (leb m n) (λ e. e ∙ ap not (sym (d.no (λ h. omega (arith, leb-true m n e, f h))))) (λ e. e ∙ ap not (sym (d.yes (y (leb-false m n e)))))

-- two tests in a row: the first one holds, or the second one decides
pub first_holds : (a b : Bool) → a ≡ true → true ≡ (a || b)
first_holds a b e = rw e

pub second_decides : (a b answer : Bool) → a ≡ false → answer ≡ b → answer ≡ (a || b)
second_decides a b answer e f = rw e f
