-- What the library's methods on slices say, in the words of Tools: equality, a member, a test of some member or of all.
use Rattle.std.specs.Prelude.{◌≡◌, Bool, ◌&&◌, ◌||◌, List, [], ◌∷◌, ℕ, eqb}
use Rattle.std.specs.List.{list_any, list_all}
use lib.Pointwise.{pointwise}
use Rattle.std.proofs.Common.{refl, sym, ap, ap₂, ◌∙◌, eqb→eq}
use Rattle.laws.specs.Lists.{boole, clash, T_of, eqb_yes, eqb_no}
use Rattle.laws.specs.Tools.{all, any, member, same}

-- xs == ys
pub pointwise_same : (xs ys : List ℕ) → pointwise eqb xs ys ≡ same xs ys
unfolding same
pointwise_same [] [] = refl
pointwise_same [] (y ∷ ys) = refl
pointwise_same (x ∷ xs) [] = refl
pointwise_same (x ∷ xs) (y ∷ ys) = ap (λ b. eqb x y && b) (pointwise_same xs ys)

-- xs.iter().any(test), xs.iter().all(test)
pub list_any_any : {A : Type 0} (test : A → Bool) (xs : List A) → list_any test xs ≡ any test xs
unfolding any
list_any_any test [] = refl
list_any_any test (x ∷ xs) = ap (λ b. test x || b) (list_any_any test xs)

pub list_all_all : {A : Type 0} (test : A → Bool) (xs : List A) → list_all test xs ≡ all test xs
unfolding all
list_all_all test [] = refl
list_all_all test (x ∷ xs) = ap (λ b. test x && b) (list_all_all test xs)

-- xs.contains(x)
eqb_turned : (x y : ℕ) → eqb x y ≡ eqb y x
eqb_turned x y =
    boole (eqb y x)
    (λ yes. eqb_yes x y (sym (eqb→eq y x (T_of yes))) ∙ sym yes)
    (λ no. eqb_no x y (λ e. clash (eqb y x) (eqb_yes y x (sym e)) no) ∙ sym no)

pub list_any_member : (x : ℕ) (xs : List ℕ) → list_any (λ y. eqb y x) xs ≡ member x xs
unfolding member
list_any_member x [] = refl
list_any_member x (y ∷ ys) = ap₂ (λ a b. a || b) (eqb_turned y x) (list_any_member x ys)
