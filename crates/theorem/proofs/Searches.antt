-- Laws of a loop over a list that leaves at the first hit: what is asked of the whole list is what is asked of the part still to come.
-- Each is the definition's clause at the head of that part.
use mathlib.Core.Path.{◌≡◌, refl, sym}
use mathlib.Core.Bool.{Bool, true, false, ◌&&◌, ◌||◌}
use mathlib.Core.List.{List, ◌∷◌, map}
use Prim.Native.Nat.{ℕ, zero, suc, ◌+◌, ◌-◌, ◌<◌, ◌≤◌}
use native.Mathlib.Numerals.{add-one}
use native.Mathlib.Omega.{arith}
use lib.Dec.{eqb}
use lib.ListN.{length, get_or, take, drop, length-drop, drop_of_length-le}
use lib.Seq.{drop-cons, take_all}
use borrow.Author.Tests.{eq-eqb, ne_eqb}
use Rattle.std.specs.List.{list_any}
use Rattle.std.specs.Option.{option_eq}
use Rattle.std.specs.Prelude.{Option, Some}
use Rattle.std.proofs.Common.{eqb→eq}
use Rattle.table.specs.declared.kinds.Kind.{Kind}
use Rattle.table.specs.Kinds.{kind_said}
use Rattle.table.specs.declared.kinds.Kind.TheVariants.{Floating, Essential}
use Rattle.table.specs.contracts.kinds.KindPartialEq.TheImpl.{eq-value}
use Rattle.laws.specs.Library.{list_any_member}
use Rattle.laws.specs.Tools.{member, repeats}
use Rattle.laws.specs.Lists.{boole, clash, eqb_yes, eqb_no, T_of}
use Rattle.defs.specs.Refusals.{mixed}

-- the part from i on has the member at i in front
pub drop_next : (xs : List ℕ) (i : ℕ) → i < length xs → drop i xs ≡ get_or xs i 0 ∷ drop (i + 1) xs
drop_next xs i h = rw (add-one i) (drop-cons xs i 0 h)

-- ---- a number that stands twice

-- the part lent from n on
tail_whole : (xs : List ℕ) (n : ℕ) → take (length xs - n) (drop n xs) ≡ drop n xs
tail_whole xs n = take_all (length xs - n) (drop n xs) (omega (arith, length-drop n xs))

module _ (list : List ℕ) (i : ℕ) where
  -- the member at i stands again in the part behind it, or does not
  pub repeats_next : (again : Bool) → i < length list → again ≡ list_any (λ y. eqb y (get_or list i 0)) (take (length list - (i + 1)) (drop (i + 1) list))
      → repeats (drop i list) ≡ (again || repeats (drop (i + 1) list))
  unfolding repeats
  repeats_next again h e = rw (drop_next list i h, e, tail_whole list (i + 1), list_any_member (get_or list i 0) (drop (i + 1) list))

  pub repeats_end : length list ≤ i → repeats (drop i list) ≡ false
  unfolding repeats
  repeats_end h = rw (drop_of_length-le list h)

-- ---- a floating after an essential

-- the part still to come, where `essential` says whether an essential stands before it
abbrev pub mixed_from : Bool → List ℕ → Bool
mixed_from essential ks = (essential && member 1 ks) || mixed ks

-- the next member is no floating, or no essential stands before it
mixed_step : (essential : Bool) (k : ℕ) (ks : List ℕ) → (essential && eqb k 1) ≡ false → mixed_from essential (k ∷ ks) ≡ mixed_from (essential || eqb k 2) ks
unfolding member mixed
mixed_step false k ks calm = refl
mixed_step true k ks calm =
    rw (ne_eqb 1 k (λ h. clash (eqb k 1) (eqb_yes k 1 (sym h)) calm)) (boole (member 1 ks) (λ m. rw m) (λ m. rw m (boole (eqb k 2) (λ t. rw t) (λ t. rw t))))

-- the code's tests of a kind
is_floating : (k : ℕ) → option_eq eq-value.it (kind_said k) (Some Floating) ≡ eqb k 1
is_floating zero = refl
is_floating (suc zero) = refl
is_floating (suc (suc zero)) = refl
is_floating (suc (suc (suc k))) = sym (eqb_no (suc (suc (suc k))) 1 (λ e. omega arith))

is_essential : (k : ℕ) → option_eq eq-value.it (kind_said k) (Some Essential) ≡ eqb k 2
is_essential zero = refl
is_essential (suc zero) = refl
is_essential (suc (suc zero)) = refl
is_essential (suc (suc (suc k))) = sym (eqb_no (suc (suc (suc k))) 2 (λ e. omega arith))

pub floating : (k : ℕ) (kind : Option Kind) (is : Bool) → kind ≡ kind_said k → is ≡ option_eq eq-value.it kind (Some Floating) → eqb k 1 ≡ is
floating k kind is e f = rw (f, e, is_floating k)

pub essential : (k : ℕ) (kind : Option Kind) (is : Bool) → kind ≡ kind_said k → is ≡ option_eq eq-value.it kind (Some Essential) → eqb k 2 ≡ is
essential k kind is e f = rw (f, e, is_essential k)

module _ (f : ℕ → ℕ) (list : List ℕ) (i : ℕ) where
  -- what the turn of the loop says of `essential`: where it was true no floating came, and an essential makes it true
  pub mixed_next : (essential after : Bool) → i < length list → (essential && eqb (f (get_or list i 0)) 1) ≡ false
      → after ≡ (essential || eqb (f (get_or list i 0)) 2)
      → mixed_from essential (map f (drop i list)) ≡ mixed_from after (map f (drop (i + 1) list))
  mixed_next essential after h calm grew = rw (drop_next list i h, grew) (mixed_step essential (f (get_or list i 0)) (map f (drop (i + 1) list)) calm)

  pub mixed_hit : (essential : Bool) → i < length list → essential ≡ true → eqb (f (get_or list i 0)) 1 ≡ true → mixed_from essential (map f (drop i list)) ≡ true
  unfolding member
  mixed_hit essential h t one = rw (drop_next list i h, t, eq-eqb 1 (f (get_or list i 0)) (sym (eqb→eq (f (get_or list i 0)) 1 (T_of one))))

  pub mixed_end : (essential : Bool) → length list ≤ i → mixed_from essential (map f (drop i list)) ≡ false
  unfolding member mixed
  mixed_end essential h = rw (drop_of_length-le list h) (boole essential (λ t. rw t) (λ t. rw t))
