-- What a loop over the places of a slice has still to come: the elements from place i up to place `end`.
use Rattle.std.specs.Prelude.{◌≡◌, List, [], ◌∷◌, ℕ, suc, ◌+◌, ◌-◌, ◌≤◌, ◌<◌, length, get_or}
use Rattle.std.proofs.Common.{add-one, arith, drop-cons}
use Rattle.laws.specs.Tools.{part}

unfoldable pub up_to : (i end : ℕ) (xs : List ℕ) → List ℕ
up_to i end xs = part i (end - i) xs

pub up_to_none : (end i : ℕ) (xs : List ℕ) → end ≤ i → up_to i end xs ≡ []
unfolding up_to
up_to_none end i xs h = let e : end - i ≡ 0 = omega arith in rw e

pub up_to_next : (i end : ℕ) (xs : List ℕ) → i < end → end ≤ length xs → up_to i end xs ≡ get_or xs i 0 ∷ up_to (i + 1) end xs
unfolding up_to
up_to_next i end xs h l =
    let e : end - i ≡ suc (end - (i + 1)) = omega arith in
    rw (e, drop-cons xs i 0 (omega arith), add-one i)

pub up_to_part : (i len : ℕ) (xs : List ℕ) → up_to i (i + len) xs ≡ part i len xs
unfolding up_to
up_to_part i len xs = let h : i + len - i ≡ len = omega arith in rw h
