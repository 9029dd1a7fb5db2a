-- What an answer is once its number is known, and the number of a table that is refused: what the returns of a writer ask for.
use Rattle.std.specs.Prelude.{◌≡◌, refl, ◌≢◌, ℕ, zero, suc, ◌≤◌, Bool, true, false, List, [], ◌∷◌, map, length}
use Rattle.std.proofs.Common.{ap₂, arith}
use Rattle.laws.specs.Tools.{pick, over, zeroed}
use Rattle.laws.specs.Lists.{eqb_no, leb_yes}
use Rattle.defs.specs.Check.{first_of, or_else, table_refusal, bad1, bad2, bad3, bad4, bad5, bad6, bad7}
use Rattle.defs.specs.Outcome.{length_after, out_after, is_early, work_after, one_output, two_outputs}

-- ---- a table that is refused

-- a test's number, or what follows it, where neither is over a limit
pick_most : (bad : Bool) (k rest limit : ℕ) → k ≤ limit → rest ≤ limit → pick bad k rest ≤ limit
pick_most true k rest limit h t = h
pick_most false k rest limit h t = t

pub table_refusal_most : (w b : List ℕ) → table_refusal w b ≤ 7
unfolding table_refusal first_of
table_refusal_most w b =
    pick_most (bad1 w) 1 _ 7 (omega arith)
    (pick_most (bad2 w b) 2 _ 7 (omega arith)
    (pick_most (bad3 w b) 3 _ 7 (omega arith)
    (pick_most (bad4 w) 4 _ 7 (omega arith)
    (pick_most (bad5 w) 5 _ 7 (omega arith)
    (pick_most (bad6 w) 6 _ 7 (omega arith)
    (pick_most (bad7 w) 7 _ 7 (omega arith) (omega arith)))))))

-- the first answer stands where it refuses
pub else_refused : (k next : ℕ) → k ≢ 0 → or_else k next ≡ k
unfolding or_else
else_refused zero next h = absurd (h refl)
else_refused (suc k) next h = refl

pub else_good : (k next : ℕ) → k ≡ 0 → or_else k next ≡ next
unfolding or_else
else_good zero next h = refl
else_good (suc k) next h = absurd (omega arith)

-- its number is an early one
pub refused_early : (k : ℕ) → k ≢ 0 → k ≤ 7 → is_early k ≡ true
unfolding is_early
refused_early k h l = rw (leb_yes 1 k (omega arith), leb_yes k 9 (omega arith))

-- ---- answers

early_works : (k : ℕ) (works : List (List ℕ)) → is_early k ≡ true → map (work_after k) works ≡ works
unfolding work_after
early_works k [] h = refl
early_works k (x ∷ xs) h = ap₂ (λ (y : List ℕ) (ys : List (List ℕ)). y ∷ ys) (rw h) (early_works k xs h)

pub late_works : (k : ℕ) (works : List (List ℕ)) → is_early k ≡ false → map (work_after k) works ≡ map zeroed works
unfolding work_after
late_works k [] h = refl
late_works k (x ∷ xs) h = ap₂ (λ (y : List ℕ) (ys : List (List ℕ)). y ∷ ys) (rw h) (late_works k xs h)

-- an early refusal changes nothing
pub one_early : (k : ℕ) (result : List ℕ) (works : List (List ℕ)) (out : List ℕ) → k ≢ 0 → is_early k ≡ true
    → one_output k result works out ≡ record { number = k; lengths = 0 ∷ []; outs = out ∷ []; works = works }
unfolding one_output length_after out_after
one_early k result works out h e = rw (eqb_no k 0 h, early_works k works e)

pub two_early : (k : ℕ) (r₁ r₂ : List ℕ) (works : List (List ℕ)) (o₁ o₂ : List ℕ) → k ≢ 0 → is_early k ≡ true
    → two_outputs k r₁ r₂ works o₁ o₂ ≡ record { number = k; lengths = 0 ∷ 0 ∷ []; outs = o₁ ∷ o₂ ∷ []; works = works }
unfolding two_outputs length_after out_after
two_early k r₁ r₂ works o₁ o₂ h e = rw (eqb_no k 0 h, early_works k works e)

-- a later one leaves the outputs and zeroes the working slices
pub one_late : (k : ℕ) (result : List ℕ) (works : List (List ℕ)) (out : List ℕ) → k ≢ 0 → is_early k ≡ false
    → one_output k result works out ≡ record { number = k; lengths = 0 ∷ []; outs = out ∷ []; works = map zeroed works }
unfolding one_output length_after out_after
one_late k result works out h e = rw (eqb_no k 0 h, late_works k works e)

pub two_late : (k : ℕ) (r₁ r₂ : List ℕ) (works : List (List ℕ)) (o₁ o₂ : List ℕ) → k ≢ 0 → is_early k ≡ false
    → two_outputs k r₁ r₂ works o₁ o₂ ≡ record { number = k; lengths = 0 ∷ 0 ∷ []; outs = o₁ ∷ o₂ ∷ []; works = map zeroed works }
unfolding two_outputs length_after out_after
two_late k r₁ r₂ works o₁ o₂ h e = rw (eqb_no k 0 h, late_works k works e)

-- success puts the results over the front of the outputs and zeroes the working slices
pub one_done : (k : ℕ) (result : List ℕ) (works : List (List ℕ)) (out : List ℕ) → k ≡ 0
    → one_output k result works out ≡ record { number = 0; lengths = length result ∷ []; outs = over result out ∷ []; works = map zeroed works }
unfolding one_output length_after out_after is_early
one_done k result works out h = rw (h, late_works 0 works refl)

pub two_done : (k : ℕ) (r₁ r₂ : List ℕ) (works : List (List ℕ)) (o₁ o₂ : List ℕ) → k ≡ 0
    → two_outputs k r₁ r₂ works o₁ o₂
    ≡ record { number = 0; lengths = length r₁ ∷ length r₂ ∷ []; outs = over r₁ o₁ ∷ over r₂ o₂ ∷ []; works = map zeroed works }
unfolding two_outputs length_after out_after is_early
two_done k r₁ r₂ works o₁ o₂ h = rw (h, late_works 0 works refl)
