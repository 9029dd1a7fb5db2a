-- Laws of the pass that hands distances down, as its two loops run it.
-- Assumes nothing.
use mathlib.Core.Path.{◌≡◌, refl, ap, ◌∙◌}
use mathlib.Core.Logic.{◌≢◌}
use mathlib.Core.List.{List, [], ◌∷◌}
use Prim.Native.Nat.{ℕ, zero, suc, ◌+◌, ◌-◌, ◌≤◌, ◌<◌, min}
use native.Mathlib.Omega.{arith}
use lib.ListN.{length, get_or, drop, set, replicate, length-set, length-replicate, get_or-replicate}
use native.Mathlib.Numerals.{add-one}
use Rattle.std.proofs.lemmas.List.{drop_all}
use lib.Seq.{drop-cons, set-get_or, get_or-set_other}
use Rattle.defs.specs.Graph.{Graph}
use Rattle.defs.specs.Counts.{unreached, lower, descend, distances}

-- inside a list nothing depends on what is read past its end
pub get_D_inside : (xs : List ℕ) (i a b : ℕ) → i < length xs → get_or xs i a ≡ get_or xs i b
get_D_inside [] i a b l = absurd (omega arith)
get_D_inside (x ∷ xs) zero a b l = refl
get_D_inside (x ∷ xs) (suc i) a b l = get_D_inside xs i a b (omega arith)

-- ---- the children of one entry: what is still to be lowered gives the same

pub lower_next : (d i : ℕ) (ks ds : List ℕ) → i < length ks → get_or ks i 0 < length ds
    → lower d (drop (i + 1) ks) (set ds (get_or ks i 0) (min d (get_or ds (get_or ks i 0) 0))) ≡ lower d (drop i ks) ds
unfolding lower
lower_next d i ks ds l m = rw (add-one, drop-cons ks i 0 l, get_D_inside ds (get_or ks i 0) 0 unreached m)

pub lower_done : (d i : ℕ) (ks ds : List ℕ) → length ks ≤ i → lower d (drop i ks) ds ≡ ds
unfolding lower
lower_done d i ks ds h = rw (drop_all i ks h)

-- ---- the entries, highest first: what is still to come gives the same

-- an entry that is reached hands its distance plus 1 to its children
pub descend_next : (g : Graph) (e : ℕ) (ds ds' : List ℕ) → 0 < e → e - 1 < length ds → get_or ds (e - 1) 0 < unreached
    → ds' ≡ lower (get_or ds (e - 1) 0 + 1) (g.kids (e - 1)) ds → descend g (e - 1) ds' ≡ descend g e ds
unfolding descend
descend_next g zero ds ds' h l near is = absurd (omega arith)
descend_next g (suc e) ds ds' h l near is =
    let one_less : suc e - 1 ≡ e = omega arith in
    let same : get_or ds e 0 ≡ get_or ds e unreached = get_D_inside ds e 0 unreached (omega arith) in
    let far : get_or ds e 0 + 1 ≡ min unreached (suc (get_or ds e unreached)) = omega (arith, rw one_less at near) in
    rw one_less (ap (descend g e) (rw (one_less, far) at is))

cap_inside : (ds : List ℕ) (m : ℕ) → ((i : ℕ) → get_or ds i 0 ≤ m) → (i : ℕ) → get_or ds i m ≤ m
cap_inside [] m h i = omega arith
cap_inside (d ∷ ds) m h zero = h 0
cap_inside (d ∷ ds) m h (suc i) = cap_inside ds m (λ j. h (suc j)) i

lower_far : (cs ds : List ℕ) → ((i : ℕ) → get_or ds i 0 ≤ unreached) → lower unreached cs ds ≡ ds
unfolding lower
lower_far [] ds h = refl
lower_far (c ∷ cs) ds h =
    let same : min unreached (get_or ds c unreached) ≡ get_or ds c unreached = omega (arith, cap_inside ds unreached h c) in
    rw (same, set-get_or ds c unreached) (lower_far cs ds h)

-- one that is not hands nothing down
pub descend_skip : (g : Graph) (e : ℕ) (ds : List ℕ) → 0 < e → e - 1 < length ds → unreached ≤ get_or ds (e - 1) 0 → ((i : ℕ) → get_or ds i 0 ≤ unreached)
    → descend g (e - 1) ds ≡ descend g e ds
unfolding descend
descend_skip g zero ds h l far most = absurd (omega arith)
descend_skip g (suc e) ds h l far most =
    let one_less : suc e - 1 ≡ e = omega arith in
    let same : get_or ds e 0 ≡ get_or ds e unreached = get_D_inside ds e 0 unreached (omega arith) in
    let all-far : min unreached (suc (get_or ds e unreached)) ≡ unreached = omega (arith, rw one_less at far) in
    rw (one_less, all-far, lower_far (g.kids e) ds most)

pub descend_done : (g : Graph) (e : ℕ) (ds : List ℕ) → e ≤ 0 → descend g e ds ≡ ds
unfolding descend
descend_done g zero ds h = refl
descend_done g (suc e) ds h = absurd (omega arith)

-- entries that are not reached are passed over
descend_over : (g : Graph) (k m : ℕ) (ds : List ℕ) → m + k ≤ length ds → ((i : ℕ) → k ≤ i → i < length ds → unreached ≤ get_or ds i 0) → ((i : ℕ) → get_or ds i 0 ≤ unreached)
    → descend g k ds ≡ descend g (m + k) ds
descend_over g k zero ds l far most = let none : 0 + k ≡ k = omega arith in rw none
descend_over g k (suc m) ds l far most =
    let up : suc m + k ≡ suc (m + k) = omega arith in
    let one_less : suc (m + k) - 1 ≡ m + k = omega arith in
    rw up
    (descend_over g k m ds (omega arith) far most
    ∙ rw one_less at (descend_skip g (suc (m + k)) ds (omega arith) (omega arith) (rw one_less (far (m + k) (omega arith) (omega arith))) most))

set_most : (ds : List ℕ) (q v m : ℕ) → v ≤ m → ((i : ℕ) → get_or ds i 0 ≤ m) → (i : ℕ) → get_or (set ds q v) i 0 ≤ m
set_most [] q v m l h i = h i
set_most (d ∷ ds) zero v m l h zero = l
set_most (d ∷ ds) zero v m l h (suc i) = h (suc i)
set_most (d ∷ ds) (suc q) v m l h zero = h 0
set_most (d ∷ ds) (suc q) v m l h (suc i) = set_most ds q v m l (λ j. h (suc j)) i

replicate_most : (n u i : ℕ) → get_or (replicate n u) i 0 ≤ u
replicate_most zero u i = omega arith
replicate_most (suc n) u zero = omega arith
replicate_most (suc n) u (suc i) = replicate_most n u i

-- before the pass QED alone is reached, at 0; so it starts with QED
module _ (n q : ℕ) (l : q < n) where
  abbrev begun : List ℕ
  begun = set (replicate n unreached) q 0

  begun_long : length begun ≡ n
  begun_long = length-set (replicate n unreached) q 0 ∙ length-replicate n unreached

  others : (i : ℕ) → i ≢ q → i < n → get_or begun i 0 ≡ unreached
  others i d m = get_or-set_other (replicate n unreached) q i 0 0 d ∙ get_or-replicate n i unreached 0 m

  begun_most : (i : ℕ) → get_or begun i 0 ≤ unreached
  begun_most = set_most (replicate n unreached) q 0 unreached (omega arith) (replicate_most n unreached)

  pub distances_start : (g : Graph) (v : ℕ) (ds : List ℕ) → v ≡ 0 → ds ≡ replicate n unreached → descend g (q + 1) (set ds q v) ≡ distances g n q
  unfolding distances
  distances_start g v ds zero-at e =
      let all : n - (q + 1) + (q + 1) ≡ n = omega arith in
      rw (zero-at, e) (rw all at (descend_over g (q + 1) (n - (q + 1)) begun (omega (arith, begun_long)) (λ i k m. omega (arith, others i (λ z. omega arith) (rw begun_long at m))) begun_most))
