-- The one descending pass gives the fewest child edges from QED: `DistanceLaw` of module Counts, proved.
use Rattle.std.specs.Prelude.{◌≡◌, refl, ◌⊎◌, List, [], ◌∷◌, length, set, replicate, T, eqb}
use Rattle.std.proofs.Common.{sym, ◌∙◌, le_refl, get_or-set_other, eqb→eq}
use Rattle.std.proofs.Math.Path.{ap, subst}
use Rattle.std.proofs.Math.Logic.{inl, inr}
use Prim.Native.Nat.{ℕ, zero, suc, ◌+◌, ◌≤◌, ◌<◌, min}
use Rattle.std.proofs.Math.Nat.{le_trans, le_of_eq, min-le_left, min-le_right}
use Rattle.std.proofs.Math.Decide.{dec_lt, ℕ_discrete}
use native.Mathlib.Omega.{arith}
use Rattle.std.proofs.Math.ListN.{get_or, length-set, length-replicate}
use Rattle.std.proofs.Math.Seq.{get_or-set_same}
use Rattle.std.proofs.Math.Dec.{eqb_refl}
use Rattle.std.proofs.Math.Facts.{or_yes}
use Rattle.laws.specs.Tools.{member}
use Rattle.laws.specs.Lists.{or_left, or_right, get_D_constant}
use Rattle.defs.specs.Graph.{Graph}
use Rattle.defs.specs.Counts.{unreached, lower, descend, distances, Way, IsDistance, DistanceLaw}

-- ---- what `lower` does at a place

set_le : (ds : List ℕ) (c d x : ℕ) → get_or (set ds c (min d (get_or ds c unreached))) x unreached ≤ get_or ds x unreached
set_le [] c d x = le_refl unreached
set_le (y ∷ ys) zero d zero = min-le_right d y
set_le (y ∷ ys) zero d (suc x) = le_refl _
set_le (y ∷ ys) (suc c) d zero = le_refl y
set_le (y ∷ ys) (suc c) d (suc x) = set_le ys c d x

min_either : (a b : ℕ) → (min a b ≡ b) ⊎ (min a b ≡ a)
min_either a b = elim (dec_lt a b) [ yes h ↦ inr (omega arith) | no h ↦ inl (omega arith) ]

set_from : (ds : List ℕ) (c d x : ℕ)
    → (get_or (set ds c (min d (get_or ds c unreached))) x unreached ≡ get_or ds x unreached) ⊎ ((get_or (set ds c (min d (get_or ds c unreached))) x unreached ≡ d) × (x ≡ c))
set_from [] c d x = inl refl
set_from (y ∷ ys) zero d zero = elim (min_either d y) [ inl e ↦ inl e | inr e ↦ inr (e, refl) ]
set_from (y ∷ ys) zero d (suc x) = inl refl
set_from (y ∷ ys) (suc c) d zero = inl refl
set_from (y ∷ ys) (suc c) d (suc x) = elim (set_from ys c d x) [ inl e ↦ inl e | inr p ↦ inr (p.0, ap suc p.1) ]

pub length_lower : (d : ℕ) (cs ds : List ℕ) → length (lower d cs ds) ≡ length ds
unfolding lower
length_lower d [] ds = refl
length_lower d (c ∷ cs) ds = length_lower d cs _ ∙ length-set ds c _

-- no place grows
pub lower_le : (d : ℕ) (cs ds : List ℕ) (x : ℕ) → get_or (lower d cs ds) x unreached ≤ get_or ds x unreached
unfolding lower
lower_le d [] ds x = le_refl _
lower_le d (c ∷ cs) ds x = le_trans (lower_le d cs (set ds c (min d (get_or ds c unreached))) x) (set_le ds c d x)

-- a listed place is at most d
pub lower_hit : (d : ℕ) (cs ds : List ℕ) (x : ℕ) → x < length ds → T (member x cs) → get_or (lower d cs ds) x unreached ≤ d
unfolding lower member
lower_hit d [] ds x h m = absurd m
lower_hit d (c ∷ cs) ds x h m =
    let ds' : List ℕ = set ds c (min d (get_or ds c unreached)) in
    elim (or_yes (eqb x c) (member x cs) m) [
      | inl t ↦
          le_trans (lower_le d cs ds' x)
          (le_trans (le_of_eq (ap (λ (j : ℕ). get_or ds' j unreached) (eqb→eq x c t) ∙ get_or-set_same ds c _ unreached (subst (λ (j : ℕ). j < length ds) (eqb→eq x c t) h)))
          (min-le_left d _))
      | inr t ↦ lower_hit d cs ds' x (subst (λ (j : ℕ). x < j) (sym (length-set ds c _)) h) t
    ]

-- a place keeps its value, or is listed and has d
pub lower_from : (d : ℕ) (cs ds : List ℕ) (x : ℕ)
    → (get_or (lower d cs ds) x unreached ≡ get_or ds x unreached) ⊎ ((get_or (lower d cs ds) x unreached ≡ d) × T (member x cs))
unfolding lower member
lower_from d [] ds x = inl refl
lower_from d (c ∷ cs) ds x =
    elim (lower_from d cs (set ds c (min d (get_or ds c unreached))) x) [
      | inl e ↦
          elim (set_from ds c d x) [
            | inl f ↦ inl (e ∙ f)
            | inr p ↦ inr (e ∙ p.0, or_left (eqb x c) (member x cs) (subst (λ (j : ℕ). T (eqb x j)) p.1 (eqb_refl x)))
          ]
      | inr p ↦ inr (p.0, or_right (eqb x c) (member x cs) p.1)
    ]

-- ---- ways

module _ (g : Graph) (n q : ℕ) (falls : (p c : ℕ) → p < n → T (member c (g.kids p)) → c < p) (hq : q < n) where
  -- a way stays below n, and each edge goes down
  pub way_below : (k x : ℕ) → Way g k q x → x < n
  unfolding Way
  way_below zero x e = subst (λ (j : ℕ). j < n) e hq
  way_below (suc k) x w = let hp = way_below k w.0 w.1 in let hx = falls w.0 x hp w.2 in omega arith

  pub way_drop : (k x : ℕ) → Way g k q x → k + x ≤ q
  unfolding Way
  way_drop zero x e = omega arith
  way_drop (suc k) x w = let ih = way_drop k w.0 w.1 in let hx = falls w.0 x (way_below k w.0 w.1) w.2 in omega arith

  -- before the entries below e hand their distance down: each value is the length of a way, and no longer than any way
  -- whose last edge starts at an entry from e on
  record Inv (e : ℕ) (ds : List ℕ) : Type 0 where
    len : length ds ≡ n
    cap : (x : ℕ) → get_or ds x unreached ≤ unreached
    start : get_or ds q unreached ≡ 0
    sound : (x : ℕ) → get_or ds x unreached < unreached → Way g (get_or ds x unreached) q x
    edges : (k p x : ℕ) → e ≤ p → x < n → Way g k q p → T (member x (g.kids p)) → get_or ds x unreached ≤ suc k

  -- so the value is the distance wherever every parent has had its turn
  exact : (e : ℕ) (ds : List ℕ) → Inv e ds → (x : ℕ) → e ≤ suc x → x < n → (k : ℕ) → Way g k q x → get_or ds x unreached ≤ k
  unfolding Way
  exact e ds inv x he hx zero w = le_of_eq (ap (λ (j : ℕ). get_or ds j unreached) (sym w) ∙ inv.start)
  exact e ds inv x he hx (suc k) w =
      let hp = way_below k w.0 w.1 in
      let hc = falls w.0 x hp w.2 in
      inv.edges k w.0 x (omega arith) hx w.1 w.2

  turn : (e : ℕ) (ds : List ℕ) → e < n → Inv (suc e) ds → Inv e (lower (min unreached (suc (get_or ds e unreached))) (g.kids e) ds)
  unfolding Way
  turn e ds he inv = record { len = length_lower d (g.kids e) ds ∙ inv.len; cap = λ x. le_trans (lower_le d (g.kids e) ds x) (inv.cap x); start = start'; sound = sound'; edges = edges' }
    where
      v : ℕ
      v = get_or ds e unreached

      d : ℕ
      d = min unreached (suc v)

      start' : get_or (lower d (g.kids e) ds) q unreached ≡ 0
      start' = let h = lower_le d (g.kids e) ds q in let s = inv.start in omega arith

      step : (x k : ℕ) → k ≡ suc v → v < unreached → T (member x (g.kids e)) → Way g k q x
      step x k eq hv m = subst (λ (j : ℕ). Way g j q x) (sym eq) (e, inv.sound e hv, m)

      sound' : (x : ℕ) → get_or (lower d (g.kids e) ds) x unreached < unreached → Way g (get_or (lower d (g.kids e) ds) x unreached) q x
      sound' x h =
          elim (lower_from d (g.kids e) ds x) [
            | inl eq ↦ subst (λ (j : ℕ). Way g j q x) (sym eq) (inv.sound x (subst (λ (j : ℕ). j < unreached) eq h))
            | inr p ↦
                let eq : get_or (lower d (g.kids e) ds) x unreached ≡ min unreached (suc v) = p.0 in
                step x (get_or (lower d (g.kids e) ds) x unreached) (omega arith) (omega arith) p.1
          ]

      edges' : (k p x : ℕ) → e ≤ p → x < n → Way g k q p → T (member x (g.kids p)) → get_or (lower d (g.kids e) ds) x unreached ≤ suc k
      edges' k p x hp hx w m =
          elim (dec_lt e p) [
            | yes l ↦ le_trans (lower_le d (g.kids e) ds x) (inv.edges k p x l hx w m)
            | no l ↦
                let pe : p ≡ e = omega arith in
                let hv : v ≤ k = exact (suc e) ds inv e (le_refl (suc e)) he k (subst (λ (j : ℕ). Way g k q j) pe w) in
                let hd : get_or (lower d (g.kids e) ds) x unreached ≤ min unreached (suc v) = lower_hit d (g.kids e) ds x (subst (λ (j : ℕ). x < j) (sym inv.len) hx) (subst (λ (j : ℕ). T (member x (g.kids j))) pe m) in
                omega arith
          ]

  turns : (e : ℕ) (ds : List ℕ) → e ≤ n → Inv e ds → Inv 0 (descend g e ds)
  unfolding descend
  turns zero ds he inv = inv
  turns (suc e) ds he inv = turns e _ (omega arith) (turn e ds he inv)

  begin : Inv n (set (replicate n unreached) q 0)
  unfolding Way
  begin =
      record {
        len = length-set (replicate n unreached) q 0 ∙ length-replicate n unreached;
        cap = λ x. elim (ℕ_discrete x q) [ yes e ↦ le_trans (le_of_eq (at_q x e)) (omega arith) | no e ↦ le_of_eq (other x e) ];
        start = at_q q refl;
        sound = λ x h. elim (ℕ_discrete x q) [ yes e ↦ subst (λ (j : ℕ). Way g j q x) (sym (at_q x e)) (sym e) | no e ↦ let eq = other x e in absurd (omega arith) ];
        edges = λ k p x hp hx w m. let h = way_below k p w in absurd (omega arith);
      }
    where
      at_q : (x : ℕ) → x ≡ q → get_or (set (replicate n unreached) q 0) x unreached ≡ 0
      at_q x e = ap (λ (j : ℕ). get_or (set (replicate n unreached) q 0) j unreached) e ∙ get_or-set_same (replicate n unreached) q 0 unreached (subst (λ (j : ℕ). q < j) (sym (length-replicate n unreached)) hq)

      other : (x : ℕ) → ¬ (x ≡ q) → get_or (set (replicate n unreached) q 0) x unreached ≡ unreached
      other x e = get_or-set_other (replicate n unreached) q x 0 unreached e ∙ get_D_constant n x unreached

  done : Inv 0 (distances g n q)
  unfolding distances
  done = turns n _ (le_refl n) begin

  pub is_distance : n ≤ unreached → (x : ℕ) → x < n → IsDistance g q x (get_or (distances g n q) x unreached)
  unfolding IsDistance
  is_distance hn x hx =
      elim (dec_lt (get_or (distances g n q) x unreached) unreached) [
        | yes h ↦ inl (done.sound x h, λ k hk w. let le = exact 0 _ done x (omega arith) hx k w in absurd (omega arith))
        | no h ↦ inr (let c = done.cap x in omega arith, λ k w. let le = exact 0 _ done x (omega arith) hx k w in let dr = way_drop k x w in absurd (omega arith))
      ]

pub distance_law : DistanceLaw
unfolding DistanceLaw
distance_law g n q e falls hn hq he = is_distance g n q falls hq hn e he
