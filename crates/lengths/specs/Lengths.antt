-- How long the packed list is: the root, and the children of each reachable entry once.
use Rattle.std.specs.Prelude.{◌≡◌, ℕ, zero, suc, ◌+◌, ◌*◌, ◌≤◌, ◌<◌, Bool, true, false, ◌&&◌, eqb, ltb}
use Rattle.std.proofs.Math.Path.{refl, ap}
use Rattle.std.proofs.Common.{sym, ◌∙◌, eqb→eq, lt→ltb}
use native.Mathlib.Omega.{arith}
use Rattle.std.proofs.Math.Decide.{dec_lt}
use mathlib.Core.List.{List, [], ◌∷◌, ◌++◌}
use Rattle.std.proofs.Math.ListN.{length, length-append}
use Rattle.std.proofs.Math.Dec.{eqb_refl}
use Rattle.laws.specs.Tools.{pick, sum_below, count}
use Rattle.laws.specs.Lists.{boole, T_of, of_T, clash, All, all_map, all_append, found_other, found_end}
use Rattle.laws.specs.Sums.{tot, bit, bit_cases, tot_append, tot_ge, sum_le, sum_eq, sum_zero, tot_sum, all_count, count_all, count_length, count_self, mul_le}
use Rattle.lengths.specs.Forests.{Forest, nil, node, width, sub, Good, roots, Under, under_sub, roots_sub, width_roots, good_tree}
use Rattle.lengths.specs.Walks.{norm_step, marked, mark, mark_no, marks, packed, packed_back, packed_open, mark_other, marks_under}

-- the entries that the packed walk goes into, in order
unfoldable pub exps : (ℕ → Bool) → Forest → List ℕ → List ℕ
exps pol nil mk = []
exps pol (node e c b) mk = pick (marked e mk) (exps pol b mk) (exps pol c mk ++ e ∷ exps pol b (mark pol e (marks pol c mk)))

module _ (pol : ℕ → Bool) (e : ℕ) (c b : Forest) (mk : List ℕ) where
  pub exps_back : marked e mk ≡ true → exps pol (node e c b) mk ≡ exps pol b mk
  unfolding exps
  exps_back h = rw h

  pub exps_list : marked e mk ≡ false → exps pol (node e c b) mk ≡ exps pol c mk ++ e ∷ exps pol b (mark pol e (marks pol c mk))
  unfolding exps
  exps_list h = rw h

  exps_open : marked e mk ≡ false → (w : ℕ → ℕ) → tot w (exps pol (node e c b) mk)
      ≡ tot w (exps pol c mk) + (w e + tot w (exps pol b (mark pol e (marks pol c mk))))
  exps_open h w = ap (tot w) (exps_list h) ∙ tot_append w (exps pol c mk) (e ∷ exps pol b (mark pol e (marks pol c mk)))

module _ (pol : ℕ → Bool) (want : ℕ → ℕ) (kids : ℕ → List ℕ) (low : (e : ℕ) → All (λ k. k < e) (kids e)) where
  -- each step is a root, or a child of an entry gone into
  packed_length : (stmt : ℕ → ℕ) (t : Forest) → Good want kids t → (mk : List ℕ)
      → length (packed pol stmt t mk) ≡ width t + tot (λ e. length (kids e)) (exps pol t mk)
  unfolding packed exps
  packed_length stmt nil g mk = refl
  packed_length stmt (node e c b) g mk =
      let mk2 = mark pol e (marks pol c mk) in
      let ic = packed_length stmt c g.2 mk in
      let ib1 = packed_length stmt b g.3 mk in
      let ib2 = packed_length stmt b g.3 mk2 in
      boole (marked e mk)
      (λ h. rw (packed_back pol stmt e c b mk h, exps_back pol e c b mk h) (omega arith))
      (λ h. rw (
        packed_open pol stmt e c b mk h,
        exps_open pol e c b mk h (λ e. length (kids e)),
        length-append (packed pol stmt c mk) (norm_step (mark_no pol e (marks pol c mk)) (stmt e) ∷ packed pol stmt b mk2),
      )
      (omega (arith, width_roots c, ap length (ap roots g.0 ∙ roots_sub kids low e))))

  -- an entry that is not to be marked is gone into each time that it is met
  unmarked : (x : ℕ) → pol x ≡ false → (e : ℕ) (mk : List ℕ) → marked x mk ≡ false → marked x (mark pol e mk) ≡ false
  unmarked x p e mk h =
      boole (pol e)
      (λ y. boole (eqb x e)
      (λ z. clash (pol x) (ap pol (eqb→eq x e (T_of z)) ∙ y) p)
      (λ z. rw y (found_other (eqb x) mk e z ∙ h)))
      (λ y. rw y h)

  met_plain : (x : ℕ) → pol x ≡ false → (t : Forest) → Good want kids t → (mk : List ℕ) → marked x mk ≡ false
      → (count x (exps pol t mk) ≡ count x (roots t) + tot (λ p. count x (kids p)) (exps pol t mk)) × (marked x (marks pol t mk) ≡ false)
  unfolding exps marks
  met_plain x p nil g mk u = (refl, u)
  met_plain x p (node e c b) g mk u =
      let mk2 = mark pol e (marks pol c mk) in
      let ic = met_plain x p c g.2 mk u in
      let ib1 = met_plain x p b g.3 mk u in
      let ib2 = met_plain x p b g.3 mk2 (unmarked x p e (marks pol c mk) ic.1) in
      boole (marked e mk)
      (λ h. rw (exps_back pol e c b mk h, h)
      (bit_cases x e (λ i h1. clash (marked x mk) (ap (λ (z : ℕ). marked z mk) i ∙ h) u) (λ i h0. omega arith), ib1.1))
      (λ h. rw (exps_open pol e c b mk h (λ y. bit (eqb x y)), exps_open pol e c b mk h (λ p. count x (kids p)), h)
      (omega (arith, ap (count x) (ap roots g.0 ∙ roots_sub kids low e)), ib2.1))

  mark_self : (e : ℕ) → pol e ≡ true → (mk : List ℕ) → marked e (mark pol e mk) ≡ true
  mark_self e p mk = rw p (found_end (eqb e) mk e (of_T (eqb e e) (eqb_refl e)))

  -- an entry above all labels is not met
  not_met : (x m : ℕ) → m ≤ x → (t : Forest) → Under m t → (mk : List ℕ) → count x (exps pol t mk) ≡ 0
  unfolding exps
  not_met x m l nil u mk = refl
  not_met x m l (node e c b) u mk =
      let ic = not_met x m l c u.1 mk in
      let ib1 = not_met x m l b u.2 mk in
      let ib2 = not_met x m l b u.2 (mark pol e (marks pol c mk)) in
      boole (marked e mk)
      (λ h. rw (exps_back pol e c b mk h) ib1)
      (λ h. rw (exps_open pol e c b mk h (λ y. bit (eqb x y)))
      (bit_cases x e (λ i h1. absurd (omega (arith, u.0))) (λ i h0. omega arith)))

  -- an entry that is to be marked is gone into once: when it is first met
  once : (x : ℕ) → pol x ≡ true → (t : Forest) → Good want kids t → (mk : List ℕ)
      → (count x (exps pol t mk) + bit (marked x mk) ≡ bit (marked x (marks pol t mk)))
      × (bit (marked x (marks pol t mk)) ≡ 0 → count x (roots t) + tot (λ p. count x (kids p)) (exps pol t mk) ≡ 0)
  unfolding exps marks
  once x p nil g mk = (omega arith, λ z. refl)
  once x p (node e c b) g mk =
      let mk1 = marks pol c mk in
      let mk2 = mark pol e mk1 in
      let ic = once x p c g.2 mk in
      let ib1 = once x p b g.3 mk in
      let ib2 = once x p b g.3 mk2 in
      let rk : count x (roots c) ≡ count x (kids e) = ap (count x) (ap roots g.0 ∙ roots_sub kids low e) in
      boole (marked e mk)
      (λ h. rw (exps_back pol e c b mk h, h) (
        ib1.0,
        λ z. bit_cases x e
            (λ i h1. absurd (omega (arith, ap (λ (y : ℕ). bit (marked y mk)) i ∙ ap bit h)))
            (λ i h0. omega (arith, ib1.1 z)),
      ))
      (λ h. rw (exps_open pol e c b mk h (λ y. bit (eqb x y)), exps_open pol e c b mk h (λ p. count x (kids p)), h)
      (bit_cases x e
      (λ i h1.
      let uc : Under e c = rw g.0 (under_sub kids low e) in
      let nm = not_met x e (omega arith) c uc mk in
      let mm = ap bit (marks_under pol x e (omega arith) c uc mk) in
      let m2 : bit (marked x mk2) ≡ 1 = ap (λ (y : ℕ). bit (marked y mk2)) i ∙ ap bit (mark_self e (ap pol (sym i) ∙ p) mk1) in
      let m0 : bit (marked x mk) ≡ 0 = ap bit (ap (λ (y : ℕ). marked y mk) i ∙ h) in
      (omega arith, λ z. absurd (omega arith)))
      (λ i h0.
      let m2 : bit (marked x mk2) ≡ bit (marked x mk1) = ap bit (mark_other pol x e i mk1) in
      (omega arith, λ z. omega (arith, ic.1 (omega arith), ib2.1 z)))))

  -- what holds of the roots and goes over to children holds of all entries gone into
  exps_all : (P : ℕ → Type 0) → ((p k : ℕ) → P p → 1 ≤ count k (kids p) → P k)
      → (t : Forest) → Good want kids t → All P (roots t) → (mk : List ℕ) → All P (exps pol t mk)
  unfolding exps
  exps_all P f nil g a mk = tt
  exps_all P f (node e c b) g a mk =
      let ks : All P (roots c) = rw (ap roots g.0 ∙ roots_sub kids low e) (all_count P (kids e) (λ k. f e k a.0)) in
      let ic = exps_all P f c g.2 ks mk in
      let ib1 = exps_all P f b g.3 a.1 mk in
      let ib2 = exps_all P f b g.3 a.1 (mark pol e (marks pol c mk)) in
      boole (marked e mk) (λ h. rw h ib1) (λ h. rw h (all_append P (exps pol c mk) _ ic (a.0, ib2)))

-- the parents of an entry: references to it over all n entries. It is marked if it has children and more than one parent.
unfoldable pub parents : (ℕ → List ℕ) → ℕ → ℕ → ℕ
parents kids n x = sum_below (λ e. count x (kids e)) n

unfoldable pub shared : (ℕ → List ℕ) → ℕ → ℕ → Bool
unfolding parents
shared kids n x = ltb 0 (length (kids x)) && ltb 1 (parents kids n x)

not_shared : (kids : ℕ → List ℕ) (n x : ℕ) → shared kids n x ≡ false → 1 ≤ length (kids x) → parents kids n x ≤ 1
unfolding shared
not_shared kids n x h l =
    elim (dec_lt 1 (parents kids n x)) [
      | yes m ↦ clash (shared kids n x) (rw (of_T (ltb 0 (length (kids x))) (lt→ltb 0 (length (kids x)) l)) (of_T (ltb 1 (parents kids n x)) (lt→ltb 1 (parents kids n x) m))) h
      | no m ↦ omega arith
    ]

module _ (want : ℕ → ℕ) (kids : ℕ → List ℕ) (low : (e : ℕ) → All (λ k. k < e) (kids e)) (n : ℕ)
    (fit : (e : ℕ) → e < n → want e ≡ length (kids e)) (q : ℕ) (qn : q < n) where
  abbrev pol : ℕ → Bool
  pol = shared kids n

  abbrev t : Forest
  t = node q (sub kids q) nil

  good : Good want kids t
  good = good_tree want kids low n fit q qn

  abbrev pub X : List ℕ
  X = exps pol t []

  abbrev S : ℕ → ℕ
  S x = tot (λ p. count x (kids p)) X

  -- what is met is gone into
  met : (x : ℕ) → 1 ≤ bit (eqb x q) + S x → 1 ≤ count x X
  met x h =
      boole (pol x)
      (λ p. let o = once pol _ kids low x p t good [] in
      elim (dec_lt 0 (count x X)) [ yes y ↦ y | no y ↦ absurd (omega (arith, o.1 (omega (arith, o.0)))) ])
      (λ p. omega (arith, (met_plain pol _ kids low x p t good [] refl).0))

  pub X_low : All (λ x. x ≤ q) X
  X_low = exps_all pol _ kids low (λ x. x ≤ q) (λ p k h l. omega (arith, count_all (λ y. y < p) (kids p) (low p) k l)) t good (omega arith, tt) []

  sum_X : (w : ℕ → ℕ) → tot w X ≡ sum_below (λ x. count x X * w x) n
  sum_X w = tot_sum w n X (all_map (λ x. x ≤ q) (λ x. x < n) (λ x l. omega arith) X X_low)

  X_above : (x : ℕ) → q < x → count x X ≡ 0
  X_above x l = elim (dec_lt 0 (count x X)) [ yes y ↦ absurd (omega (arith, count_all (λ x. x ≤ q) X X_low x y)) | no y ↦ omega arith ]

  -- a term of the sum that counts the visits of x
  few_plain : (x : ℕ) → pol x ≡ false → 1 ≤ length (kids x) → ((p : ℕ) → x < p → 1 ≤ length (kids p) → count p X ≤ 1) → count x X ≤ 1
  unfolding parents
  few_plain x e k up =
      let m = (met_plain pol _ kids low x e t good [] refl).0 in
      let sx = sum_X (λ p. count x (kids p)) in
      bit_cases x q
      (λ i h1.
      let z = sum_zero (λ p. count p X * count x (kids p)) n
      (λ p l. elim (dec_lt q p) [
        | yes y ↦ rw (X_above p y) (omega arith)
        | no y ↦ elim (dec_lt 0 (count x (kids p))) [
          | yes w ↦ absurd (omega (arith, count_all (λ y. y < p) (kids p) (low p) x w))
          | no w ↦ (let c0 : count x (kids p) ≡ 0 = omega arith in rw c0 (omega arith))
        ]
      ]) in
      omega arith)
      (λ i h0.
      let z = sum_le (λ p. count p X * count x (kids p)) (λ p. count x (kids p)) n
      (λ p l. elim (dec_lt 0 (count x (kids p))) [
        | yes w ↦ mul_le (count p X) (count x (kids p)) (up p (count_all (λ y. y < p) (kids p) (low p) x w) (count_length x (kids p) w))
        | no w ↦ (let c0 : count x (kids p) ≡ 0 = omega arith in rw c0 (omega arith))
      ]) in
      omega (arith, not_shared kids n x e k))

  -- an entry with children is gone into at most once, by induction from the top
  few : (d x : ℕ) → n ≤ x + d → 1 ≤ length (kids x) → count x X ≤ 1
  few zero x l k = omega (arith, X_above x (omega arith))
  few (suc d) x l k =
      boole (pol x)
      (λ p. boole (marked x (marks pol t []))
      (λ y. omega (arith, (once pol _ kids low x p t good []).0, ap bit y))
      (λ y. omega (arith, (once pol _ kids low x p t good []).0, ap bit y)))
      (λ p. few_plain x p k (λ y m. few d y (omega arith)))

  -- a test of which entries are reached: q is, so are the children of what is, and nothing else is
  module _ (reach : ℕ → Bool) (root : reach q ≡ true) (down : (p k : ℕ) → reach p ≡ true → 1 ≤ count k (kids p) → reach k ≡ true)
      (least : (M : ℕ → Type 0) → M q → ((p k : ℕ) → M p → 1 ≤ count k (kids p) → M k) → (x : ℕ) → x < n → reach x ≡ true → M x) where
    pub reach_met : (x : ℕ) → x < n → reach x ≡ true → 1 ≤ count x X
    reach_met =
        least (λ x. 1 ≤ count x X)
        (met q (omega (arith, count_self q [])))
        (λ p k h l. met k (omega (arith, tot_ge (λ y. count k (kids y)) p X h)))

    pub met_reach : (x : ℕ) → 1 ≤ count x X → reach x ≡ true
    met_reach = count_all (λ x. reach x ≡ true) X (exps_all pol _ kids low (λ x. reach x ≡ true) down t good (root, tt) [])

    once_each : (x : ℕ) → x < n → count x X * length (kids x) ≡ pick (reach x) (length (kids x)) 0
    once_each x l =
        boole (reach x)
        (λ h. rw h (elim (dec_lt 0 (length (kids x))) [
          | yes y ↦ (let e : count x X ≡ 1 = omega (arith, few n x (omega arith) y, reach_met x l h) in rw e (omega arith))
          | no y ↦ (let e : length (kids x) ≡ 0 = omega arith in rw e (omega arith))
        ]))
        (λ h. rw h (elim (dec_lt 0 (count x X)) [
          | yes y ↦ clash (reach x) (met_reach x y) h
          | no y ↦ (let e : count x X ≡ 0 = omega arith in rw e (omega arith))
        ]))

    pub packed_count : (stmt : ℕ → ℕ) → length (packed (shared kids n) stmt (node q (sub kids q) nil) []) ≡ 1 + sum_below (λ x. pick (reach x) (length (kids x)) 0) n
    packed_count stmt =
        packed_length pol _ kids low stmt t good []
        ∙ ap (λ (m : ℕ). 1 + m) (sum_X (λ e. length (kids e)) ∙ sum_eq _ (λ x. pick (reach x) (length (kids x)) 0) n once_each)
