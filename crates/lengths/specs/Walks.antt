-- The two walks of module Steps, not explicit, as recursions on the unfolded forest. The normal walk is the packed walk that marks nothing.
use Rattle.std.specs.Prelude.{◌≡◌, ◌≢◌, Bool, length, set, replicate, eqb}
use Rattle.std.proofs.Math.Path.{refl, sym, ap, ap₂}
use Rattle.std.proofs.Common.{◌∙◌, arith, eqb→eq}
use Prim.Native.Nat.{ℕ, zero, suc, ◌≤◌, ◌<◌}
use Rattle.std.proofs.Math.Decide.{ℕ_discrete}
use Rattle.std.proofs.Math.Bool.{true, false}
use mathlib.Core.List.{List, [], ◌∷◌, ◌++◌, append_assoc, append-nil}
use Rattle.std.proofs.Math.ListN.{get_or, length-append, length-set}
use Rattle.std.proofs.lemmas.List.{length-replicate}
use Rattle.std.proofs.Math.Seq.{get_or-set_same, get_or-set_other}
use Rattle.laws.specs.Tools.{pick}
use Rattle.defs.specs.Graph.{Graph}
use Rattle.defs.specs.Steps.{Step, Walk, mark_of, refer, gets_mark, finish, each_child, visit, list_children, normal_within}
use Rattle.laws.specs.Lists.{boole, T_of, get_D_constant, eqb_yes, eqb_no, All, find, found, find_more, found_end, find_end, found_other}
use Rattle.lengths.specs.Forests.{Forest, nil, node, trees, sub, sub_eq, Under, under_sub}

abbrev pub norm_step : ℕ → ℕ → Step
norm_step m s = record { ref = 0; mark = m; stmt = s; parent = 0; index = 0 }

abbrev pub back_step : ℕ → Step
back_step r = record { ref = r; mark = 0; stmt = 0; parent = 0; index = 0 }

-- the entries marked so far, in the order of their marks; which entries are to be marked is a test
abbrev pub marked : ℕ → List ℕ → Bool
marked e mk = found (eqb e) mk

abbrev pub mark : (ℕ → Bool) → ℕ → List ℕ → List ℕ
mark pol e mk = pick (pol e) (mk ++ (e ∷ [])) mk

abbrev pub mark_no : (ℕ → Bool) → ℕ → List ℕ → ℕ
mark_no pol e mk = pick (pol e) (suc (length mk)) 0

unfoldable pub marks : (ℕ → Bool) → Forest → List ℕ → List ℕ
marks pol nil mk = mk
marks pol (node e c b) mk = marks pol b (pick (marked e mk) mk (mark pol e (marks pol c mk)))

unfoldable pub packed : (ℕ → Bool) → (ℕ → ℕ) → Forest → List ℕ → List Step
unfolding marks
packed pol stmt nil mk = []
packed pol stmt (node e c b) mk =
    pick (marked e mk)
    (back_step (suc (find (eqb e) mk)) ∷ packed pol stmt b mk)
    (packed pol stmt c mk ++ norm_step (mark_no pol e (marks pol c mk)) (stmt e) ∷ packed pol stmt b (mark pol e (marks pol c mk)))

-- ---- their equations

module _ (pol : ℕ → Bool) (stmt : ℕ → ℕ) (e : ℕ) (c b : Forest) (mk : List ℕ) where
  pub packed_back : marked e mk ≡ true → packed pol stmt (node e c b) mk ≡ back_step (suc (find (eqb e) mk)) ∷ packed pol stmt b mk
  unfolding packed
  packed_back h = rw h

  pub marks_back : marked e mk ≡ true → marks pol (node e c b) mk ≡ marks pol b mk
  unfolding marks
  marks_back h = rw h

  pub packed_open : marked e mk ≡ false → packed pol stmt (node e c b) mk
      ≡ packed pol stmt c mk ++ norm_step (mark_no pol e (marks pol c mk)) (stmt e) ∷ packed pol stmt b (mark pol e (marks pol c mk))
  unfolding packed
  packed_open h = rw h

  pub marks_open : marked e mk ≡ false → marks pol (node e c b) mk ≡ marks pol b (mark pol e (marks pol c mk))
  unfolding marks
  marks_open h = rw h

-- a tree, then the trees beside it
packed_cons : (pol : ℕ → Bool) (stmt : ℕ → ℕ) (e : ℕ) (c b : Forest) (mk : List ℕ)
    → packed pol stmt (node e c b) mk ≡ packed pol stmt (node e c nil) mk ++ packed pol stmt b (marks pol (node e c nil) mk)
unfolding packed marks
packed_cons pol stmt e c b mk = boole (marked e mk) (λ h. rw h) (λ h. rw h (sym (append_assoc (packed pol stmt c mk) _ _)))

pub mark_other : (pol : ℕ → Bool) (x e : ℕ) → x ≢ e → (mk : List ℕ) → marked x (mark pol e mk) ≡ marked x mk
mark_other pol x e d mk = boole (pol e) (λ y. rw y (found_other (eqb x) mk e (eqb_no x e d))) (λ y. rw y)

-- an entry above all labels is not marked
pub marks_under : (pol : ℕ → Bool) (x m : ℕ) → m ≤ x → (t : Forest) → Under m t → (mk : List ℕ) → marked x (marks pol t mk) ≡ marked x mk
unfolding marks
marks_under pol x m l nil u mk = refl
marks_under pol x m l (node e c b) u mk =
    let d : x ≢ e = omega (arith, u.0) in
    marks_under pol x m l b u.2 _
    ∙ boole (marked e mk) (λ h. rw h) (λ h. rw h (mark_other pol x e d (marks pol c mk) ∙ marks_under pol x m l c u.1 mk))

-- ---- marking nothing

abbrev pub never : ℕ → Bool
never e = false

marks_never : (t : Forest) → marks never t [] ≡ []
unfolding marks
marks_never nil = refl
marks_never (node e c b) = rw (marks_never c) (marks_never b)

normal_node : (stmt : ℕ → ℕ) (e : ℕ) (c b : Forest) → packed never stmt (node e c b) [] ≡ packed never stmt c [] ++ norm_step 0 (stmt e) ∷ packed never stmt b []
unfolding packed
normal_node stmt e c b = rw (marks_never c)

-- ---- marks as an array: the number of an entry's mark, or 0

unfoldable pub number : List ℕ → ℕ → ℕ
number mk x = pick (marked x mk) (suc (find (eqb x) mk)) 0

pub number_yes : (mk : List ℕ) (x : ℕ) → marked x mk ≡ true → number mk x ≡ suc (find (eqb x) mk)
unfolding number
number_yes mk x h = rw h

pub number_no : (mk : List ℕ) (x : ℕ) → marked x mk ≡ false → number mk x ≡ 0
unfolding number
number_no mk x h = rw h

-- to mark e is to store the next number at e
mark_set : (mk : List ℕ) (e x : ℕ) → marked e mk ≡ false → number (mk ++ (e ∷ [])) x ≡ pick (eqb x e) (suc (length mk)) (number mk x)
unfolding number
mark_set mk e x h =
    boole (eqb x e)
    (λ y. rw (y, found_end (eqb x) mk e y) (ap suc (find_end (eqb x) mk e y (ap (λ (z : ℕ). marked z mk) (eqb→eq x e (T_of y)) ∙ h))))
    (λ y. rw (y, found_other (eqb x) mk e y)
    (boole (marked x mk) (λ z. rw z (ap suc (find_more (eqb x) mk (e ∷ []) z))) (λ z. rw z)))

-- a walk of n entries stands where these marks are given
record Stands (n : ℕ) (mk : List ℕ) (s : Walk) : Type 0 where
  places : length s.marks ≡ n
  given_is : s.given ≡ length mk
  numbers : (x : ℕ) → x < n → mark_of s x ≡ number mk x

-- ---- the packed walk

-- a graph whose first n entries have children below them; `kids` is the same for those, and [] past them
module _ (g : Graph) (n : ℕ) (kids : ℕ → List ℕ) (agree : (e : ℕ) → e < n → g.kids e ≡ kids e) (low : (e : ℕ) → All (λ k. k < e) (kids e)) where
  module _ (ps : List ℕ) (pol : ℕ → Bool) (pol_is : (e : ℕ) → e < n → gets_mark g ps e ≡ pol e) where
    -- a visit of the forest t from s, where mk is marked, does what `marks` and `packed` say
    abbrev Does : Forest → List ℕ → Walk → Walk → Type 0
    Does t mk s s' = Stands n (marks pol t mk) s' × (s'.out ≡ s.out ++ packed pol g.stmt t mk)

    abbrev tree : ℕ → Forest
    tree e = node e (sub kids e) nil

    does_refer : (e : ℕ) (mk : List ℕ) (s : Walk) → e < n → Stands n mk s → marked e mk ≡ true → Does (tree e) mk s (refer e 0 0 s)
    unfolding refer marks packed
    does_refer e mk s l st h =
        rw (marks_back pol g.stmt e (sub kids e) nil mk h, packed_back pol g.stmt e (sub kids e) nil mk h) (
          record { places = st.places; given_is = st.given_is; numbers = st.numbers },
          ap (λ (r : ℕ). s.out ++ (back_step r ∷ [])) (st.numbers e l ∙ number_yes mk e h),
        )

    -- what `finish` does to the marks
    stands_finish : (e : ℕ) (mk : List ℕ) (s : Walk) → e < n → Stands n mk s → marked e mk ≡ false → Stands n (mark pol e mk) (finish g ps e 0 0 s)
    unfolding finish
    stands_finish e mk s l st h =
        boole (pol e)
        (λ y.
        let p : gets_mark g ps e ≡ true = pol_is e l ∙ y in
        rw (y, p) (record {
          places = length-set s.marks e _ ∙ st.places;
          given_is = omega (arith, st.given_is, length-append mk (e ∷ []));
          numbers = λ x m. elim (ℕ_discrete x e) [
            | yes i ↦ ap (λ (z : ℕ). get_or (set s.marks e (suc s.given)) z 0) i ∙ get_or-set_same s.marks e (suc s.given) 0 (rw st.places l) ∙ ap suc st.given_is ∙ sym (mark_set mk e x h ∙ rw (eqb_yes x e i))
            | no i ↦ get_or-set_other s.marks e x (suc s.given) 0 i ∙ st.numbers x m ∙ sym (mark_set mk e x h ∙ rw (eqb_no x e i))
          ];
        }))
        (λ y.
        let p : gets_mark g ps e ≡ false = pol_is e l ∙ y in
        rw (y, p) (record { places = st.places; given_is = st.given_is; numbers = st.numbers }))

    does_finish : (e : ℕ) (mk : List ℕ) (s s₁ : Walk) → e < n → marked e mk ≡ false → Does (sub kids e) mk s s₁ → Does (tree e) mk s (finish g ps e 0 0 s₁)
    unfolding finish marks packed
    does_finish e mk s s₁ l h d =
        let c = sub kids e in
        let mk1 = marks pol c mk in
        let m : pick (gets_mark g ps e) (suc s₁.given) 0 ≡ mark_no pol e mk1 =
        ap₂ (λ (b : Bool) (k : ℕ). pick b (suc k) 0) (pol_is e l) d.0.given_is in
        rw (marks_open pol g.stmt e c nil mk h, packed_open pol g.stmt e c nil mk h) (
          stands_finish e mk1 s₁ l d.0 (marks_under pol e e (omega arith) c (under_sub kids low e) mk ∙ h),
          ap₂ (λ (o : List Step) (k : ℕ). o ++ (norm_step k (g.stmt e) ∷ [])) d.1 m ∙ append_assoc s.out (packed pol g.stmt c mk) _,
        )

    does_each : (f : ℕ → ℕ → Walk → Walk) (P : ℕ → Type 0) → ((c j : ℕ) → P c → (mk : List ℕ) (s : Walk) → Stands n mk s → Does (tree c) mk s (f c j s))
        → (es : List ℕ) → All P es → (j : ℕ) (mk : List ℕ) (s : Walk) → Stands n mk s → Does (trees (sub kids) es) mk s (each_child f j es s)
    unfolding each_child marks packed
    does_each f P ih [] a j mk s st = (st, sym (append-nil s.out))
    does_each f P ih (e ∷ es) a j mk s st =
        let d = ih e j a.0 mk s st in
        let r = does_each f P ih es a.1 (suc j) (marks pol (tree e) mk) (f e j s) d.0 in (
          r.0,
          r.1
              ∙ ap (λ (o : List Step). o ++ packed pol g.stmt (trees (sub kids) es) (marks pol (tree e) mk)) d.1
              ∙ append_assoc s.out (packed pol g.stmt (tree e) mk) _
              ∙ ap (λ (o : List Step). s.out ++ o) (sym (packed_cons pol g.stmt e (sub kids e) (trees (sub kids) es) mk)),
        )

    does_visit : (d e : ℕ) → e < d → e < n → (mk : List ℕ) (s : Walk) → Stands n mk s → Does (tree e) mk s (visit g ps false d e 0 0 s)
    unfolding visit
    does_visit zero e l m mk s st = absurd (omega arith)
    does_visit (suc d) e l m mk s st =
        let f : ℕ → ℕ → Walk → Walk = λ c j. visit g ps false d c 0 0 in
        let below = does_each f (λ c. c < e) (λ c j lc. does_visit d c (omega arith) (omega arith)) (kids e) (low e) 0 mk s st in
        boole (marked e mk)
        (λ h. rw (eqb_no (mark_of s e) 0 (omega (arith, st.numbers e m, number_yes mk e h))) (does_refer e mk s m st h))
        (λ h. rw (eqb_yes (mark_of s e) 0 (st.numbers e m ∙ number_no mk e h))
        (does_finish e mk s (each_child f 0 (g.kids e) s) m h (rw (agree e m, sub_eq kids low e) below)))

    pub visit_packed : (q : ℕ) → q < n
        → (visit g ps false (suc q) q 0 0 (record { marks = replicate n 0; given = 0; out = [] })).out ≡ packed pol g.stmt (tree q) []
    visit_packed q l =
        (does_visit (suc q) q (omega arith) l [] (record { marks = replicate n 0; given = 0; out = [] })
        (record { places = length-replicate n 0; given_is = refl; numbers = λ x m. get_D_constant n x 0 ∙ sym (number_no [] x refl) })
        ).1

  -- ---- the normal walk

  list_packed : (f : ℕ → ℕ → List Step) (P : ℕ → Type 0) → ((c j : ℕ) → P c → f c j ≡ packed never g.stmt (node c (sub kids c) nil) [])
      → (es : List ℕ) → All P es → (j : ℕ) → list_children f j es ≡ packed never g.stmt (trees (sub kids) es) []
  unfolding list_children packed
  list_packed f P ih [] a j = refl
  list_packed f P ih (e ∷ es) a j =
      ap₂ (λ (x y : List Step). x ++ y) (ih e j a.0 ∙ normal_node g.stmt e (sub kids e) nil) (list_packed f P ih es a.1 (suc j))
      ∙ append_assoc (packed never g.stmt (sub kids e) []) _ _
      ∙ sym (normal_node g.stmt e (sub kids e) (trees (sub kids) es))

  pub normal_packed : (d e : ℕ) → e < d → e < n → normal_within g false d e 0 0 ≡ packed never g.stmt (node e (sub kids e) nil) []
  unfolding normal_within packed
  normal_packed zero e l m = absurd (omega arith)
  normal_packed (suc d) e l m =
      ap (λ (o : List Step). o ++ (norm_step 0 (g.stmt e) ∷ []))
      (ap (list_children (λ c j. normal_within g false d c 0 0) 0) (agree e m)
      ∙ list_packed (λ c j. normal_within g false d c 0 0) (λ c. c < e) (λ c j lc. normal_packed d c (omega arith) (omega arith)) (kids e) (low e) 0
      ∙ ap (λ (t : Forest). packed never g.stmt t []) (sym (sub_eq kids low e)))
      ∙ sym (normal_node g.stmt e (sub kids e) nil)
