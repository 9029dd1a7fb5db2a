-- Decoding undoes coding: the letters of a number, read from the start of a code, finish a code with that number.
use Rattle.std.specs.Prelude.{◌≡◌, refl, Bool, true, ◌&&◌, get_or, ltb, eqb}
use Rattle.std.proofs.Common.{sym, ◌∙◌, le_refl, arith, le→leb, lt→ltb}
use Rattle.std.proofs.Math.Path.{ap}
use Prim.Native.Nat.{ℕ, zero, suc, ◌+◌, ◌-◌, ◌*◌, ◌/◌, ◌%◌, ◌≤◌, ◌<◌}
use Rattle.std.proofs.Math.Bool.{false}
use Rattle.std.proofs.Math.Option.{Option, none, some}
use mathlib.Core.List.{List, [], ◌∷◌, ◌++◌, append_assoc, append-nil}
use Rattle.std.proofs.Math.ListN.{length}
use Rattle.std.proofs.Math.Dec.{T, leb, leb→le, eqb→eq}
use Rattle.std.proofs.Math.Logic.{inl, inr}
use Rattle.laws.specs.Tools.{pick, member, place}
use Rattle.std.proofs.Math.Facts.{yes_eqb, and_yes, yes_and}
use Rattle.defs.specs.Table.{max_word}
use Rattle.defs.specs.Steps.{Step, is_normal}
use Rattle.defs.specs.Letters.{leading, code, step_number, step_letters, letters_of}
use Rattle.defs.specs.Decode.{Reading, step_named, finish_code, lead_code, mark_step, one_letter, or_refuse, all_letters, mark_last}
use Rattle.laws.specs.Lists.{boole, T_of, of_T, clash, place_lt, place_at}
use Rattle.defs.specs.LetterLaws.{Readable, marks_after, unmarked}

pub pick_yes {ℓ} : {X : Type ℓ} (b : Bool) (x y : X) → T b → pick b x y ≡ x
pick_yes true x y t = refl
pick_yes false x y t = absurd t

pub pick_no {ℓ} : {X : Type ℓ} (b : Bool) (x y : X) → (T b → ⊥) → pick b x y ≡ y
pick_no true x y t = absurd (t tt)
pick_no false x y t = refl

value : (q : ℕ) → q / 5 * 5 + (85 + q % 5 - 84) ≡ suc q
value q = omega arith

number : (v : ℕ) → v / 20 * 20 + (65 + v % 20 - 65) ≡ v
number v = omega arith

leading_append : (turns q : ℕ) (xs ys : List ℕ) → leading turns q xs ++ ys ≡ leading turns q (xs ++ ys)
unfolding leading
leading_append zero q xs ys = refl
leading_append (suc turns) zero xs ys = refl
leading_append (suc turns) (suc q) xs ys = leading_append turns (q / 5) ((85 + q % 5) ∷ xs) ys

module _ (thm labels : List ℕ) where
  -- a finishing letter, and a leading one
  finish_letter : (d : Reading) (x : ℕ) → 65 ≤ x → x ≤ 84 → one_letter thm labels d x ≡ finish_code thm labels d x
  unfolding one_letter
  finish_letter d x a b = pick_yes (leb 65 x && leb x 84) _ _ (yes_and (leb 65 x) (leb x 84) (le→leb 65 x a) (le→leb x 84 b))

  lead_letter : (d : Reading) (x : ℕ) → 85 ≤ x → x ≤ 89 → one_letter thm labels d x ≡ lead_code d x
  unfolding one_letter
  lead_letter d x a b =
      pick_no (leb 65 x && leb x 84) _ _ (λ t. let h = leb→le x 84 (and_yes (leb 65 x) (leb x 84) t).1 in omega arith)
      ∙ pick_yes (leb 85 x && leb x 89) _ _ (yes_and (leb 85 x) (leb x 89) (le→leb 85 x a) (le→leb x 89 b))

  -- the leading letters of q, read from the start of a code, leave q pending
  lead_read : (turns q : ℕ) → q ≤ turns → (rest : List ℕ) (f : Bool) (given : ℕ) (out : List Step)
      → (f' : Bool) × (all_letters thm labels (leading turns q rest) (record { pending = 0; finished = f; given = given; out = out })
      ≡ all_letters thm labels rest (record { pending = q; finished = f'; given = given; out = out }))
  unfolding leading all_letters lead_code or_refuse
  lead_read zero zero h rest f given out = (f, refl)
  lead_read zero (suc q) h rest f given out = absurd (omega arith)
  lead_read (suc turns) zero h rest f given out = (f, refl)
  lead_read (suc turns) (suc q) h rest f given out =
      let ih = lead_read turns (q / 5) (omega arith) ((85 + q % 5) ∷ rest) f given out in (
        false,
        ih.1
            ∙ ap (λ (o : Option Reading). or_refuse o (λ next. all_letters thm labels rest next)) (lead_letter (record { pending = q / 5; finished = ih.0; given = given; out = out }) (85 + q % 5) (omega arith) (omega arith))
            ∙ ap (λ (p : ℕ). all_letters thm labels rest (record { pending = p; finished = false; given = given; out = out })) (value q),
      )

  -- what a finished code with number v does: refused where v names nothing yet, else its step
  unfoldable pub named : ℕ → ℕ → List Step → Option Reading
  named v given out =
      pick (ltb v (length thm + length labels + given) && leb v max_word) (some (record { pending = 0; finished = true; given = given; out = out ++ step_named thm labels v ∷ [] })) none

  pub read_code : (v : ℕ) (rest : List ℕ) (f : Bool) (given : ℕ) (out : List Step)
      → all_letters thm labels (code v ++ rest) (record { pending = 0; finished = f; given = given; out = out })
      ≡ or_refuse (named v given out) (λ next. all_letters thm labels rest next)
  unfolding code all_letters finish_code named
  read_code v rest f given out =
      let ih = lead_read (v / 20) (v / 20) (le_refl (v / 20)) ((65 + v % 20) ∷ rest) f given out in
      ap (λ (l : List ℕ). all_letters thm labels l (record { pending = 0; finished = f; given = given; out = out })) (leading_append (v / 20) (v / 20) ((65 + v % 20) ∷ []) rest)
      ∙ ih.1
      ∙ ap (λ (o : Option Reading). or_refuse o (λ next. all_letters thm labels rest next)) (finish_letter (record { pending = v / 20; finished = ih.0; given = given; out = out }) (65 + v % 20) (omega arith) (omega arith))
      ∙ ap (λ (u : ℕ). or_refuse (named u given out) (λ next. all_letters thm labels rest next)) (number v)

ltb_no : (m n : ℕ) → n ≤ m → T (ltb m n) → ⊥
ltb_no m n h t = let k = leb→le (suc m) n t in absurd (omega arith)

-- what a number below the theorem's list, below both lists, and past both names
pub named_thm : (thm labels : List ℕ) (v : ℕ) → v < length thm → step_named thm labels v ≡ record { ref = 0; mark = 0; stmt = get_or thm v 0; parent = 0; index = 0 }
unfolding step_named
named_thm thm labels v h i =
    record {
      ref = pick_yes (ltb v (length thm + length labels)) 0 (v - (length thm + length labels) + 1) (lt→ltb v (length thm + length labels) (omega arith)) i;
      mark = 0;
      stmt = pick_yes (ltb v (length thm)) (get_or thm v 0) (pick (ltb v (length thm + length labels)) (get_or labels (v - length thm) 0) 0) (lt→ltb v (length thm) h) i;
      parent = 0;
      index = 0;
    }

pub named_label : (thm labels : List ℕ) (v : ℕ) → length thm ≤ v → v < length thm + length labels
    → step_named thm labels v ≡ record { ref = 0; mark = 0; stmt = get_or labels (v - length thm) 0; parent = 0; index = 0 }
unfolding step_named
named_label thm labels v h k i =
    record {
      ref = pick_yes (ltb v (length thm + length labels)) 0 (v - (length thm + length labels) + 1) (lt→ltb v (length thm + length labels) k) i;
      mark = 0;
      stmt =
          (pick_no (ltb v (length thm)) (get_or thm v 0) (pick (ltb v (length thm + length labels)) (get_or labels (v - length thm) 0) 0) (ltb_no v (length thm) h)
          ∙ pick_yes (ltb v (length thm + length labels)) (get_or labels (v - length thm) 0) 0 (lt→ltb v (length thm + length labels) k))
          i;
      parent = 0;
      index = 0;
    }

pub named_ref : (thm labels : List ℕ) (v : ℕ) → length thm + length labels ≤ v
    → step_named thm labels v ≡ record { ref = v - (length thm + length labels) + 1; mark = 0; stmt = 0; parent = 0; index = 0 }
unfolding step_named
named_ref thm labels v h i =
    record {
      ref = pick_no (ltb v (length thm + length labels)) 0 (v - (length thm + length labels) + 1) (ltb_no v (length thm + length labels) h) i;
      mark = 0;
      stmt =
          (pick_no (ltb v (length thm)) (get_or thm v 0) (pick (ltb v (length thm + length labels)) (get_or labels (v - length thm) 0) 0) (ltb_no v (length thm) (omega arith))
          ∙ pick_no (ltb v (length thm + length labels)) (get_or labels (v - length thm) 0) 0 (ltb_no v (length thm + length labels) h))
          i;
      parent = 0;
      index = 0;
    }

-- a step made of given words is the step without its mark
same_step : (t : Step) (r k : ℕ) → r ≡ t.ref → k ≡ t.stmt → t.parent ≡ 0 → t.index ≡ 0
    → ◌≡◌ {A = Step} (record { ref = r; mark = 0; stmt = k; parent = 0; index = 0 }) (unmarked t)
unfolding unmarked
same_step t r k er ek ep ei i = record { ref = er i; mark = 0; stmt = ek i; parent = sym ep i; index = sym ei i }

module _ (thm labels : List ℕ) where
  number_thm : (t : Step) → t.ref ≡ 0 → T (member t.stmt thm) → step_number thm labels t ≡ place t.stmt thm
  unfolding step_number
  number_thm t e m = pick_yes (is_normal t) _ _ (yes_eqb e) ∙ pick_yes (member t.stmt thm) _ _ m

  number_label : (t : Step) → t.ref ≡ 0 → (T (member t.stmt thm) → ⊥) → step_number thm labels t ≡ length thm + place t.stmt labels
  unfolding step_number
  number_label t e m = pick_yes (is_normal t) _ _ (yes_eqb e) ∙ pick_no (member t.stmt thm) _ _ m

  number_ref : (t : Step) → 1 ≤ t.ref → step_number thm labels t ≡ length thm + length labels + (t.ref - 1)
  unfolding step_number
  number_ref t h = pick_no (is_normal t) _ _ (λ x. let e = eqb→eq t.ref 0 x in omega arith)

  -- the number is small enough, and names the step
  step_back : (given : ℕ) (t : Step) → Readable thm labels given t
      → (step_number thm labels t < length thm + length labels + given) × (step_named thm labels (step_number thm labels t) ≡ unmarked t)
  step_back given t ok = elim ok.names [
    | inl p ↦
        boole (member t.stmt thm)
        (λ h.
        let m = T_of h in
        let e : step_number thm labels t ≡ place t.stmt thm = number_thm t p.0 m in
        let l : place t.stmt thm < length thm = place_lt t.stmt thm m in (
          omega arith,
          ap (step_named thm labels) e ∙ named_thm thm labels (place t.stmt thm) l
              ∙ same_step t 0 (get_or thm (place t.stmt thm) 0) (sym p.0) (place_at t.stmt thm m) ok.no_parent ok.no_index,
        ))
        (λ h.
        let m : T (member t.stmt thm) → ⊥ = λ x. clash (member t.stmt thm) (of_T (member t.stmt thm) x) h in
        let q : T (member t.stmt labels) = elim p.1 [ inl x ↦ absurd (m x) | inr x ↦ x ] in
        let e : step_number thm labels t ≡ length thm + place t.stmt labels = number_label t p.0 m in
        let l : place t.stmt labels < length labels = place_lt t.stmt labels q in
        let v : ℕ = length thm + place t.stmt labels in
        let back : v - length thm ≡ place t.stmt labels = omega arith in (
          omega arith,
          ap (step_named thm labels) e ∙ named_label thm labels v (omega arith) (omega arith)
              ∙ same_step t 0 (get_or labels (v - length thm) 0) (sym p.0) (ap (λ (j : ℕ). get_or labels j 0) back ∙ place_at t.stmt labels q) ok.no_parent ok.no_index,
        ))
    | inr p ↦
        let h : 1 ≤ t.ref = p.0 in
        let k : t.ref ≤ given = p.1 in
        let e : step_number thm labels t ≡ length thm + length labels + (t.ref - 1) = number_ref t h in
        let v : ℕ = length thm + length labels + (t.ref - 1) in (
          omega arith,
          ap (step_named thm labels) e ∙ named_ref thm labels v (omega arith)
              ∙ same_step t (v - (length thm + length labels) + 1) 0 (omega arith) (sym p.2) ok.no_parent ok.no_index,
        )
  ]

-- ---- whole lists

remarked : Step → ℕ → Step
remarked t m = record { ref = t.ref; mark = m; stmt = t.stmt; parent = t.parent; index = t.index }

mark_last_append : (m : ℕ) (out : List Step) (t : Step) → mark_last m (out ++ t ∷ []) ≡ out ++ remarked t m ∷ []
unfolding mark_last remarked
mark_last_append m [] t = refl
mark_last_append m (x ∷ []) t = refl
mark_last_append m (x ∷ y ∷ ys) t = ap (λ (r : List Step). x ∷ r) (mark_last_append m (y ∷ ys) t)

module _ (thm labels : List ℕ) where
  -- a list that letters can carry: each step is readable after the marks before it
  abbrev pub AllReadable : ℕ → List Step → Type 0
  AllReadable given [] = Unit {0}
  AllReadable given (t ∷ ts) = Readable thm labels given t × AllReadable (marks_after given t) ts

  -- after the code: no mark, or a `Z`
  plain : (t : Step) (rest : List ℕ) (given : ℕ) (out : List Step) → t.mark ≡ 0
      → all_letters thm labels (pick (eqb t.mark 0) [] (90 ∷ []) ++ rest) (record { pending = 0; finished = true; given = given; out = out ++ unmarked t ∷ [] })
      ≡ all_letters thm labels rest (record { pending = 0; finished = true; given = marks_after given t; out = out ++ t ∷ [] })
  unfolding marks_after unmarked remarked
  plain t rest given out e =
      ap (λ (l : List ℕ). all_letters thm labels (l ++ rest) (record { pending = 0; finished = true; given = given; out = out ++ unmarked t ∷ [] })) (pick_yes (eqb t.mark 0) [] (90 ∷ []) (yes_eqb e))
      ∙ ap (λ (m : ℕ). all_letters thm labels rest (record { pending = 0; finished = true; given = given; out = out ++ remarked t m ∷ [] })) (sym e)
      ∙ ap (λ (k : ℕ). all_letters thm labels rest (record { pending = 0; finished = true; given = k; out = out ++ t ∷ [] })) (sym (pick_yes (eqb t.mark 0) given (given + 1) (yes_eqb e)))

  with_mark : (t : Step) (rest : List ℕ) (given : ℕ) (out : List Step) → t.mark ≡ given + 1 → given < max_word
      → all_letters thm labels (pick (eqb t.mark 0) [] (90 ∷ []) ++ rest) (record { pending = 0; finished = true; given = given; out = out ++ unmarked t ∷ [] })
      ≡ all_letters thm labels rest (record { pending = 0; finished = false; given = marks_after given t; out = out ++ t ∷ [] })
  unfolding marks_after unmarked remarked all_letters one_letter mark_step or_refuse
  with_mark t rest given out e small =
      let off : T (eqb t.mark 0) → ⊥ = λ x. let z = eqb→eq t.mark 0 x in absurd (omega arith) in
      ap (λ (l : List ℕ). all_letters thm labels (l ++ rest) (record { pending = 0; finished = true; given = given; out = out ++ unmarked t ∷ [] })) (pick_no (eqb t.mark 0) [] (90 ∷ []) off)
      ∙ ap (λ (o : Option Reading). or_refuse o (λ next. all_letters thm labels rest next)) (pick_yes (ltb given max_word) _ none (lt→ltb given max_word small))
      ∙ ap (λ (o : List Step). all_letters thm labels rest (record { pending = 0; finished = false; given = given + 1; out = o })) (mark_last_append (given + 1) out (unmarked t))
      ∙ ap (λ (m : ℕ). all_letters thm labels rest (record { pending = 0; finished = false; given = given + 1; out = out ++ remarked t m ∷ [] })) (sym e)
      ∙ ap (λ (k : ℕ). all_letters thm labels rest (record { pending = 0; finished = false; given = k; out = out ++ t ∷ [] })) (sym (pick_no (eqb t.mark 0) given (given + 1) off))

  -- the letters of one step, read
  one_back : (t : Step) (rest : List ℕ) (f : Bool) (given : ℕ) (out : List Step) → Readable thm labels given t → length thm + length labels + given < max_word
      → (f' : Bool) × (all_letters thm labels (step_letters thm labels t ++ rest) (record { pending = 0; finished = f; given = given; out = out })
      ≡ all_letters thm labels rest (record { pending = 0; finished = f'; given = marks_after given t; out = out ++ t ∷ [] }))
  unfolding step_letters named or_refuse
  one_back t rest f given out ok small =
      let n : ℕ = step_number thm labels t in
      let z : List ℕ = pick (eqb t.mark 0) [] (90 ∷ []) in
      let sb = step_back thm labels given t ok in
      let start : all_letters thm labels (step_letters thm labels t ++ rest) (record { pending = 0; finished = f; given = given; out = out })
      ≡ all_letters thm labels (z ++ rest) (record { pending = 0; finished = true; given = given; out = out ++ unmarked t ∷ [] }) =
      ap (λ (l : List ℕ). all_letters thm labels l (record { pending = 0; finished = f; given = given; out = out })) (append_assoc (code n) z rest)
      ∙ read_code thm labels n (z ++ rest) f given out
      ∙ ap (λ (o : Option Reading). or_refuse o (λ next. all_letters thm labels (z ++ rest) next))
      (pick_yes (ltb n (length thm + length labels + given) && leb n max_word) _ none
      (yes_and (ltb n (length thm + length labels + given)) (leb n max_word) (lt→ltb n (length thm + length labels + given) sb.0) (le→leb n max_word (omega (arith, sb.0)))))
      ∙ ap (λ (s : Step). all_letters thm labels (z ++ rest) (record { pending = 0; finished = true; given = given; out = out ++ s ∷ [] })) sb.1 in
      elim ok.marked [
        | inl e ↦ (true, start ∙ plain t rest given out e)
        | inr e ↦ (false, start ∙ with_mark t rest given out e (omega arith))
      ]

  marks_most : (given : ℕ) (t : Step) → marks_after given t ≤ given + 1
  unfolding marks_after
  marks_most given t = boole (eqb t.mark 0) (λ h. rw h (omega arith)) (λ h. rw h (omega arith))

  -- the letters of such a list decode to that list, number for number, where every number fits its word
  pub letters_back : (ts : List Step) (f : Bool) (given : ℕ) (out : List Step) → AllReadable given ts → length thm + length labels + given + length ts ≤ max_word
      → all_letters thm labels (letters_of thm labels ts) (record { pending = 0; finished = f; given = given; out = out }) ≡ some (out ++ ts)
  unfolding letters_of all_letters
  letters_back [] f given out ok small = ap some (sym (append-nil out))
  letters_back (t ∷ ts) f given out ok small =
      let o = one_back t (letters_of thm labels ts) f given out ok.0 (omega arith) in
      o.1 ∙ letters_back ts o.0 (marks_after given t) (out ++ t ∷ []) ok.1 (omega (arith, marks_most given t)) ∙ ap some (append_assoc out (t ∷ []) ts)
