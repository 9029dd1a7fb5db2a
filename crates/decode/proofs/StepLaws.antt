-- Laws of the words of steps: five stores are a step's words, and what a slice that holds the words of steps holds after one step
-- more, or after a mark on the last one.
use mathlib.Core.Path.{◌≡◌, refl, sym, ap, ◌∙◌}
use mathlib.Core.List.{List, [], ◌∷◌, ◌++◌, append-nil}
use Prim.Native.Nat.{ℕ, zero, suc, ◌+◌, ◌*◌, ◌-◌, ◌≤◌}
use native.Mathlib.Omega.{arith}
use lib.ListN.{length, set, take, drop, length-append}
use lib.Seq.{sets-eq, take_at, drop-append-add, drop-drop, set-append_left}
use Rattle.laws.specs.Tools.{over}
use Rattle.defs.specs.Steps.{Step, step_size, step_words, flat}
use Rattle.defs.specs.Laws.{flat_append, flat_length}
use Rattle.defs.specs.Decode.{step_named, mark_last}
use Rattle.defs.proofs.LetterLaws.{named_ref}

-- ---- the step that a number past both lists names

pub named_mark : (thm list : List ℕ) (v ref : ℕ) → length thm ≤ v → length list ≤ v - length thm → ref ≡ v - length thm - length list + 1
    → ◌≡◌ {A = Step} (record { ref = ref; mark = 0; stmt = 0; parent = 0; index = 0 }) (step_named thm list v)
named_mark thm list v ref h k e =
    let f : ref ≡ v - (length thm + length list) + 1 = omega arith in
    rw f (sym (named_ref thm list v (omega arith)))

-- ---- stores

pub five_stores : (t : Step) (l : List ℕ) (i a b c d e : ℕ) → t ≡ record { ref = a; mark = b; stmt = c; parent = d; index = e } → i + step_size ≤ length l
    → set (set (set (set (set l i a) (i + 1) b) (i + 2) c) (i + 3) d) (i + 4) e ≡ (take i l ++ step_words t) ++ drop (i + step_size) l
unfolding step_words
five_stores t l i a b c d e f h =
    let e1 : i + 1 ≡ suc i = omega arith in
    let e2 : i + 2 ≡ suc (suc i) = omega arith in
    let e3 : i + 3 ≡ suc (suc (suc i)) = omega arith in
    let e4 : i + 4 ≡ suc (suc (suc (suc i))) = omega arith in
    rw (f, e1, e2, e3, e4) (sets-eq (a ∷ b ∷ c ∷ d ∷ e ∷ []) l i h)

-- ---- a slice that held `before`, with the words of steps at its front

words_length : (t : Step) → length (step_words t) ≡ step_size
unfolding step_words
words_length t = refl

-- one step more
pub one_more : (ts : List Step) (t : Step) (before after : List ℕ) (n : ℕ) → n ≡ length ts → after ≡ over (flat ts) before
    → (take (step_size * n) after ++ step_words t) ++ drop (step_size * n + step_size) after ≡ over (flat (ts ++ t ∷ [])) before
unfolding flat
one_more ts t before after n e h =
    let l : length (flat ts) ≡ step_size * n = flat_length ts ∙ ap (λ (k : ℕ). step_size * k) (sym e) in
    let a : take (step_size * n) after ≡ flat ts = ap (take (step_size * n)) h ∙ take_at (flat ts) (drop (length (flat ts)) before) (step_size * n) l in
    let b : drop (step_size * n + step_size) after ≡ drop (length (flat ts) + step_size) before =
    ap (drop (step_size * n + step_size)) h
    ∙ ap (λ (m : ℕ). drop (m + step_size) (over (flat ts) before)) (sym l)
    ∙ drop-append-add (flat ts) (drop (length (flat ts)) before) step_size
    ∙ drop-drop step_size (length (flat ts)) before in
    let w : flat (ts ++ t ∷ []) ≡ flat ts ++ step_words t = flat_append ts (t ∷ []) ∙ ap (λ (x : List ℕ). flat ts ++ x) (append-nil (step_words t)) in
    let k : length (flat ts ++ step_words t) ≡ length (flat ts) + step_size = length-append (flat ts) (step_words t) ∙ ap (λ (m : ℕ). length (flat ts) + m) (words_length t) in
    rw (a, b, w, k)

-- a mark on the last step
pub mark_length : (m : ℕ) (ts : List Step) → length (mark_last m ts) ≡ length ts
unfolding mark_last
mark_length m [] = refl
mark_length m (t ∷ []) = refl
mark_length m (t ∷ u ∷ ts) = ap suc (mark_length m (u ∷ ts))

mark_flat : (m n : ℕ) (ts : List Step) → length ts ≡ suc n → set (flat ts) (step_size * n + 1) m ≡ flat (mark_last m ts)
unfolding flat step_words mark_last
mark_flat m n [] e = absurd (omega arith)
mark_flat m n (t ∷ []) e = let z : n ≡ 0 = omega arith in rw z
mark_flat m zero (t ∷ u ∷ ts) e = absurd (omega arith)
mark_flat m (suc n) (t ∷ u ∷ ts) e =
    let i : step_size * suc n + 1 ≡ suc (suc (suc (suc (suc (step_size * n + 1))))) = omega arith in
    rw i (ap (λ (x : List ℕ). t.ref ∷ t.mark ∷ t.stmt ∷ t.parent ∷ t.index ∷ x) (mark_flat m n (u ∷ ts) (omega arith)))

pub last_marked : (m n : ℕ) (ts : List Step) (before after : List ℕ) → length ts ≡ suc n → after ≡ over (flat ts) before
    → set after (step_size * n + 1) m ≡ over (flat (mark_last m ts)) before
last_marked m n ts before after e h =
    let same : length (flat (mark_last m ts)) ≡ length (flat ts) = flat_length (mark_last m ts) ∙ ap (λ (k : ℕ). step_size * k) (mark_length m ts) ∙ sym (flat_length ts) in
    ap (λ (x : List ℕ). set x (step_size * n + 1) m) h
    ∙ set-append_left (flat ts) (drop (length (flat ts)) before) (step_size * n + 1) m (omega (arith, flat_length ts))
    ∙ rw (mark_flat m n ts e, same)
