-- A step put into a list of words: the words of its parent hypothesis, and what stands in the list afterwards.
-- Assumes nothing.
use mathlib.Core.Path.{◌≡◌, refl, ap, ◌∙◌}
use mathlib.Core.Bool.{Bool, true, false}
use mathlib.Core.List.{List, [], ◌∷◌, ◌++◌, append_assoc}
use Prim.Native.Nat.{ℕ, suc, ◌+◌, ◌≤◌, ◌<◌}
use native.Mathlib.Omega.{arith}
use lib.ListN.{length, take, drop, get_or, set, length-append, get_or-append}
use lib.Seq.{sets-eq, length-take-le, get_or-take, take-add, take_at, drop_at}
use Rattle.laws.specs.Tools.{part}
use Rattle.laws.specs.Lists.{part_length}
use Rattle.defs.specs.Steps.{Step, step_size, step_words, parent_word, index_word}
use Rattle.walk.specs.Hyps.{parent_of, index_of}
use Rattle.walk.specs.Steps.{step, with_step}
use Rattle.walk.specs.declared.hyps.ParentHyp.{ParentHyp}
use Rattle.walk.specs.declared.hyps.ParentHyp.TheVariants.{Root, Of}
use Rattle.table.specs.declared.numbers.StatementNo.{StatementNo}

-- ---- the parent hypothesis

pub at_root : (h : ParentHyp) → h ≡ Root → (0 ≡ parent_of h) × (0 ≡ index_of h)
unfolding parent_of index_of
at_root h e = rw e (refl, refl)

pub of_parent : (h : ParentHyp) (s : StatementNo) (i : ℕ) → h ≡ Of s i → (s.0 + 1 ≡ parent_of h) × (i ≡ index_of h)
unfolding parent_of index_of
of_parent h s i e = rw e (refl, refl)

-- a parent word is at most one more than the statement
pub parent_most : (explicit : Bool) (k : ℕ) → parent_word explicit k ≤ k + 1
parent_most true k = omega arith
parent_most false k = omega arith

-- the index word of the next child
pub index_next : (explicit : Bool) (k : ℕ) → index_word explicit k + index_word explicit 1 ≡ index_word explicit (k + 1)
index_next true k = refl
index_next false k = refl

-- an index word is at most the place
pub index_most : (explicit : Bool) (k : ℕ) → index_word explicit k ≤ k
index_most true k = omega arith
index_most false k = omega arith

-- ---- the five stores

pub five_stores : (l : List ℕ) (i a b c d e : ℕ) → i + step_size ≤ length l
    → set (set (set (set (set l i a) (i + 1) b) (i + 2) c) (i + 3) d) (i + 4) e ≡ with_step l i (step a b c d e)
unfolding with_step step_words
five_stores l i a b c d e h =
    let e1 : i + 1 ≡ suc i = omega arith in
    let e2 : i + 2 ≡ suc (suc i) = omega arith in
    let e3 : i + 3 ≡ suc (suc (suc i)) = omega arith in
    let e4 : i + 4 ≡ suc (suc (suc (suc i))) = omega arith in
    rw (e1, e2, e3, e4) (sets-eq (a ∷ b ∷ c ∷ d ∷ e ∷ []) l i h)

-- ---- what stands in the list afterwards

module _ (w : List ℕ) (at : ℕ) (t : Step) (room : at + step_size ≤ length w) where
  front_length : length (take at w ++ step_words t) ≡ at + step_size
  unfolding step_words
  front_length = length-append (take at w) (step_words t) ∙ ap (λ (n : ℕ). n + step_size) (length-take-le at w (omega arith))

  -- the words before the step are as they were
  pub before_step : (j : ℕ) → j < at → get_or (with_step w at t) j 0 ≡ get_or w j 0
  unfolding with_step
  before_step j l =
      get_or-append (take at w ++ step_words t) (drop (at + step_size) w) 0 j (omega (arith, front_length))
      ∙ get_or-append (take at w) (step_words t) 0 j (omega (arith, length-take-le at w (omega arith)))
      ∙ get_or-take at w j 0 l

-- a list of steps that starts at n is one step longer
pub step_more : (w : List ℕ) (n k : ℕ) (t : Step) → n + k + step_size ≤ length w → part n (k + step_size) (with_step w (n + k) t) ≡ part n k w ++ step_words t
unfolding with_step step_words
step_more w n k t room =
    let old : List ℕ = part n k w in
    let rest : List ℕ = drop (n + k + step_size) w in
    let long : length (old ++ step_words t) ≡ k + step_size = length-append old (step_words t) ∙ ap (λ (m : ℕ). m + step_size) (part_length n k w (omega arith)) in
    ap (part n (k + step_size))
    (ap (λ (l : List ℕ). l ++ step_words t ++ rest) (take-add n k w)
    ∙ ap (λ (l : List ℕ). l ++ rest) (append_assoc (take n w) old (step_words t))
    ∙ append_assoc (take n w) (old ++ step_words t) rest)
    ∙ ap (take (k + step_size)) (drop_at (take n w) (old ++ step_words t ++ rest) n (length-take-le n w (omega arith)))
    ∙ take_at (old ++ step_words t) rest (k + step_size) long
