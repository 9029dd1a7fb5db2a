-- Laws of the count of references, as its loop runs it: one more makes the count of the entry that it names one more.
-- Assumes nothing.
use mathlib.Core.Path.{◌≡◌, sym, ap, ◌∙◌}
use mathlib.Core.List.{List, [], ◌∷◌, ◌++◌}
use Prim.Native.Nat.{ℕ, ◌+◌, ◌≤◌, ◌<◌}
use native.Mathlib.Numerals.{add-one}
use native.Mathlib.Omega.{arith}
use lib.ListN.{length, get_or, take, set, replicate, length-set, length-replicate, get_or-replicate}
use lib.Seq.{ext_get_or, take-suc, get_or-set_same, get_or-set_other, length-take-le}
use Rattle.laws.specs.Sums.{bit_cases, count_append, count_most}
use Rattle.counts.specs.Parents.{times_each, times_length, times_at}

pub times_none : (n : ℕ) → replicate n 0 ≡ times_each [] n
times_none n =
    ext_get_or 0 (replicate n 0) (times_each [] n) (length-replicate {A = ℕ} n 0 ∙ sym (times_length [] n))
    (λ e l. let h : e < n = rw (length-replicate {A = ℕ} n 0) at l in get_or-replicate n e 0 0 h ∙ sym (times_at [] n e h))

times_snoc : (cs : List ℕ) (n x : ℕ) → x < n → set (times_each cs n) x (get_or (times_each cs n) x 0 + 1) ≡ times_each (cs ++ x ∷ []) n
times_snoc cs n x h =
    let ts : List ℕ = times_each cs n in
    let long : length (set ts x (get_or ts x 0 + 1)) ≡ n = length-set ts x (get_or ts x 0 + 1) ∙ times_length cs n in
    ext_get_or 0 (set ts x (get_or ts x 0 + 1)) (times_each (cs ++ x ∷ []) n) (long ∙ sym (times_length (cs ++ x ∷ []) n))
    (λ e l. let m : e < n = rw long at l in
    bit_cases e x
    (λ i h1. ap (λ (j : ℕ). get_or (set ts x (get_or ts x 0 + 1)) j 0) i
    ∙ get_or-set_same ts x (get_or ts x 0 + 1) 0 (rw (times_length cs n) h)
    ∙ omega (arith, ap (λ (j : ℕ). get_or ts j 0) i, times_at cs n e m, times_at (cs ++ x ∷ []) n e m, count_append e cs (x ∷ [])))
    (λ i h0. get_or-set_other ts x e (get_or ts x 0 + 1) 0 i
    ∙ omega (arith, times_at cs n e m, times_at (cs ++ x ∷ []) n e m, count_append e cs (x ∷ []))))

pub times_more : (cs : List ℕ) (n i : ℕ) (ts : List ℕ) (x : ℕ) → i < length cs → ts ≡ times_each (take i cs) n → x ≡ get_or cs i 0 → x < n
    → set ts x (get_or ts x 0 + 1) ≡ times_each (take (i + 1) cs) n
times_more cs n i ts x l e at h =
    rw (add-one i, take-suc cs i 0 l, ← at, e) (times_snoc (take i cs) n x h)

-- and no count is more than the references that were met
pub times_few : (cs : List ℕ) (n i : ℕ) (ts : List ℕ) (x : ℕ) → i ≤ length cs → ts ≡ times_each (take i cs) n → x < n → get_or ts x 0 ≤ i
times_few cs n i ts x l e h = rw e (omega (arith, times_at (take i cs) n x h, count_most x (take i cs), length-take-le i cs l))
