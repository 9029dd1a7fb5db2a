-- Laws of the counts of normal steps, as the loop over an entry's children and the loop over the entries run them.
-- Assumes nothing.
use mathlib.Core.Path.{◌≡◌, refl, sym, ◌∙◌}
use mathlib.Core.List.{List, ◌++◌}
use Prim.Native.Nat.{ℕ, suc, ◌+◌, ◌≤◌, ◌<◌, min}
use native.Mathlib.Numerals.{add-one}
use native.Mathlib.Omega.{arith}
use lib.ListN.{length, get_or, drop, set, get_or-append}
use Rattle.std.proofs.lemmas.List.{drop_all}
use lib.Seq.{append_snoc, drop-cons, set_at}
use Rattle.laws.specs.Tools.{over}
use Rattle.laws.specs.Sums.{tot}
use Rattle.defs.specs.Graph.{Graph}
use Rattle.defs.specs.Steps.{normal_count}
use Rattle.counts.specs.Sizes.{size_cap, capped_size, capped_sizes, sizes_length, size_at}

pub size_small : (g : Graph) (e : ℕ) → capped_size g e ≤ size_cap
unfolding capped_size
size_small g e = omega arith

-- ---- the children of one entry: what is counted, with what is still to come

pub size_next : (g : Graph) (i : ℕ) (ks : List ℕ) (size more : ℕ) → i < length ks → more ≡ capped_size g (get_or ks i 0)
    → min size_cap (min size_cap (size + more) + tot (normal_count g) (drop (i + 1) ks)) ≡ min size_cap (size + tot (normal_count g) (drop i ks))
unfolding capped_size
size_next g i ks size more l known = rw (add-one i, drop-cons ks i 0 l) (omega arith)

pub size_done : (g : Graph) (i : ℕ) (ks : List ℕ) (size : ℕ) → length ks ≤ i → size ≤ size_cap → min size_cap (size + tot (normal_count g) (drop i ks)) ≡ size
size_done g i ks size h l = rw (drop_all i ks h) (omega arith)

-- ---- the entries, one by one

pub sizes_next : (g : Graph) (e : ℕ) (s₀ s : List ℕ) (v : ℕ) → e < length s₀ → s ≡ capped_sizes g e ++ drop e s₀ → v ≡ capped_size g e
    → set s e v ≡ capped_sizes g (e + 1) ++ drop (e + 1) s₀
unfolding capped_sizes
sizes_next g e s₀ s v l is size =
    rw (is, size, add-one e, drop-cons s₀ e 0 l, set_at (capped_sizes g e) (get_or s₀ e 0) (drop (suc e) s₀) (capped_size g e) e (sizes_length g e))
    (sym (append_snoc (capped_sizes g e) (capped_size g e) (drop (suc e) s₀)))

pub sizes_known : (g : Graph) (e : ℕ) (s₀ s : List ℕ) → s ≡ capped_sizes g e ++ drop e s₀ → (c : ℕ) → c < e → get_or s c 0 ≡ capped_size g c
sizes_known g e s₀ s is c l = rw is (get_or-append (capped_sizes g e) (drop e s₀) 0 c (rw (sizes_length g e) l) ∙ size_at g e c l)

pub sizes_none : (g : Graph) (s : List ℕ) → s ≡ capped_sizes g 0 ++ drop 0 s
unfolding capped_sizes
sizes_none g s = refl

pub sizes_done : (g : Graph) (n e : ℕ) (s₀ s : List ℕ) → e ≡ n → s ≡ capped_sizes g e ++ drop e s₀ → s ≡ over (capped_sizes g n) s₀
sizes_done g n e s₀ s end is = is ∙ rw (end, sizes_length g n)
