-- Parents and distances of document 01, `Counts, distances, lists`.
use Rattle.std.specs.Prelude.{◌≡◌, ◌⊎◌, ℕ, zero, suc, ◌+◌, ◌≤◌, ◌<◌, min, Bool, List, [], ◌∷◌, map, length, get_or, set, replicate, T, ltb}
use Rattle.laws.specs.Tools.{pick, range, sum_below, count, member}
use Rattle.defs.specs.Table.{entries, qed}
use Rattle.defs.specs.Graph.{Graph, graph_of}

-- parents of an entry: the child references to it over ALL n entries, repeats and unreachable parents included
unfoldable pub parent_count : Graph → ℕ → ℕ → ℕ
parent_count g n e = sum_below (λ p. count e (g.kids p)) n

-- of every entry
unfoldable pub parents : Graph → ℕ → List ℕ
parents g n = map (λ e. parent_count g n e) (range 0 n)

-- the distance of what cannot be reached
abbrev pub unreached : ℕ
unreached = 65535

-- each listed child's distance becomes d where d is less
unfoldable pub lower : ℕ → List ℕ → List ℕ → List ℕ
lower d [] ds = ds
lower d (c ∷ cs) ds = lower d cs (set ds c (min d (get_or ds c unreached)))

-- the entries below e, highest first, each hand their distance plus 1 to their children
unfoldable pub descend : Graph → ℕ → List ℕ → List ℕ
descend g zero ds = ds
descend g (suc e) ds = descend g e (lower (min unreached (suc (get_or ds e unreached))) (g.kids e) ds)

-- distances from QED entry q, of all n entries: q has 0. One pass suffices, since children lie below their parents
unfoldable pub distances : Graph → ℕ → ℕ → List ℕ
distances g n q = descend g n (set (replicate n unreached) q 0)

-- the parents and the distances of a table's entries
unfoldable pub parents_of : List ℕ → List ℕ
parents_of w = parents (graph_of w) (entries w)

unfoldable pub distances_of : List ℕ → List ℕ
distances_of w = distances (graph_of w) (entries w) (qed w)

-- entry e can be reached from QED entry q
unfoldable pub reachable : Graph → ℕ → ℕ → ℕ → Bool
reachable g n q e = ltb (get_or (distances g n q) e unreached) unreached

-- 1 plus the child counts of all entries that can be reached: the number of steps that demand 3 asks of the packed list
unfoldable pub shared_size : Graph → ℕ → ℕ → ℕ
shared_size g n q = 1 + sum_below (λ e. pick (reachable g n q e) (length (g.kids e)) 0) n

-- ---- what the pass computes, said without it

-- there is a way of k child edges from q down to e
unfoldable pub Way : Graph → ℕ → ℕ → ℕ → Type 0
Way g zero q e = q ≡ e
Way g (suc k) q e = (p : ℕ) × Way g k q p × T (member e (g.kids p))

-- d is the fewest child edges from q to e, or 65535 and there is no way
unfoldable pub IsDistance : Graph → ℕ → ℕ → ℕ → Type 0
IsDistance g q e d = (Way g d q e × ((k : ℕ) → k < d → ¬ Way g k q e)) ⊎ ((d ≡ unreached) × ((k : ℕ) → ¬ Way g k q e))

-- the law (proved in module DistanceLaws): for children below their parents, and at most 65535 entries, the pass gives the distance
unfoldable pub DistanceLaw : Type 0
DistanceLaw =
    (g : Graph) (n q e : ℕ) → ((p c : ℕ) → p < n → T (member c (g.kids p)) → c < p) → n ≤ unreached → q < n → e < n
    → IsDistance g q e (get_or (distances g n q) e unreached)
