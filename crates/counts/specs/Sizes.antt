-- The number of normal steps of each entry, stopped just past the most that a normal list may have; and what that says of refusal 13.
use Rattle.std.specs.Prelude.{◌≡◌, refl, false, List, [], ◌∷◌, ◌++◌, length, get_or, drop, ltb}
use Rattle.std.proofs.Math.Path.{sym}
use Rattle.std.proofs.Common.{ap, ◌∙◌, arith, length-append}
use Prim.Native.Nat.{ℕ, zero, suc, ◌+◌, ◌≤◌, ◌<◌, min}
use Rattle.std.proofs.Math.Decide.{dec_lt}
use Rattle.std.proofs.Math.ListN.{get_or-append}
use borrow.Author.Tests.{lt-ltb, le-ltb, ltb-false}
use Rattle.laws.specs.Tools.{over, total}
use Rattle.laws.specs.Sums.{tot}
use Rattle.laws.specs.Lists.{snoc_cases, map_all, all_below_lem}
use Rattle.defs.specs.Table.{word, qed}
use Rattle.defs.specs.Graph.{Graph, graph_in, graph_of}
use Rattle.defs.specs.Steps.{normal_size, normal_count}
use Rattle.defs.specs.Refusals.{max_normal_steps, bad13}
use Rattle.defs.specs.Laws.{Falls, size_depth}
use Rattle.defs.specs.Sections.{EntriesOk}

abbrev pub size_cap : ℕ
size_cap = max_normal_steps + 1

unfoldable pub capped_size : Graph → ℕ → ℕ
capped_size g e = min size_cap (normal_count g e)

-- of the first n entries
unfoldable pub capped_sizes : Graph → ℕ → List ℕ
capped_sizes g zero = []
capped_sizes g (suc n) = capped_sizes g n ++ capped_size g n ∷ []

pub sizes_length : (g : Graph) (n : ℕ) → length (capped_sizes g n) ≡ n
unfolding capped_sizes
sizes_length g zero = refl
sizes_length g (suc n) = omega (arith, length-append (capped_sizes g n) (capped_size g n ∷ []), sizes_length g n)

pub size_at : (g : Graph) (n e : ℕ) → e < n → get_or (capped_sizes g n) e 0 ≡ capped_size g e
unfolding capped_sizes
size_at g zero e l = absurd (omega arith)
size_at g (suc n) e l =
    snoc_cases (λ v i. i < suc n → v ≡ capped_size g i) (capped_sizes g n) (capped_size g n) 0
    (λ i h m. size_at g n i (omega (arith, sizes_length g n)))
    (λ m. ap (capped_size g) (sym (sizes_length g n)))
    (λ i h m. absurd (omega (arith, sizes_length g n))) e l

-- what the count of an entry asks for: the entry stands in its section, and the counts of those below it are known
pub record ChildrenSized (es cs sizes : List ℕ) (e : ℕ) : Type 0 where
  pub n : ℕ
  pub ok : EntriesOk es cs n
  pub there : e < n
  pub room : n ≤ length sizes
  pub known : (c : ℕ) → c < e → word sizes c ≡ capped_size (graph_in es cs) c

-- an entry has one step, and those of its children
pub count_own : (g : Graph) (n e : ℕ) → Falls g n → e < n → normal_count g e ≡ 1 + tot (normal_count g) (g.kids e)
unfolding normal_count normal_size Falls
count_own g n e falls l =
    let same : tot (normal_size g e) (g.kids e) ≡ tot (λ c. normal_size g (suc c) c) (g.kids e) =
    ap total (map_all (normal_size g e) (λ c. normal_size g (suc c) c) (λ c. c < e) (λ c h. size_depth g n falls e (suc c) c (omega arith) h (omega arith)) (g.kids e) (all_below_lem e (g.kids e) (falls e l))) in
    omega (arith, same)

-- an entry's count in a slice that holds the counts of n entries at its front
pub size_in : (g : Graph) (n e : ℕ) (s₀ s : List ℕ) → s ≡ over (capped_sizes g n) s₀ → e < n → get_or s e 0 ≡ capped_size g e
size_in g n e s₀ s is l =
    rw is (get_or-append (capped_sizes g n) (drop (length (capped_sizes g n)) s₀) 0 e (rw (sizes_length g n) l) ∙ size_at g n e l)

-- ---- refusal 13: QED's count is over 1,000,000 exactly where there are more normal steps than that, and otherwise is their number

module _ (w : List ℕ) (size : ℕ) (is : size ≡ capped_size (graph_of w) (qed w)) where
  pub size_is_13 : ltb max_normal_steps size ≡ bad13 w
  unfolding bad13 capped_size
  size_is_13 =
      let steps : ℕ = normal_count (graph_of w) (qed w) in
      elim (dec_lt max_normal_steps steps) [
        | yes h ↦ lt-ltb max_normal_steps size (omega arith) ∙ sym (lt-ltb max_normal_steps steps h)
        | no h ↦ le-ltb max_normal_steps size (omega arith) ∙ sym (le-ltb max_normal_steps steps (omega arith))
      ]

  pub size_is_count : bad13 w ≡ false → size ≡ normal_count (graph_of w) (qed w)
  unfolding bad13 capped_size
  size_is_count few = omega (arith, ltb-false max_normal_steps (normal_count (graph_of w) (qed w)) few)
