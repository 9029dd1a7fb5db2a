-- The children of an entry as a loop over their places meets them: from the entry's child start up to its end, those still to come.
use Rattle.std.specs.Prelude.{◌≡◌, List, length, get_or}
use Rattle.std.proofs.Common.{◌∙◌, arith}
use Prim.Native.Nat.{ℕ, ◌+◌, ◌-◌, ◌≤◌, ◌<◌}
use Rattle.laws.specs.Tools.{part}
use Rattle.laws.specs.Lists.{all_at, all_below_lem, all_get_d, below_all, part_at, part_length}
use Rattle.defs.specs.Table.{word, child_start_in, child_count_in, children_in}
use Rattle.defs.specs.Graph.{graph_in}
use Rattle.defs.specs.Laws.{Falls}
use Rattle.defs.specs.Sections.{EntriesOk}
use Rattle.laws.specs.Parts.{up_to, up_to_part}

module _ (es cs : List ℕ) where
  -- from its child start on, as many as its child count says: its children
  pub kids_up_to : (e start len : ℕ) → start ≡ child_start_in es e → len ≡ child_count_in es e → up_to start (start + len) cs ≡ (graph_in es cs).kids e
  unfolding graph_in children_in
  kids_up_to e start len p q = up_to_part start len cs ∙ rw (p, q)

  module _ (n : ℕ) (ok : EntriesOk es cs n) where
    -- the reference at a child's place lies below the entry
    pub child_below : (e i : ℕ) → e < n → child_start_in es e ≤ i → i < child_start_in es e + child_count_in es e → word cs i < e
    child_below e i l from to =
        let h : child_start_in es e + (i - child_start_in es e) ≡ i = omega arith in
        rw h at (ok.below e (i - child_start_in es e) l (omega arith))

    -- so every child does
    pub sections_fall : Falls (graph_in es cs) n
    unfolding Falls graph_in children_in
    sections_fall e l =
        let start : ℕ = child_start_in es e in
        let len : ℕ = child_count_in es e in
        below_all e (part start len cs)
        (all_get_d (λ c. c < e) (part start len cs)
        (λ i m. let j : i < len = rw (part_length start len cs (ok.inside e l)) at m in
        rw (part_at start len cs i 0 j) (ok.below e i l j)))

    -- and that at each of its places
    pub kid_below : (e i : ℕ) → e < n → i < length (children_in es cs e) → get_or (children_in es cs e) i 0 < e
    unfolding Falls graph_in
    kid_below e i l m = all_at (λ c. c < e) (children_in es cs e) 0 (all_below_lem e (children_in es cs e) (sections_fall e l)) i m
