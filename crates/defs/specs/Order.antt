-- The label order of document 01: which statements are listed, their blocks, the choice that fills a line, the label list.
use Rattle.std.specs.Prelude.{ℕ, zero, suc, ◌+◌, ◌-◌, ◌*◌, max, Bool, not, ◌||◌, List, [], ◌∷◌, ◌++◌, map, length, get_or, drop, eqb, leb, ltb}
use Rattle.laws.specs.Tools.{pick, range, keep, member, count, total, firsts, sort_by}
use Rattle.defs.specs.Table.{kind, label_length, mandatory}
use Rattle.defs.specs.Steps.{Step, normal_stmts}

-- ---- what is listed

-- the statements of the normal steps that are not in the theorem's list, with repeats
unfoldable pub used : List ℕ → List Step → List ℕ
used w steps = keep (λ k. not (member k (mandatory w))) (normal_stmts steps)

-- then stably non-assertions first; a statement's place here is its index
unfoldable pub listed : List ℕ → List Step → List ℕ
listed w steps =
    keep (λ k. not (eqb (kind w k) 0)) (firsts (used w steps)) ++ keep (λ k. eqb (kind w k) 0) (firsts (used w steps))

-- cost: label length + 1
unfoldable pub cost_of : List ℕ → List ℕ → ℕ → ℕ
cost_of w ls i = label_length w (get_or ls i 0) + 1

-- use count: its normal steps in the packed list
unfoldable pub use_of : List ℕ → List Step → List ℕ → ℕ → ℕ
use_of w steps ls i = count (get_or ls i 0) (used w steps)

-- ---- by use count

-- indices by use count, most first
unfoldable pub by_use : List ℕ → List Step → List ℕ
by_use w steps =
    let ls : List ℕ = listed w steps in
    sort_by (λ y x. ltb (use_of w steps ls x) (use_of w steps ls y)) (range 0 (length ls))

-- a block by index
unfoldable pub by_index : List ℕ → List ℕ
by_index = sort_by (λ y x. ltb y x)

-- ---- blocks

-- the constant table of cutoffs, each five times the one before
unfoldable pub cutoffs : List ℕ
cutoffs = 20 ∷ 100 ∷ 500 ∷ 2500 ∷ 12500 ∷ []

-- the counter i, and the cutoff in force with those after it
pub record Counter : Type 0 where
  pub at : ℕ
  pub ahead : List ℕ

-- while cutoff ≤ i, take cutoff from i and go to the next cutoff
unfoldable pub start_at : List ℕ → ℕ → Counter
start_at [] i = record { at = i; ahead = [] }
start_at (cutoff ∷ later) i =
    let next : Counter = start_at later (i - cutoff) in
    pick (leb cutoff i) next (record { at = i; ahead = cutoff ∷ later })

-- before each label: if i = cutoff, close the block, i = 1, next cutoff; otherwise i grows by 1
unfoldable pub blocks_from : List ℕ → ℕ → List ℕ → List ℕ → List (List ℕ)
blocks_from ahead i block [] = block ∷ []
blocks_from ahead i block (x ∷ xs) =
    let closed : List (List ℕ) = block ∷ blocks_from (drop 1 ahead) 1 (x ∷ []) xs in
    let grown : List (List ℕ) = blocks_from ahead (suc i) (block ++ x ∷ []) xs in
    pick (eqb i (get_or ahead 0 0)) closed grown

-- the theorem's floating count
unfoldable pub floatings : List ℕ → ℕ
floatings w = length (keep (λ k. eqb (kind w k) 1) (mandatory w))

unfoldable pub blocks : List ℕ → List Step → List (List ℕ)
blocks w steps =
    let c : Counter = start_at cutoffs (floatings w) in
    blocks_from c.ahead c.at [] (by_use w steps)

-- ---- the choice

-- the greatest total cost not over `room`, of a set of the first i items; item j costs `cost j`
unfoldable pub best : (ℕ → ℕ) → ℕ → ℕ → ℕ
best cost zero room = 0
best cost (suc i) room =
    let without : ℕ = best cost i room in
    let with_it : ℕ = cost i + best cost i (room - cost i) in
    pick (leb (cost i) room) (max without with_it) without

-- where item i is left out, the rest still reaches the greatest total
unfoldable pub rest_reaches : (ℕ → ℕ) → ℕ → ℕ → Bool
rest_reaches cost i room = eqb (best cost (suc i) room) (best cost i room)

-- the set: from the highest item down, leave an item out whenever the rest still reaches the greatest total. Ascending
unfoldable pub choose : (ℕ → ℕ) → ℕ → ℕ → List ℕ
choose cost zero room = []
choose cost (suc i) room =
    let without : List ℕ = choose cost i room in
    let with_it : List ℕ = choose cost i (room - cost i) ++ i ∷ [] in
    pick (rest_reaches cost i room) without with_it

-- ---- emission

-- the line position, and the indices emitted so far
pub record Filling : Type 0 where
  pub position : ℕ
  pub emitted : List ℕ

-- the members of the block that are chosen at this line position
unfoldable pub chosen : (ℕ → ℕ) → ℕ → List ℕ → ℕ → List ℕ
chosen cost W block position =
    map (λ p. get_or block p 0) (choose (λ p. cost (get_or block p 0)) (length block) (W - position))

-- emit a choice: add the costs; if nothing was chosen or position ≥ W − 1, position becomes 0
unfoldable pub emit : (ℕ → ℕ) → ℕ → List ℕ → Filling → Filling
emit cost W choice s =
    let position : ℕ = s.position + total (map cost choice) in
    record {
      position = pick (eqb (length choice) 0 || leb (W - 1) position) 0 position;
      emitted = s.emitted ++ choice;
    }

-- repeat until the block is empty. A turn that chooses nothing is followed by one that does, so 2 turns for each member suffice
unfoldable pub fill_within : (ℕ → ℕ) → ℕ → ℕ → List ℕ → Filling → Filling
fill_within cost W zero block s = s
fill_within cost W (suc turns) [] s = s
fill_within cost W (suc turns) (x ∷ xs) s =
    let choice : List ℕ = chosen cost W (x ∷ xs) s.position in
    fill_within cost W turns (keep (λ j. not (member j choice)) (x ∷ xs)) (emit cost W choice s)

unfoldable pub fill_block : (ℕ → ℕ) → ℕ → List ℕ → Filling → Filling
fill_block cost W block s = fill_within cost W (2 * length block) (by_index block) s

unfoldable pub fill_blocks : (ℕ → ℕ) → ℕ → List (List ℕ) → Filling → Filling
fill_blocks cost W [] s = s
fill_blocks cost W (block ∷ rest) s = fill_blocks cost W rest (fill_block cost W block s)

-- the label list of a packed list, for lines of W: line position starts at 2 once
unfoldable pub label_list : List ℕ → ℕ → List Step → List ℕ
label_list w W steps =
    let ls : List ℕ = listed w steps in
    let filled : Filling = fill_blocks (cost_of w ls) W (blocks w steps) (record { position = 2; emitted = [] }) in
    map (λ i. get_or ls i 0) filled.emitted
