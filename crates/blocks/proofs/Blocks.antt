-- One block: sorted by index, then one line after the other; what a block needs goes on from line to line.
-- What is still to be filled, finished from any line on, is the block filled whole.
use mathlib.Core.Path.{◌≡◌, refl, sym, ap, ap₂, ◌∙◌}
use mathlib.Core.Bool.{not, ◌||◌}
use mathlib.Core.List.{List, ◌++◌, map}
use Prim.Native.Nat.{ℕ, ◌+◌, ◌-◌, ◌*◌, ◌≤◌, ◌<◌}
use native.Mathlib.Nat.{mul-le-mul_right}
use native.Mathlib.Omega.{arith}
use borrow.Author.Tests.{leb-false}
use borrow.Rule.Slice.PartMut.{put_mid, take_put, drop_put}
use lib.ListN.{length, take, drop}
use lib.Seq.{drop-drop, take-take, take_at, drop_at, length-take-le}
use lib.Dec.{eqb, leb}
use Rattle.laws.specs.Tools.{part, member, count, total}
use Rattle.laws.specs.Lists.{boole, or_no, All, all_keep, part_length}
use Rattle.laws.specs.Counting.{count_keep, count_sort, length_sort}
use Rattle.defs.specs.Order.{Filling, by_index, emit, fill_block}
use Rattle.defs.proofs.LabelLaws.{Fit}
use Rattle.blocks.specs.Line.{others, Once}
use Rattle.sorts.specs.Sorted.{lower}
use Rattle.blocks.specs.State.{State, state, price, choice_of, line_filled, block_filled, Ready, LineDone, BlockReady, BlockDone}
use Rattle.sorts.proofs.Sorting.{all_sort}
use Rattle.blocks.proofs.Turns.{finished, finished_more, finished_none, fit_priced, turns_left, turn_less}

-- ---- from line to line

-- the line position never passes the width
pub emit_on_line : (cost : ℕ → ℕ) (W : ℕ) (choice : List ℕ) (s : Filling) → (emit cost W choice s).position ≤ W
unfolding emit
emit_on_line cost W choice s =
    let position : ℕ = s.position + total (map cost choice) in
    boole (eqb (length choice) 0 || leb (W - 1) position)
    (λ h. rw h (omega arith))
    (λ h. rw h (omega (arith, leb-false (W - 1) position (or_no (eqb (length choice) 0) (leb (W - 1) position) h).1)))

once_others : (block choice : List ℕ) → Once block → Once (others block choice)
once_others block choice once x =
    boole (not (member x choice))
    (λ e. omega (arith, once x, rw e at (count_keep (λ k. not (member k choice)) x block)))
    (λ e. omega (arith, rw e at (count_keep (λ k. not (member k choice)) x block)))

module _ (n W start position at count cells : ℕ) (w : List ℕ) (ready : Ready n W start position at count w cells)
    (position' at' count' : ℕ) (w' : List ℕ) (long : length w' ≡ length w) (done : LineDone n W start position at count w position' at' count' w') where
  abbrev before : State
  before = state n start w position at count

  abbrev after : State
  after = state n start w' position' at' count'

  block_is : after.block ≡ others before.block (choice_of W before)
  unfolding line_filled
  block_is = ap (λ (s : State). s.block) done.filled

  line_is : after.line ≡ emit (price before) W (choice_of W before) before.line
  unfolding line_filled
  line_is = ap (λ (s : State). s.line) done.filled

  pub costs_same : take n w' ≡ take n w
  unfolding line_filled
  costs_same = ap (λ (s : State). s.costs) done.filled

  pub fewer : count' ≤ count
  fewer = omega (arith, done.moved, done.onward)

  pub ready_next : Ready n W start position' at' count' w' cells
  ready_next =
      record {
        narrow = ready.narrow;
        some = ready.some;
        on_line = omega (arith, ap (λ (f : Filling). f.position) line_is, emit_on_line (price before) W (choice_of W before) before.line);
        few = omega (arith, ready.few, fewer);
        behind = omega (arith, ready.behind, done.onward);
        before = omega (arith, ready.before, done.moved);
        inside = omega (arith, ready.inside, fewer);
        members = rw block_is (all_keep (λ j. j < n) _ before.block ready.members);
        once = λ x. rw block_is (once_others before.block (choice_of W before) ready.once x);
        room =
            (let l : (count' + 1) * (W + 1) ≤ (count + 1) * (W + 1) = mul-le-mul_right (W + 1) (let m : count' + 1 ≤ count + 1 = omega (arith, fewer) in m) in
            omega (arith, ready.room));
      }

  long_block : length before.block ≡ count
  long_block = part_length start count w ready.inside

  -- the costs fit, and members are left
  module _ (priced : All (λ c. (1 ≤ c) × (c ≤ W)) (take n w)) (more : 0 < count) where
    fits : Fit (price before) W before.block
    fits = fit_priced n W (take n w) before.block (length-take-le n w (omega (arith, ready.behind, ready.before, ready.inside))) priced ready.members

    pub finished_line : finished W after ≡ finished W before
    finished_line = ap (finished W) done.filled ∙ finished_more W before fits (omega (arith, long_block))

    pub less : turns_left position' count' < turns_left position count
    less =
        let a : turns_left (emit (price before) W (choice_of W before) before.line).position (length (others before.block (choice_of W before))) ≡ turns_left position' count' =
        ap₂ turns_left (ap (λ (f : Filling). f.position) (sym line_is)) (ap length (sym block_is) ∙ part_length start count' w' (omega (arith, ready.inside, fewer))) in
        let b : turns_left position (length before.block) ≡ turns_left position count = ap (turns_left position) long_block in
        omega (arith, a, b, turn_less (price before) W before.block before.line fits (omega (arith, long_block)))

-- ---- the loop's invariant: what it began with is `before`, and finished it is `whole`

pub record Going (n W start end : ℕ) (before : List ℕ) (whole : State) (position at count cells : ℕ) (w : List ℕ) : Type 0 where
  pub ready : Ready n W start position at count w cells
  pub ends : at + count + n ≡ end
  pub onward : start ≤ at + n
  pub priced : All (λ c. (1 ≤ c) × (c ≤ W)) (take n w)
  pub later : drop end w ≡ drop end before
  pub finish : finished W (state n start w position at count) ≡ whole

-- what is the same from a on is the same from any later place on
later_more : (a b : ℕ) (x y : List ℕ) → a ≤ b → drop a x ≡ drop a y → drop b x ≡ drop b y
later_more a b x y l h =
    let e : a + (b - a) ≡ b = omega arith in
    let d : drop (a + (b - a)) x ≡ drop (a + (b - a)) y = sym (drop-drop (b - a) a x) ∙ ap (drop (b - a)) h ∙ drop-drop (b - a) a y in
    rw e at d

module _ (n W start end : ℕ) (before : List ℕ) (whole : State) (position at count cells : ℕ) (w : List ℕ) (going : Going n W start end before whole position at count cells w)
    (more : 0 < count) (position' at' count' : ℕ) (w' : List ℕ) (long : length w' ≡ length w) (done : LineDone n W start position at count w position' at' count' w') where
  pub going_less : turns_left position' count' < turns_left position count
  going_less = less n W start position at count cells w going.ready position' at' count' w' long done going.priced more

  pub going_next : Going n W start end before whole position' at' count' cells w'
  going_next =
      record {
        ready = ready_next n W start position at count cells w going.ready position' at' count' w' long done;
        ends = omega (arith, going.ends, done.moved);
        onward = omega (arith, going.onward, done.onward);
        priced = rw (costs_same n W start position at count cells w going.ready position' at' count' w' long done) going.priced;
        later = later_more (start + count) end w' w (omega (arith, going.ends, going.onward)) done.later ∙ going.later;
        finish = finished_line n W start position at count cells w going.ready position' at' count' w' long done going.priced more ∙ going.finish;
      }

-- ---- sorted by index

module _ (n W start end position cells : ℕ) (e ys : List ℕ) (ready : BlockReady n W start end position e cells) (sorted : ys ≡ by_index (part start (end - start) e)) where
  abbrev w : List ℕ
  w = put_mid start (end - start) e ys

  abbrev members : List ℕ
  members = part start (end - start) e

  sorted_long : length ys ≡ end - start
  unfolding by_index
  sorted_long = ap length sorted ∙ length_sort lower members ∙ part_length start (end - start) e (omega (arith, ready.from_start, ready.inside))

  front : (k : ℕ) → k ≤ start → take k w ≡ take k e
  front k l =
      sym (take-take k start w l)
      ∙ ap (take k) (take_put start (end - start) e ys (omega (arith, ready.from_start, ready.inside)))
      ∙ take-take k start e l

  block_sorted : part start (end - start) w ≡ by_index members
  block_sorted =
      ap (take (end - start)) (drop_at (take start e) (ys ++ drop (end - start) (drop start e)) start (length-take-le start e (omega (arith, ready.from_start, ready.inside))))
      ∙ take_at ys (drop (end - start) (drop start e)) (end - start) sorted_long
      ∙ sorted

  pub sorted_costs : take n w ≡ take n e
  sorted_costs = front n (omega (arith, ready.behind))

  pub sorted_later : drop end w ≡ drop end e
  sorted_later = drop_put start end e ys ready.from_start ready.inside sorted_long

  pub sorted_ready : length w ≡ length e → Ready n W start position (start - n) (end - start) w cells
  unfolding by_index
  sorted_ready long =
      record {
        narrow = ready.narrow;
        some = ready.some;
        on_line = ready.on_line;
        few = omega (arith, ready.before, ready.few);
        behind = omega (arith, ready.behind);
        before = omega (arith, ready.before, ready.behind, ready.from_start);
        inside = omega (arith, ready.inside, ready.from_start);
        members = rw block_sorted (all_sort (λ j. j < n) lower members ready.members);
        once = λ x. rw block_sorted (omega (arith, ready.once x, count_sort x lower members));
        room =
            (let l : (end - start + 1) * (W + 1) ≤ (n + 1) * (W + 1) = mul-le-mul_right (W + 1) (let m : end - start + 1 ≤ n + 1 = omega (arith, ready.before) in m) in
            omega (arith, ready.room));
      }

  pub sorted_finished : finished W (state n start w position (start - n) (end - start)) ≡ block_filled W (state n start e position (start - n) (end - start))
  unfolding finished block_filled fill_block by_index
  sorted_finished =
      let k : length (by_index members) ≡ length members = length_sort lower members in
      simp (sorted_costs, front (start - n) (omega arith), block_sorted, k)

  pub sorted_going : length w ≡ length e
      → Going n W start end w (finished W (state n start w position (start - n) (end - start))) position (start - n) (end - start) cells w
  sorted_going long =
      record {
        ready = sorted_ready long;
        ends = omega (arith, ready.behind, ready.from_start);
        onward = omega (arith, ready.behind);
        priced = rw sorted_costs ready.costs;
        later = refl;
        finish = refl;
      }

-- ---- no member is left

pub block_done : (n W start end position position' at count cells : ℕ) (e w w' : List ℕ) (whole : State)
    → Going n W start end w whole position' at count cells w' → count ≡ 0
    → whole ≡ block_filled W (state n start e position (start - n) (end - start)) → drop end w ≡ drop end e → BlockDone n W start end position e position' w'
block_done n W start end position position' at count cells e w w' whole going none is later =
    let ends : at ≡ end - n = omega (arith, going.ends) in
    let h : finished W (state n start w' position' (end - n) 0) ≡ whole = rw (ends, none) at going.finish in
    record { filled = sym (finished_none W n start w' position' (end - n)) ∙ h ∙ is; later = going.later ∙ later }
