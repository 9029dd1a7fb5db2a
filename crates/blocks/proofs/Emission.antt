-- All blocks: before each label the block in hand grows or closes, as `blocks_from` says; what is still to be filled, filled, is the whole.
-- The count with the cutoffs passed is the floating count with the labels seen, so the last cutoff is never reached.
use mathlib.Core.Path.{◌≡◌, refl, sym, ap, ◌∙◌}
use mathlib.Core.Logic.{◌≢◌}
use mathlib.Core.List.{List, [], ◌∷◌, ◌++◌}
use Prim.Native.Nat.{ℕ, zero, suc, ◌+◌, ◌-◌, ◌*◌, ◌≤◌, ◌<◌}
use native.Mathlib.Numerals.{add-one}
use native.Mathlib.Omega.{arith}
use borrow.Author.Tests.{eq-eqb, ne_eqb}
use lib.ListN.{length, get_or, take, drop, length-drop, take-append-drop, drop_of_length-le}
use lib.Seq.{take-suc, take-add, drop_at, drop-cons, drop-drop, get_or-drop, length-take-le}
use Rattle.laws.specs.Tools.{part, count, total}
use Rattle.laws.specs.Lists.{All, all_take, all_drop}
use Rattle.laws.specs.Sums.{count_append}
use Rattle.defs.specs.Order.{cutoffs, by_index, blocks_from, Filling, emit, chosen, fill_within, fill_block, fill_blocks}
use Rattle.blocks.specs.Line.{Once, others}
use Rattle.blocks.specs.State.{State, block_filled, BlockReady, BlockDone}
use Rattle.blocks.specs.Counted.{Counted}
use Rattle.blocks.specs.Emission.{Fitting, Labels, filled_from}
use Rattle.blocks.proofs.Blocks.{emit_on_line}
use Rattle.blocks.proofs.Counts.{cutoff_is}

-- ---- the clauses of `blocks_from`

block_grows : (ahead : List ℕ) (i : ℕ) (block : List ℕ) (x : ℕ) (xs : List ℕ) → i ≢ get_or ahead 0 0
    → blocks_from ahead i block (x ∷ xs) ≡ blocks_from ahead (i + 1) (block ++ (x ∷ [])) xs
unfolding blocks_from
block_grows ahead i block x xs h = rw (ne_eqb i (get_or ahead 0 0) h, add-one i)

block_closes : (ahead : List ℕ) (i : ℕ) (block : List ℕ) (x : ℕ) (xs : List ℕ) → i ≡ get_or ahead 0 0
    → blocks_from ahead i block (x ∷ xs) ≡ block ∷ blocks_from (drop 1 ahead) 1 (x ∷ []) xs
unfolding blocks_from
block_closes ahead i block x xs h = rw (eq-eqb i (get_or ahead 0 0) h)

-- ---- parts of a list without repeats

once_take : (k : ℕ) (xs : List ℕ) → Once xs → Once (take k xs)
once_take k xs once x = omega (arith, once x, count_append x (take k xs) (drop k xs), ap (count x) (take-append-drop k xs))

once_drop : (k : ℕ) (xs : List ℕ) → Once xs → Once (drop k xs)
once_drop k xs once x = omega (arith, once x, count_append x (take k xs) (drop k xs), ap (count x) (take-append-drop k xs))

-- the line position never passes the width
fill_on_line : (cost : ℕ → ℕ) (W turns : ℕ) (block : List ℕ) (s : Filling) → s.position ≤ W → (fill_within cost W turns block s).position ≤ W
unfolding fill_within
fill_on_line cost W zero block s h = h
fill_on_line cost W (suc turns) [] s h = h
fill_on_line cost W (suc turns) (x ∷ xs) s h =
    let choice = chosen cost W (x ∷ xs) s.position in
    fill_on_line cost W turns (others (x ∷ xs) choice) (emit cost W choice s) (emit_on_line cost W choice s)

-- ---- the loop's invariant

-- what is still to be filled, once the labels from `next` on are in blocks
abbrev pub to_fill : (n W start next position i level : ℕ) → List ℕ → Filling
to_fill n W start next position i level w =
    fill_blocks (λ j. get_or (take n w) j 0) W (blocks_from (drop level cutoffs) i (part start (next - start) w) (drop next w))
    (record { position = position; emitted = drop n (take (start - n) w) })

pub record Cutting (n W floatings : ℕ) (whole : Filling) (start next position i level cells : ℕ) (w : List ℕ) : Type 0 where
  pub fitting : Fitting n W floatings w cells
  pub first : n + n ≤ start
  pub from_start : start ≤ next
  pub inside : next ≤ n + n + n
  pub on_line : position ≤ W
  pub in_table : level < length cutoffs
  pub counts : total (take level cutoffs) + i + (n + n) ≡ floatings + next
  pub members : All (λ j. j < n) (drop start w)
  pub once : Once (drop start w)
  pub finish : to_fill n W start next position i level w ≡ whole

none_taken : (n : ℕ) (w : List ℕ) → drop n (take n w) ≡ []
none_taken zero w = refl
none_taken (suc n) [] = refl
none_taken (suc n) (x ∷ w) = none_taken n w

pub cut_start : (n W floatings i level cells : ℕ) (w : List ℕ) → Fitting n W floatings w cells → Labels n w → Counted floatings i level
    → Cutting n W floatings (filled_from (λ j. get_or (take n w) j 0) W floatings (drop (n + n) w)) (n + n) (n + n) 2 i level cells w
unfolding filled_from
cut_start n W floatings i level cells w fitting labels counted =
    let e : n + n - n ≡ n = omega arith in
    let z : n + n - (n + n) ≡ 0 = omega arith in
    record {
      fitting = fitting;
      first = omega arith;
      from_start = omega arith;
      inside = omega arith;
      on_line = fitting.begun;
      in_table = counted.in_table;
      counts = omega (arith, counted.counts);
      members = labels.members;
      once = labels.once;
      finish = rw (e, z, none_taken n w, counted.starts);
    }

module _ (n W floatings : ℕ) (whole : Filling) (start next position i level cells : ℕ) (w : List ℕ) (cut : Cutting n W floatings whole start next position i level cells w) where
  -- the block in hand can be filled
  pub block_ready : BlockReady n W start next position w cells
  block_ready =
      record {
        narrow = cut.fitting.narrow;
        some = omega (arith, cut.fitting.begun);
        on_line = cut.on_line;
        few = omega (arith, cut.fitting.few);
        behind = cut.first;
        from_start = cut.from_start;
        before = omega (arith, cut.first, cut.inside);
        inside = omega (arith, cut.inside, cut.fitting.whole);
        costs = cut.fitting.costs;
        members = all_take (λ j. j < n) (next - start) (drop start w) cut.members;
        once = once_take (next - start) (drop start w) cut.once;
        room = cut.fitting.room;
      }

  -- the cutoff in force
  head_is : get_or (drop level cutoffs) 0 0 ≡ get_or cutoffs level 0
  head_is = get_or-drop level cutoffs 0 0 ∙ (let e : level + 0 ≡ level = omega arith in rw e)

  -- one label more
  module _ (more : next < n + n + n) where
    labels_are : drop next w ≡ get_or w next 0 ∷ drop (next + 1) w
    labels_are = drop-cons w next 0 (omega (arith, cut.fitting.whole)) ∙ rw (add-one next)

    block_more : part start (next + 1 - start) w ≡ part start (next - start) w ++ (get_or w next 0 ∷ [])
    block_more =
        let e : next + 1 - start ≡ suc (next - start) = omega (arith, cut.from_start) in
        let z : start + (next - start) ≡ next = omega (arith, cut.from_start) in
        let p : take (suc (next - start)) (drop start w) ≡ part start (next - start) w ++ (get_or (drop start w) (next - start) 0 ∷ []) =
        take-suc (drop start w) (next - start) 0 (rw length-drop (omega (arith, cut.fitting.whole, cut.from_start))) in
        rw e (p ∙ rw (get_or-drop start w (next - start) 0, z))

    pub cut_grows : i ≢ get_or cutoffs level 0 → Cutting n W floatings whole start (next + 1) position (i + 1) level cells w
    cut_grows h =
        record {
          fitting = cut.fitting;
          first = cut.first;
          from_start = omega (arith, cut.from_start);
          inside = omega arith;
          on_line = cut.on_line;
          in_table = cut.in_table;
          counts = omega (arith, cut.counts);
          members = cut.members;
          once = cut.once;
          finish =
              ap (λ (bs : List (List ℕ)). fill_blocks (λ j. get_or (take n w) j 0) W bs (record { position = position; emitted = drop n (take (start - n) w) }))
              (sym (ap (blocks_from (drop level cutoffs) i (part start (next - start) w)) labels_are
              ∙ block_grows (drop level cutoffs) i (part start (next - start) w) (get_or w next 0) (drop (next + 1) w) (λ e. h (e ∙ head_is))
              ∙ ap (λ (b : List ℕ). blocks_from (drop level cutoffs) (i + 1) b (drop (next + 1) w)) (sym block_more)))
              ∙ cut.finish;
        }

  -- the block in hand is filled
  module _ (position' : ℕ) (w' : List ℕ) (long : length w' ≡ length w) (done : BlockDone n W start next position w position' w') where
    abbrev cost : ℕ → ℕ
    cost j = get_or (take n w) j 0

    abbrev line : Filling
    line = record { position = position; emitted = drop n (take (start - n) w) }

    costs_same : take n w' ≡ take n w
    unfolding block_filled
    costs_same = ap (λ (s : State). s.costs) done.filled

    line_is : record { position = position'; emitted = drop n (take (next - n) w') } ≡ fill_block cost W (part start (next - start) w) line
    unfolding block_filled
    line_is = ap (λ (s : State). s.line) done.filled

    later : drop next w' ≡ drop (next - start) (drop start w)
    later = done.later ∙ sym (drop-drop (next - start) start w ∙ (let z : start + (next - start) ≡ next = omega (arith, cut.from_start) in rw z))

    on_line_still : position' ≤ W
    unfolding fill_block
    on_line_still = omega (arith, ap (λ (f : Filling). f.position) line_is, fill_on_line cost W (2 * length (part start (next - start) w)) (by_index (part start (next - start) w)) line cut.on_line)

    fitting_still : Fitting n W floatings w' cells
    fitting_still =
        record {
          narrow = cut.fitting.narrow;
          begun = cut.fitting.begun;
          few = cut.fitting.few;
          whole = long ∙ cut.fitting.whole;
          costs = rw costs_same cut.fitting.costs;
          room = cut.fitting.room;
        }

    -- before a label that closes it
    module _ (more : next < n + n + n) (full : i ≡ get_or cutoffs level 0) where
      pub level_next : level + 1 < length cutoffs
      level_next = (cutoff_is level cut.in_table).last (omega (arith, cut.counts, cut.fitting.few))

      next_block : part next (next + 1 - next) w' ≡ get_or w next 0 ∷ []
      next_block =
          let e : next + 1 - next ≡ 1 = omega arith in
          rw e (ap (take 1) (done.later ∙ labels_are more))

      next_labels : drop (next + 1) w' ≡ drop (next + 1) w
      next_labels = sym (drop-drop 1 next w') ∙ ap (drop 1) done.later ∙ drop-drop 1 next w

      blocks_are : blocks_from (drop level cutoffs) i (part start (next - start) w) (drop next w)
          ≡ part start (next - start) w ∷ blocks_from (drop (level + 1) cutoffs) 1 (part next (next + 1 - next) w') (drop (next + 1) w')
      blocks_are =
          ap (blocks_from (drop level cutoffs) i (part start (next - start) w)) (labels_are more)
          ∙ block_closes (drop level cutoffs) i (part start (next - start) w) (get_or w next 0) (drop (next + 1) w) (full ∙ sym head_is)
          ∙ rw (drop-drop 1 level cutoffs, next_block, next_labels)

      pub cut_closes : Cutting n W floatings whole next (next + 1) position' 1 (level + 1) cells w'
      unfolding fill_blocks
      cut_closes =
          record {
            fitting = fitting_still;
            first = omega (arith, cut.first, cut.from_start);
            from_start = omega arith;
            inside = omega arith;
            on_line = on_line_still;
            in_table = level_next;
            counts = omega (arith, cut.counts, (cutoff_is level cut.in_table).passed);
            members = rw later (all_drop (λ j. j < n) (next - start) (drop start w) cut.members);
            once = λ x. rw later (once_drop (next - start) (drop start w) cut.once x);
            finish =
                rw (costs_same, line_is)
                (ap (λ (bs : List (List ℕ)). fill_blocks cost W bs line) (sym blocks_are) ∙ cut.finish);
          }

    -- after the last label
    pub cut_done : next ≡ n + n + n → part n n w' ≡ whole.emitted
    unfolding fill_blocks blocks_from
    cut_done last =
        let e : next - n ≡ n + n = omega arith in
        let none : drop next w ≡ [] = drop_of_length-le w {i = next} (omega (arith, cut.fitting.whole)) in
        let f : fill_block cost W (part start (next - start) w) line ≡ whole = rw none at cut.finish in
        let p : take (n + n) w' ≡ take n w' ++ part n n w' = take-add n n w' in
        sym (drop_at (take n w') (part n n w') n (length-take-le n w' (omega (arith, cut.fitting.whole))))
        ∙ ap (drop n) (sym p)
        ∙ ap (λ (k : ℕ). drop n (take k w')) (sym e)
        ∙ ap (λ (s : Filling). s.emitted) (line_is ∙ f)
