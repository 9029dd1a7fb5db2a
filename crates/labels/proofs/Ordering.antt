-- The label list in the working slice, step by step: weights, order, statements, numbers.
-- Each step writes behind what it reads, so the listed statements are what they were when the order is turned into statements.
use mathlib.Core.Path.{◌≡◌, sym, ap, ◌∙◌}
use mathlib.Core.Logic.{inl, inr}
use mathlib.Core.Bool.{false, not}
use mathlib.Core.List.{List, ◌++◌, map}
use Prim.Native.Nat.{ℕ, ◌+◌, ◌-◌, ◌*◌, ◌≤◌, ◌<◌}
use native.Mathlib.Nat.{mul-le-mul_right}
use native.Mathlib.Omega.{arith}
use borrow.Rule.Slice.PartMut.{put_mid, mid_of}
use lib.ListN.{length, get_or, take, drop, length-map, get_or-append}
use lib.Seq.{get_or-take, get_or-drop, get_or-append-add, length-take-le}
use lib.Dec.{nltb→le, ltb}
use Rattle.laws.specs.Tools.{part, count, repeats, member, place, pick}
use Rattle.laws.specs.Lists.{T_of, All, all_at, all_get_d, get_d_map, part_at, part_length}
use Rattle.laws.specs.Counting.{none_at, not_repeated}
use Rattle.defs.specs.Table.{word, statements, statement_words, label_length, mandatory}
use Rattle.defs.specs.Steps.{Step}
use Rattle.defs.specs.Text.{packed_of}
use Rattle.defs.specs.Order.{used, listed, cost_of, use_of, floatings, label_list}
use Rattle.defs.proofs.LabelLaws.{count_labels}
use Rattle.defs.specs.Sections.{StatementsOk, statements_ok}
use Rattle.listing.specs.Arrays.{OnlyIn, others}
use Rattle.listing.specs.Labels.{LabelsReady, LabelsNumbered}
use Rattle.theorem.proofs.Goals.{theorem_ok, list_short}
use Rattle.blocks.specs.Emission.{Fitting, index_order}
use Rattle.blocks.proofs.Same.{label_list_lem, order_below}
use Rattle.labels.specs.Weights.{WeighReady, Weighed, NamesReady, Named}
use Rattle.labels.specs.Ordered.{OrderReady, Ordered}
use Rattle.labels.proofs.Listed.{listing_is, listed_below, few_listed}

-- ---- a part of a slice given back

put_in : (a k : ℕ) (ws ys : List ℕ) (j : ℕ) → a ≤ length ws → j < length ys → word (put_mid a k ws ys) (a + j) ≡ word ys j
put_in a k ws ys j l m =
    let front : length (take a ws) ≡ a = length-take-le a ws l in
    ap (λ (n : ℕ). word (put_mid a k ws ys) (n + j)) (sym front)
    ∙ get_or-append-add (take a ws) (ys ++ drop k (drop a ws)) j 0
    ∙ get_or-append ys (drop k (drop a ws)) 0 j m

put_low : (a k : ℕ) (ws ys : List ℕ) (j : ℕ) → a ≤ length ws → j < a → word (put_mid a k ws ys) j ≡ word ws j
put_low a k ws ys j l m =
    get_or-append (take a ws) (ys ++ drop k (drop a ws)) 0 j (omega (arith, length-take-le a ws l))
    ∙ get_or-take a ws j 0 m

put_high : (a k : ℕ) (ws ys : List ℕ) (j : ℕ) → a + k ≤ length ws → length ys ≡ k → a + k ≤ j → word (put_mid a k ws ys) j ≡ word ws j
put_high a k ws ys j l m h =
    let front : length (take a ws) ≡ a = length-take-le a ws (omega arith) in
    let i : ℕ = j - (a + k) in
    let split : j ≡ length (take a ws) + (length ys + i) = omega arith in
    ap (word (put_mid a k ws ys)) split
    ∙ get_or-append-add (take a ws) (ys ++ drop k (drop a ws)) (length ys + i) 0
    ∙ get_or-append-add ys (drop k (drop a ws)) i 0
    ∙ get_or-drop k (drop a ws) i 0
    ∙ get_or-drop a ws (k + i) 0
    ∙ ap (word ws) (omega arith)

-- s statements in the section ss, a theorem's list of length `base` with `floating` floatings
module _ (w : List ℕ) (from many W cells : ℕ) (ws : List ℕ) (ready : OrderReady w from many W cells ws) (ss : List ℕ) (s floating base : ℕ)
    (ss-is : ss ≡ statement_words w) (s-is : s ≡ statements w) (floating-is : floating ≡ floatings w) (base-is : base ≡ length (mandatory w)) where
  abbrev steps : List Step
  steps = packed_of w false

  abbrev ls : List ℕ
  ls = listed w steps

  abbrev list_at : ℕ
  list_at = from + 3 * s

  abbrev costs_at : ℕ
  costs_at = from + 5 * s

  abbrev order_at : ℕ
  order_at = costs_at + many

  abbrev end : ℕ
  end = order_at + 2 * many

  pub many_is : many ≡ length ls
  many_is = ready.held.as_many ∙ ap length (listing_is w steps)

  pub few : floating + many ≤ s
  few = omega (arith, s-is, floating-is, many_is, few_listed w ready.b ready.ok)

  pub room : from + 8 * s ≤ length ws
  room = omega (arith, s-is, ready.room)

  held : (i : ℕ) → i < many → word ws (list_at + i) ≡ get_or ls i 0
  held i l = ap (λ (k : ℕ). word ws (from + 3 * k + i)) s-is ∙ ready.held.list i (omega (arith, ready.held.as_many)) ∙ ap (λ (xs : List ℕ). get_or xs i 0) (listing_is w steps)

  ls_below : (i : ℕ) → i < many → get_or ls i 0 < s
  ls_below i l = omega (arith, s-is, all_at (λ k. k < statements w) ls 0 (listed_below w ready.b ready.ok) i (omega (arith, many_is)))

  statements_right : StatementsOk ss ready.b s
  statements_right = rw (ss-is, s-is) (statements_ok w ready.b ready.ok)

  pub weigh_ready : WeighReady ss list_at many (from + s) costs_at ws
  weigh_ready =
      record {
        apart = omega (arith, few);
        room = omega (arith, few, room);
        inside = λ i l. omega (arith, held i l, ls_below i l, statements_right.long);
        short = λ i l. rw (held i l) (statements_right.label_most (get_or ls i 0) (ls_below i l));
        used = λ i l. omega (arith, held i l, ls_below i l);
      }

  -- ---- weighed

  module _ (ws₁ : List ℕ) (weighed : Weighed ss list_at many (from + s) costs_at ws ws₁) (long₁ : length ws₁ ≡ length ws) where
    pub ends_in : end ≤ length ws₁
    ends_in = omega (arith, few, room, long₁)

    -- what is lent to be ordered
    abbrev lent : List ℕ
    lent = mid_of costs_at (end - costs_at) ws₁

    lent_long : length lent ≡ many + many + many
    lent_long = part_length costs_at (end - costs_at) ws₁ (omega (arith, ends_in)) ∙ omega arith

    lent_at : (i : ℕ) → i < many + many + many → word lent i ≡ word ws₁ (costs_at + i)
    lent_at i l = part_at costs_at (end - costs_at) ws₁ i 0 (omega arith)

    abbrev costs : List ℕ
    costs = take many lent

    abbrev uses : List ℕ
    uses = part many many lent

    pub costs_are : (i : ℕ) → i < many → get_or costs i 0 ≡ cost_of w ls i
    unfolding cost_of
    costs_are i l =
        get_or-take many lent i 0 l ∙ lent_at i (omega arith) ∙ weighed.costs i l ∙ rw ss-is (ap (λ (k : ℕ). label_length w k + 1) (held i l))

    pub uses_are : (i : ℕ) → i < many → get_or uses i 0 ≡ use_of w steps ls i
    unfolding use_of used others
    uses_are i l =
        part_at many many lent i 0 l
        ∙ lent_at (many + i) (omega arith)
        ∙ ap (word ws₁) (omega arith)
        ∙ weighed.counts i l
        ∙ ap (λ (k : ℕ). word ws (from + s + k)) (held i l)
        ∙ ap (λ (n : ℕ). word ws (from + n + get_or ls i 0)) s-is
        ∙ ready.held.uses (get_or ls i 0) (omega (arith, s-is, ls_below i l))

    costs_long : length costs ≡ many
    costs_long = length-take-le many lent (omega (arith, lent_long))

    cost_fits : (i : ℕ) → i < length costs → (1 ≤ get_or costs i 0) × (get_or costs i 0 ≤ W)
    unfolding cost_of
    cost_fits i l =
        let m : i < many = omega (arith, costs_long) in
        let narrow : ltb (W - 1) (label_length w (get_or ls i 0)) ≡ false = none_at (λ k. ltb (W - 1) (label_length w k)) ls i ready.short (omega (arith, many_is)) in
        (omega (arith, costs_are i m), omega (arith, costs_are i m, ready.begun, nltb→le (W - 1) (label_length w (get_or ls i 0)) (T_of (ap not narrow))))

    cells_for : (s + 1) * (W + 1) ≤ cells
    cells_for = rw s-is ready.cells_enough

    pub fitting : Fitting many W floating lent cells
    fitting =
        record {
          narrow = ready.narrow;
          begun = ready.begun;
          few = omega (arith, few, statements_right.few);
          whole = lent_long;
          costs = all_get_d (λ c. (1 ≤ c) × (c ≤ W)) costs cost_fits;
          room = (let l : (many + 1) * (W + 1) ≤ (s + 1) * (W + 1) = mul-le-mul_right (W + 1) (let m : many + 1 ≤ s + 1 = omega (arith, few) in m) in
              omega (arith, cells_for));
        }

    -- ---- ordered

    module _ (ys : List ℕ) (ordered : part many many ys ≡ index_order costs uses floating W) (kept : length ys ≡ length lent) where
      abbrev ws₂ : List ℕ
      ws₂ = put_mid costs_at (end - costs_at) ws₁ ys

      abbrev indices : List ℕ
      indices = index_order costs uses floating W

      indices_long : length indices ≡ many
      indices_long = sym (ap length ordered) ∙ part_length many many ys (omega (arith, kept, lent_long))

      index_at : (i : ℕ) → i < many → word ws₂ (order_at + i) ≡ get_or indices i 0
      index_at i l =
          ap (word ws₂) (omega arith)
          ∙ put_in costs_at (end - costs_at) ws₁ ys (many + i) (omega (arith, ends_in)) (omega (arith, kept, lent_long))
          ∙ sym (part_at many many ys i 0 l)
          ∙ ap (λ (xs : List ℕ). get_or xs i 0) ordered

      index_below : (i : ℕ) → i < many → get_or indices i 0 < many
      index_below i l =
          omega (arith, costs_long, all_at (λ j. j < length costs) indices 0 (order_below costs uses floating W) i (omega (arith, indices_long)))

      low₂ : (j : ℕ) → j < costs_at → word ws₂ j ≡ word ws j
      low₂ j l = put_low costs_at (end - costs_at) ws₁ ys j (omega (arith, ends_in)) l ∙ weighed.only j (inl l)

      high₂ : (j : ℕ) → end ≤ j → word ws₂ j ≡ word ws j
      high₂ j l = put_high costs_at (end - costs_at) ws₁ ys j (omega (arith, ends_in)) (omega (arith, kept, lent_long)) (omega arith) ∙ weighed.only j (inr (omega arith))

      pub names_ready : length ws₂ ≡ length ws → NamesReady list_at order_at many ws₂
      names_ready long₂ =
          record { apart = omega (arith, few); room = omega (arith, few, room, long₂); inside = λ i l. omega (arith, index_at i l, index_below i l) }

      -- ---- named

      module _ (ws₃ : List ℕ) (named : Named list_at order_at many ws₂ ws₃) (long₃ : length ws₃ ≡ length ws) where
        abbrev labels : List ℕ
        labels = label_list w W steps

        labels_are : labels ≡ map (λ i. get_or ls i 0) indices
        labels_are =
            label_list_lem w W steps costs uses (costs_long ∙ many_is) (λ i l. costs_are i (omega (arith, many_is))) (λ i l. uses_are i (omega (arith, many_is)))
            ∙ ap (λ (f : ℕ). map (λ i. get_or ls i 0) (index_order costs uses f W)) (sym floating-is)

        pub labels_long : many ≡ length labels
        labels_long = sym (ap length labels_are ∙ length-map indices (λ i. get_or ls i 0) ∙ indices_long)

        label_at : (i : ℕ) → i < many → word ws₃ (order_at + i) ≡ get_or labels i 0
        label_at i l =
            named.named i l
            ∙ ap (λ (k : ℕ). word ws₂ (list_at + k)) (index_at i l)
            ∙ low₂ (list_at + get_or indices i 0) (omega (arith, index_below i l, few))
            ∙ held (get_or indices i 0) (index_below i l)
            ∙ sym (ap (λ (xs : List ℕ). get_or xs i 0) labels_are ∙ get_d_map (λ j. get_or ls j 0) indices i (omega (arith, indices_long)))

        label_counts : (k : ℕ) → (count k labels ≤ 1) × (1 ≤ count k labels → 1 ≤ count k (used w steps))
        label_counts k =
            let room : W ≡ W - 1 + 1 = omega (arith, ready.begun) in
            let c = count_labels w (W - 1) steps ready.short k in
            let d : count k labels ≡ count k (label_list w (W - 1 + 1) steps) = ap (λ (v : ℕ). count k (label_list w v steps)) room in
            (omega (arith, c, d), λ h. omega (arith, c, d))

        labels_below : All (λ k. k < s) labels
        labels_below =
            rw labels_are (all_get_d (λ k. k < s) (map (λ i. get_or ls i 0) indices)
            (λ i l.
            let m : i < length indices = omega (arith, length-map indices (λ i. get_or ls i 0)) in
            rw (get_d_map (λ j. get_or ls j 0) indices i m) (ls_below (get_or indices i 0) (index_below i (omega (arith, indices_long))))))

        labels_once : repeats labels ≡ false
        labels_once = not_repeated labels (λ k. (label_counts k).0)

        pub labels_ready : LabelsReady base order_at many s from ws₃
        labels_ready =
            record {
              apart = omega arith;
              room = omega (arith, few, room, long₃);
              few = omega (arith, few, statements_right.few, base-is, list_short w (theorem_ok w ready.b ready.ok));
              list = labels;
              as_many = labels_long;
              holds = λ i l. label_at i (omega (arith, labels_long));
              inside = labels_below;
              once = labels_once;
            }

        -- ---- numbered

        module _ (ws₄ : List ℕ) (numbered : LabelsNumbered base order_at many s from ws₃ ws₄) where
          old_number : (k : ℕ) → k < s → word ws₃ (from + k) ≡ pick (member k (mandatory w)) (place k (mandatory w) + 1) 0
          old_number k l = named.only (from + k) (inl (omega arith)) ∙ low₂ (from + k) (omega arith) ∙ ready.held.numbers k (omega (arith, s-is))

          outside : OnlyIn from (from + 8 * s) ws ws₄
          outside j (inl l) = numbered.only j (inl l) ∙ named.only j (inl (omega arith)) ∙ low₂ j (omega arith)
          outside j (inr l) = numbered.only j (inr (omega arith)) ∙ named.only j (inr (omega (arith, few))) ∙ high₂ j (omega (arith, few))

          pub list_ordered : Ordered w from many W order_at ws ws₄
          list_ordered =
              record {
                list = λ i l. numbered.only (order_at + i) (inr (omega arith)) ∙ label_at i (omega (arith, labels_long));
                as_many = labels_long;
                few = omega (arith, few, s-is);
                ends = omega (arith, few, s-is);
                numbers = λ k l.
                    numbered.number labels labels_long (λ i m. label_at i (omega (arith, labels_long))) labels_below labels_once k (omega (arith, s-is))
                    ∙ ap (λ (n : ℕ). pick (member k labels) (n + place k labels + 1) (word ws₃ (from + k))) base-is
                    ∙ ap (pick (member k labels) (length (mandatory w) + place k labels + 1)) (old_number k (omega (arith, s-is)));
                only = rw s-is at outside;
              }
