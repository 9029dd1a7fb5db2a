-- The loop over the children of an entry, as both functions of the packed walk have it: what it keeps, and that a turn keeps it.
-- It keeps no entry, so what it keeps is said of each entry that could own it: the words hold that walk after the first k children.
use mathlib.Core.Path.{◌≡◌, refl, ap, ◌∙◌}
use mathlib.Core.Bool.{Bool}
use mathlib.Core.List.{List}
use Prim.Native.Nat.{ℕ, ◌+◌, ◌*◌, ◌-◌, ◌<◌, ◌≤◌}
use native.Mathlib.Omega.{arith}
use lib.ListN.{length}
use lib.Dec.{ltb}
use Rattle.defs.specs.Table.{word, max_word, max_child_refs, entry_stmt_in, child_start_in, child_count_in, entry_words, child_words}
use Rattle.defs.specs.Checked.{HeaderOk}
use Rattle.defs.specs.Steps.{parent_word, index_word}
use Rattle.walk.specs.Marks.{counts_below, marked}
use Rattle.walk.specs.Packed.{Held, entry_at, single, finishes, Room, Visitable, Ready, Listed, ListedAll, Visited}
use Rattle.walk.specs.Children.{EntryOf, ChildrenOf}
use Rattle.walk.proofs.StepLaws.{index_next, index_most}
use Rattle.packing.proofs.PackedLaws.{Child, no_children, child_visitable, next_child, room_last, visited_new, room_single, visited_single}

-- a ready entry is one of its table
pub entry_of : (w : List ℕ) (explicit : Bool) (e : ℕ) (h : Held) → HeaderOk w → Ready (entry_words w) (child_words w) explicit e h → EntryOf w e
entry_of w explicit e h header ready = record { header = header; entries = ready.visitable.entries; inside = ready.visitable.inside }

-- an entry whose children the loop lists: it is ready, and its children are what was read before the loop
pub record Owner (w : List ℕ) (explicit : Bool) (h₀ : Held) (first until parent e : ℕ) : Type 0 where
  pub ready : Ready (entry_words w) (child_words w) explicit e h₀
  pub children : ChildrenOf w explicit e first until parent

-- what the loop keeps, at its child i
pub record Kept (w : List ℕ) (explicit : Bool) (h₀ : Held) (first until parent : ℕ) (h : Held) (i index : ℕ) : Type 0 where
  pub low : first ≤ i
  pub high : i ≤ until
  pub index_is : index ≡ index_word explicit (i - first)
  pub same : length h.words ≡ length h₀.words
  pub listed : (e : ℕ) → Owner w explicit h₀ first until parent e → Listed (entry_words w) (child_words w) explicit e (i - first) h₀ h

module _ (w : List ℕ) (explicit : Bool) (h₀ : Held) (first until parent : ℕ) where
  -- before its first turn
  pub kept_first : first ≤ until → (index : ℕ) → index ≡ 0 → Kept w explicit h₀ first until parent h₀ first index
  kept_first some index zero =
      let none : first - first ≡ 0 = omega arith in
      record {
        low = omega arith;
        high = some;
        index_is = omega (arith, zero, index_most explicit (first - first));
        same = refl;
        listed = λ e o. rw none (no_children _ _ _ _ _);
      }

  module _ (h : Held) (i index : ℕ) (kept : Kept w explicit h₀ first until parent h i index) where
    abbrev place : ℕ
    place = i - first

    -- after its last
    pub all_listed : until ≤ i → (e : ℕ) → Owner w explicit h₀ first until parent e → ListedAll w explicit e h₀ h
    all_listed done e o =
        let all : place ≡ child_count_in (entry_words w) e = omega (arith, o.children.until_is, kept) in
        rw all at (kept.listed e o)

    module _ (more : i < until) (e : ℕ) (own : Owner w explicit h₀ first until parent e) where
      -- its child stands in the child section, which is not long
      pub in_section : (i < length (child_words w)) × (length (child_words w) ≤ max_child_refs)
      in_section =
          let v = own.ready.visitable in
          (omega (arith, own.children.first_is, own.children.until_is, v.entries.ok.inside e v.inside), v.entries.ok.few_children)

      pub index_fits : index < max_word
      index_fits = omega (arith, kept, index_most explicit place, in_section)

      module _ (c : ℕ) (c-is : c ≡ word (child_words w) i) where
        child_of : (d : ℕ) → Owner w explicit h₀ first until parent d → Child (entry_words w) (child_words w) d place c
        child_of d o =
            let at : i ≡ child_start_in (entry_words w) d + place = omega (arith, o.children.first_is, kept) in
            record { more = omega (arith, o.children.until_is, kept); child_is = c-is ∙ ap (word (child_words w)) at }

        -- it can be visited, as a child of any owner
        visitable : (d : ℕ) → Owner w explicit h₀ first until parent d
            → Visitable (entry_words w) (child_words w) explicit c (parent_word explicit (entry_stmt_in (entry_words w) d)) (index_word explicit place) h
        visitable d o = child_visitable _ _ _ _ _ _ _ o.ready.visitable o.ready.new place h kept.same (kept.listed d o) _ (child_of d o)

        pub child_entry : HeaderOk w → EntryOf w c
        child_entry header = record { header = header; entries = (visitable e own).entries; inside = (visitable e own).inside }

        pub word_in : entry_at c < length h.words
        word_in = omega (arith, (visitable e own).inside, (visitable e own).long)

        -- it lies below its parent
        pub below : c < e
        below =
            let v = own.ready.visitable in
            omega (arith, (child_of e own).child_is, v.entries.ok.below e place v.inside (child_of e own).more)

        -- its visit is one child more
        one_more : (h' : Held) → length h'.words ≡ length h₀.words → (index' : ℕ) → index' ≡ index + index_word explicit 1
            → ((d : ℕ) → Owner w explicit h₀ first until parent d → Visited (entry_words w) (child_words w) explicit c (parent_word explicit (entry_stmt_in (entry_words w) d)) (index_word explicit place) h h')
            → Kept w explicit h₀ first until parent h' (i + 1) index'
        one_more h' same index' next visited =
            let turn : i + 1 - first ≡ place + 1 = omega (arith, kept.low) in
            record {
              low = omega (arith, kept.low);
              high = omega (arith, more);
              index_is = rw turn (next ∙ ap (λ (k : ℕ). k + index_word explicit 1) kept.index_is ∙ index_next explicit place);
              same = same;
              listed = λ d o. rw turn (next_child _ _ _ _ _ _ _ o.ready.visitable o.ready.new place h kept.same (kept.listed d o) _ (child_of d o) h' (visited d o));
            }

        -- an entry that lists its children first has some and no mark yet
        module _ (less : word h.words (entry_at c) < counts_below * child_count_in (entry_words w) c) where
          unmarked : word h.words (entry_at c) ≤ marked
          unmarked =
              let v = visitable e own in
              omega (arith, less, v.entries.ok.inside c v.inside, v.entries.ok.few_children)

          pub child_ready : Ready (entry_words w) (child_words w) explicit c h
          child_ready = record { parent = _; index = _; visitable = visitable e own; new = unmarked }

          module _ (h₁ : Held) (kept₁ : length h₁.words ≡ length h.words) (all : ListedAll w explicit c h h₁) where
            pub child_room : Room c h₁
            child_room = room_last _ _ _ _ _ _ _ (visitable e own) unmarked _ _ kept₁ all refl

            pub turn_new : (h₂ : Held) → length h₂.words ≡ length h₁.words → (statement : ℕ) → statement ≡ entry_stmt_in (entry_words w) c
                → h₂ ≡ finishes (ltb 1 (word h₁.words (entry_at c))) c statement parent index h₁
                → (index' : ℕ) → index' ≡ index + index_word explicit 1 → Kept w explicit h₀ first until parent h₂ (i + 1) index'
            turn_new h₂ kept₂ statement is end index' next =
                one_more h₂ (kept₂ ∙ kept₁ ∙ kept.same) index' next λ d o.
                visited_new _ _ _ _ _ _ _ (visitable d o) unmarked _ _ kept₁ all refl (omega (arith, less)) _ _ _ _ is o.children.parent_is kept.index_is end

        -- any other is one step
        module _ (once : counts_below * child_count_in (entry_words w) c ≤ word h.words (entry_at c)) where
          pub single_room : Room c h
          single_room = room_single _ _ _ _ _ _ _ (visitable e own) once

          pub turn_single : (h₂ : Held) → length h₂.words ≡ length h.words → (statement : ℕ) → statement ≡ entry_stmt_in (entry_words w) c
              → h₂ ≡ single c statement parent index h
              → (index' : ℕ) → index' ≡ index + index_word explicit 1 → Kept w explicit h₀ first until parent h₂ (i + 1) index'
          turn_single h₂ kept₂ statement is end index' next =
              one_more h₂ (kept₂ ∙ kept.same) index' next λ d o.
              visited_single _ _ _ _ _ _ _ (visitable d o) once _ _ _ _ is o.children.parent_is kept.index_is end
