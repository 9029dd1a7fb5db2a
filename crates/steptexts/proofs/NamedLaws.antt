-- The packed list of a table with the names of its marks behind it: there is room for both in the words asked for, and the names are put
-- where no step stands.
use mathlib.Core.Path.{◌≡◌, sym, ap, ◌∙◌}
use mathlib.Core.Bool.{Bool}
use mathlib.Core.List.{List, ◌++◌}
use Prim.Native.Nat.{ℕ, ◌+◌, ◌*◌, ◌-◌, ◌/◌, ◌≤◌, ◌<◌}
use native.Mathlib.Omega.{arith}
use borrow.Rule.Slice.PartMut.{put_mid, mid_of, same_len_mid, mid_len}
use lib.ListN.{length, take, drop, get_or-append}
use lib.Seq.{ext_get_or, length-take-le, get_or-append-add, get_or-take}
use Rattle.laws.specs.Tools.{part}
use Rattle.laws.specs.Lists.{part_at, part_length}
use Rattle.defs.specs.Table.{word, max_entries, statements, entries, qed, statement_words, entry_words, child_words}
use Rattle.defs.specs.Check.{table_refusal}
use Rattle.defs.specs.Checked.{header}
use Rattle.defs.specs.Laws.{good, flat_length}
use Rattle.defs.specs.Refusals.{need32}
use Rattle.defs.specs.Steps.{step_size, flat}
use Rattle.defs.specs.Text.{packed_of}
use Rattle.defs.specs.Sections.{StatementsOk}
use Rattle.lengths.proofs.Bound.{packed_most}
use Rattle.names.specs.Taken.{statements_in}
use Rattle.names.specs.Named.{names_length, NamesLeft}
use Rattle.names.specs.OfTables.{statements_in_lem, section_ok}
use Rattle.walk.specs.Packed.{held, Packable, Packed}
use Rattle.walk.specs.Tables.{entries_size, packable, packed_says}
use Rattle.steptexts.specs.Texts.{PackedReady}

-- what stands before a part that came back is as it was, and what stands in it is what came back
before_part : (xs ys : List ℕ) (at k i : ℕ) → at ≤ length xs → i < at → word (put_mid at k xs ys) i ≡ word xs i
before_part xs ys at k i h l =
    get_or-append (take at xs) _ 0 i (rw (length-take-le at xs h) l) ∙ get_or-take at xs i 0 l

in_part : (xs ys : List ℕ) (at k i : ℕ) → at ≤ length xs → i < length ys → word (put_mid at k xs ys) (at + i) ≡ word ys i
in_part xs ys at k i h l =
    let e : at + i ≡ length (take at xs) + i = omega (arith, length-take-le at xs h) in
    rw e (get_or-append-add (take at xs) (ys ++ drop k (drop at xs)) i 0 ∙ get_or-append ys (drop k (drop at xs)) 0 i l)

same_part : (xs ys : List ℕ) (start len : ℕ) → start + len ≤ length xs → length ys ≡ length xs → ((i : ℕ) → i < start + len → word ys i ≡ word xs i)
    → part start len ys ≡ part start len xs
same_part xs ys start len h e same =
    let l : length (part start len ys) ≡ len = part_length start len ys (omega arith) in
    ext_get_or 0 (part start len ys) (part start len xs) (l ∙ sym (part_length start len xs h))
    (λ i m. (let k : i < len = rw l at m in part_at start len ys i 0 k ∙ same (start + i) (omega arith) ∙ sym (part_at start len xs i 0 k)))

module _ (w b : List ℕ) (ok : table_refusal w b ≡ 0) {explicit : Bool} {q : ℕ} (is-qed : q ≡ qed w) where
  -- the words asked for are enough for the walk
  pub may_pack : {room : ℕ} → need32 w ≤ room → Packable (entry_words w) (child_words w) explicit q room
  unfolding need32
  may_pack {room} enough = rw is-qed (packable w b ok explicit room (omega arith))

  module _ {ws : List ℕ} {end : ℕ} (p : Packed (entry_words w) (child_words w) explicit q (held ws end)) (enough : need32 w ≤ length ws) where
    packed : Packed (entry_words w) (child_words w) explicit (qed w) (held ws end)
    packed = rw is-qed at p

    long : length (flat (packed_of w explicit)) ≡ step_size * length (packed_of w explicit)
    long = flat_length (packed_of w explicit)

    pub end_is : end ≡ entries w + 1 + step_size * length (packed_of w explicit)
    end_is = rw (packed_says w b ok explicit, entries_size w b ok) at packed.end_is ∙ omega (arith, long)

    holds : part (entries w + 1) (step_size * length (packed_of w explicit)) ws ≡ flat (packed_of w explicit)
    holds = rw (packed_says w b ok explicit, entries_size w b ok, long) at packed.steps

    -- there is room behind it for the names
    pub names_room : end + (entries w + statements w + 1) ≤ length ws
    unfolding need32
    names_room = omega (arith, end_is, packed_most w b ok explicit, enough)

    module _ {ss : List ℕ} (ss-is : ss ≡ statement_words w) {count : ℕ} (count-is : count ≡ entries w) where
      -- what the naming asks for
      pub may_name : StatementsOk ss b (statements_in ss) × ((count ≤ max_entries) × (names_length ss count ≤ length (mid_of end (length ws - end) ws)))
      may_name =
          rw (ss-is, count-is) (
            section_ok w b ok,
            ((header w (good w b ok).ok1).n_most, omega (arith, names_room, statements_in_lem w b ok, mid_len end (length ws) ws (omega arith))),
          )

      -- and then all is there
      pub ready : {ys : List ℕ} → NamesLeft ss b count (mid_of end (length ws - end) ws) ys → length ys ≡ length (mid_of end (length ws - end) ws)
          → (steps : ℕ) → steps ≡ count + 1 → PackedReady w b explicit steps ((end - steps) / step_size) end (put_mid end (length ws - end) ws ys)
      ready {ys} left kept steps steps_is =
          let ws' : List ℕ = put_mid end (length ws - end) ws ys in
          let same : length ws' ≡ length ws = same_len_mid end (length ws - end) ws ys kept in
          let from : steps ≡ entries w + 1 = steps_is ∙ ap (λ (n : ℕ). n + 1) count-is in
          let many : (end - steps) / step_size ≡ length (packed_of w explicit) = omega (arith, end_is) in
          let room : length ys ≡ length ws - end = kept ∙ mid_len end (length ws) ws (omega (arith, names_room)) in
          record {
            ok = ok;
            as_many = many;
            inside = omega (arith, end_is, many, names_room, same);
            holds = rw (many, from)
                (same_part ws ws' (entries w + 1) (step_size * length (packed_of w explicit)) (omega (arith, end_is, names_room)) same
                (λ i l. before_part ws ys end (length ws - end) i (omega (arith, names_room)) (omega (arith, end_is)))
                ∙ holds);
            names_in = omega (arith, names_room, same);
            named = λ m some most.
                in_part ws ys end (length ws - end) m (omega (arith, names_room)) (omega (arith, room, names_room))
                ∙ rw (ss-is, statements_in_lem w b ok) at (left.named m some (omega (arith, count-is)));
          }
