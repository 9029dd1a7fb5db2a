-- Demand 3 says that the three ways agree: on a covered table, with the room that document 01 asks, the verdict is yes.
use Rattle.std.specs.Prelude.{◌≡◌, List, [], ◌∷◌, ℕ, ◌-◌, ◌*◌, ◌/◌, ◌≤◌, length, drop, replicate}
use Rattle.std.proofs.Math.Path.{ap}
use Rattle.std.proofs.Common.{◌∙◌, arith}
use Rattle.std.proofs.Math.Bool.{true, false}
use Rattle.std.proofs.Math.Seq.{take-append_seam}
use borrow.Author.Tests.{le-ltb}
use Rattle.laws.specs.Lists.{same_refl}
use Rattle.defs.specs.Table.{entry_size, entries, child_refs, qed}
use Rattle.defs.specs.Check.{first_of, table_refusal}
use Rattle.defs.specs.Graph.{graph_of}
use Rattle.defs.specs.Steps.{step_size, flat, normal_count, NormalCountLaw}
use Rattle.defs.specs.Layout.{Layout}
use Rattle.defs.specs.Text.{packed_of, normal_of, labels_of, letters_for}
use Rattle.defs.specs.Refusals.{max_normal_steps, bad13, need32, need16}
use Rattle.defs.specs.Outcome.{step_list_words, step_list_number, step_list_outcome, compressed_tests, letters_number, letters_outcome}
use Rattle.defs.specs.OutcomeLaws.{else_good}
use Rattle.defs.specs.Decode.{decode_outcome}
use Rattle.defs.specs.Replay.{replay_outcome}
use Rattle.defs.specs.Laws.{flat_length, normal_count_lem}
use Rattle.lengths.proofs.Bound.{packed_most}
use Rattle.roundtrip.specs.Terms.{Reads, Decodes}
use Rattle.roundtrip.specs.Main.{Covered, RoundTrip}
use Rattle.roundtrip.proofs.Main.{demand3}
use Rattle.verify.specs.Gave.{Gave, gave, gave_one, gave_two}
use Rattle.verify.specs.Verified.{unless, agreeing, read_again, packed_gave, built_gave, packed_way, normal_way, lists_way, letters_gave, decoded_gave, spelled_way, decoded_way, letters_way, Lent, verified}
use Rattle.verify.specs.declared.verdict.Stage.{Stage}
use Rattle.verify.specs.declared.verdict.Stage.TheVariants.{NormalRead, LettersRead}
use Rattle.verify.specs.declared.verdict.Verdict.TheVariants.{Agree}

-- the room that document 01 asks: of the writers and of the replay (twice the steps), and outputs that what is written fits
pub record Enough (w : List ℕ) (l : Layout) (m : Lent) : Type 0 where
  pub work_words : need32 w ≤ length m.work
  pub twice_steps : 2 * normal_count (graph_of w) (qed w) ≤ length m.work
  pub sums_words : need16 w l ≤ length m.sums
  pub packed_room : length (flat (packed_of w false)) ≤ length m.packed
  pub normal_room : length (flat (normal_of w false)) ≤ length m.steps
  pub decoded_room : length (flat (packed_of w false)) ≤ length m.steps
  pub list_room : length (labels_of w l) ≤ length m.list
  pub letters_room : length (letters_for w l) ≤ length m.letters
  pub built_room : entry_size * entries w ≤ length m.built
  pub kids_room : child_refs w ≤ length m.kids
  pub entries_room : entry_size * entries w ≤ length m.entries
  pub children_room : child_refs w ≤ length m.children

-- ---- what an operation gives where nothing is refused

reads_give : (w b words built kids work entries' children' : List ℕ) → Reads w b words built kids
    → 2 * (length words / step_size) ≤ length work → entry_size * entries w ≤ length entries' → child_refs w ≤ length children'
    → gave (replay_outcome w b words work entries' children') ≡ record { number = 0; first = built; second = kids }
unfolding Reads gave
reads_give w b words built kids work entries' children' reads h₁ h₂ h₃ =
    rw (
      reads work entries' children' h₁ h₂ h₃,
      take-append_seam built (replicate (length entries' - length built) 0),
      take-append_seam kids (replicate (length children' - length kids) 0),
    )

again_agrees : (stage : Stage) (w b words built kids work entries' children' : List ℕ) → Reads w b words built kids
    → 2 * (length words / step_size) ≤ length work → entry_size * entries w ≤ length entries' → child_refs w ≤ length children'
    → read_again stage w b words built kids work entries' children' ≡ Agree
unfolding read_again unless
again_agrees stage w b words built kids work entries' children' reads h₁ h₂ h₃ =
    rw (reads_give w b words built kids work entries' children' reads h₁ h₂ h₃, same_refl built, same_refl kids)

module _ (w b : List ℕ) (l : Layout) (m : Lent) (covered : Covered w b l) (room : Enough w l m) where
  abbrev ok : table_refusal w b ≡ 0
  ok = covered.good

  abbrev trip : RoundTrip w b l
  trip = demand3 w b l covered

  abbrev packed : List ℕ
  packed = flat (packed_of w false)

  abbrev normal : List ℕ
  normal = flat (normal_of w false)

  packed_twice : 2 * (length packed / step_size) ≤ length m.work
  unfolding need32
  packed_twice = omega (arith, room.work_words, flat_length (packed_of w false), packed_most w b ok false)

  normal_twice : 2 * (length normal / step_size) ≤ length m.work
  unfolding normal_of NormalCountLaw
  normal_twice = omega (arith, room.twice_steps, flat_length (normal_of w false), normal_count_lem (graph_of w) (qed w) false)

  packed_gives : packed_gave w b m.work m.packed ≡ record { number = 0; first = packed; second = [] }
  unfolding step_list_outcome step_list_number step_list_words first_of
  packed_gives =
      let fine : step_list_number w b true false m.work m.packed ≡ 0 =
      else_good (table_refusal w b) _ ok ∙ rw (le-ltb (length m.work) (need32 w) room.work_words, le-ltb (length m.packed) (length packed) room.packed_room) in
      gave_one (step_list_number w b true false m.work m.packed) packed (m.work ∷ []) m.packed ∙ rw fine

  normal_gives : gave (step_list_outcome w b false false m.work m.steps) ≡ record { number = 0; first = normal; second = [] }
  unfolding step_list_outcome step_list_number step_list_words first_of bad13
  normal_gives =
      let fine : step_list_number w b false false m.work m.steps ≡ 0 =
      else_good (table_refusal w b) _ ok
      ∙ rw (le-ltb (length m.work) (need32 w) room.work_words, le-ltb max_normal_steps (normal_count (graph_of w) (qed w)) covered.short, le-ltb (length m.steps) (length normal) room.normal_room) in
      gave_one (step_list_number w b false false m.work m.steps) normal (m.work ∷ []) m.steps ∙ rw fine

  letters_give : letters_gave w b l m.work m.sums m.list m.letters ≡ record { number = 0; first = labels_of w l; second = letters_for w l }
  unfolding letters_outcome letters_number compressed_tests first_of
  letters_give =
      let fine : letters_number w b l m.work m.sums m.list m.letters ≡ 0 =
      else_good (table_refusal w b) _ ok
      ∙ rw (
        covered.layout,
        le-ltb (length m.work) (need32 w) room.work_words,
        le-ltb (length m.sums) (need16 w l) room.sums_words,
        covered.unmixed,
        covered.no_stray,
        covered.labels_fit,
        le-ltb (length m.list) (length (labels_of w l)) room.list_room,
        le-ltb (length m.letters) (length (letters_for w l)) room.letters_room,
      ) in
      gave_two (letters_number w b l m.work m.sums m.list m.letters) (labels_of w l) (letters_for w l) (m.work ∷ m.sums ∷ []) m.list m.letters ∙ rw fine

  decoded_gives : decoded_gave w b l m.work m.sums m.list m.letters m.steps ≡ record { number = 0; first = packed; second = [] }
  unfolding gave Decodes
  decoded_gives =
      ap (λ (g : Gave). gave (decode_outcome w b g.first g.second m.steps)) letters_give
      ∙ rw (trip.letters_decode m.steps room.decoded_room, take-append_seam packed (drop (length packed) m.steps))

  built_gives : built_gave w b m.work m.packed m.built m.kids ≡ record { number = 0; first = trip.built; second = trip.kids }
  built_gives =
      ap (λ (g : Gave). gave (replay_outcome w b g.first m.work m.built m.kids)) packed_gives
      ∙ reads_give w b packed trip.built trip.kids m.work m.built m.kids trip.packed_read packed_twice room.built_room room.kids_room

  normal_agrees : normal_way w b trip.built trip.kids m.work m.steps m.entries m.children ≡ Agree
  unfolding normal_way unless
  normal_agrees =
      rw normal_gives
      (again_agrees NormalRead w b normal trip.built trip.kids m.work m.entries m.children trip.normal_read normal_twice room.entries_room room.children_room)

  letters_agree : letters_way w b l packed trip.built trip.kids m.work m.sums m.steps m.list m.letters m.entries m.children ≡ Agree
  unfolding letters_way spelled_way decoded_way unless
  letters_agree =
      rw (decoded_gives, letters_give, same_refl packed)
      (again_agrees LettersRead w b packed trip.built trip.kids m.work m.entries m.children trip.packed_read packed_twice room.entries_room room.children_room)

  -- the verdict is yes
  pub covered_agrees : verified w b l m ≡ Agree
  unfolding verified lists_way packed_way unless agreeing
  covered_agrees = rw (built_gives, packed_gives, normal_agrees) letters_agree
