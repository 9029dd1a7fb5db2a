-- Laws of an entry's place: the tests of its room, the words of an entry appended, and what the two outputs are after each return.
-- Assumes nothing.
use mathlib.Core.Path.{◌≡◌, ap, ◌∙◌}
use mathlib.Core.Bool.{Bool, true, false, ◌||◌}
use mathlib.Core.List.{List, [], ◌∷◌, ◌++◌}
use Prim.Native.Nat.{ℕ, suc, ◌+◌, ◌*◌, ◌/◌, ◌≤◌}
use native.Mathlib.Decide.{dec_lt}
use native.Mathlib.Omega.{arith}
use lib.ListN.{length, take, drop, set, length-append, get_or-append}
use lib.Seq.{length-take-le, take_at, sets, sets-eq, get_or-append-add}
use lib.Dec.{ltb}
use borrow.Author.Tests.{lt-ltb, le-ltb, ltb-false}
use Rattle.laws.specs.Lists.{or_no}
use Rattle.defs.specs.Table.{entry_size, max_entries, max_child_refs}
use Rattle.defs.specs.Replay.{lookup}
use Rattle.store.specs.declared.place.Store.{Store}
use Rattle.std.specs.Prelude.{Option, Some, None}
use Rattle.table.specs.declared.numbers.EntryNo.{EntryNo}
use Rattle.store.proofs.LookupLaws.{entry_found, entry_missing}
use Rattle.store.specs.Store.{holding, BuiltOk, full, entry_below, lookup_most}
use Rattle.store.specs.Places.{Place, place, place_of, StoreOk, Kept, Appended}

-- ---- room

-- where there is room
pub record Roomy (rb rk built kids count : ℕ) : Type 0 where
  pub entries_fit : built + entry_size ≤ rb
  pub children_fit : kids + count ≤ rk
  pub entries_few : built / entry_size + 1 ≤ max_entries
  pub children_few : kids + count ≤ max_child_refs

pub roomy : (rb rk built kids count : ℕ) → full rb rk built kids count ≡ false → Roomy rb rk built kids count
unfolding full
roomy rb rk built kids count h =
    let a : Bool = ltb rb (built + entry_size) in
    let b : Bool = ltb rk (kids + count) in
    let c : Bool = ltb max_entries (built / entry_size + 1) in
    let d : Bool = ltb max_child_refs (kids + count) in
    let p = or_no (a || b || c) d h in
    let q = or_no (a || b) c p.0 in
    let r = or_no a b q.0 in
    record { entries_fit = ltb-false _ _ r.0; children_fit = ltb-false _ _ r.1; entries_few = ltb-false _ _ q.1; children_few = ltb-false _ _ p.1 }

-- ---- one entry more

take_sets : (vs l : List ℕ) (i : ℕ) → i + length vs ≤ length l → take (i + length vs) (sets l i vs) ≡ take i l ++ vs
take_sets vs l i h =
    rw (sets-eq vs l i h)
    (take_at (take i l ++ vs) (drop (i + length vs) l) (i + length vs) (length-append (take i l) vs ∙ ap (λ (n : ℕ). n + length vs) (length-take-le i l (omega arith))))

pub entry_words_lem : (es : List ℕ) (at k kids len : ℕ) → at + entry_size ≤ length es
    → take (at + entry_size) (set (set (set es at k) (at + 1) kids) (at + 2) len) ≡ take at es ++ k ∷ kids ∷ len ∷ []
entry_words_lem es at k kids len h =
    let e1 : at + 1 ≡ suc at = omega arith in
    let e2 : at + 2 ≡ suc (suc at) = omega arith in
    rw (e1, e2) (take_sets (k ∷ kids ∷ len ∷ []) es at h)

-- its children stand inside too
pub more_ok : (built kids wanted : List ℕ) (k n : ℕ) → BuiltOk built kids → length built ≡ entry_size * n → n + 1 ≤ max_entries
    → BuiltOk (built ++ k ∷ length kids ∷ length wanted ∷ []) (kids ++ wanted)
more_ok built kids wanted k n ok whole few =
    let new : List ℕ = k ∷ length kids ∷ length wanted ∷ [] in
    let long : length (built ++ new) ≡ entry_size * n + entry_size = omega (arith, length-append built new) in
    let more : length (kids ++ wanted) ≡ length kids + length wanted = length-append kids wanted in
    record {
      few = omega arith;
      inside = λ e h. elim (dec_lt e n) [
        | yes l ↦
            rw (get_or-append built new 0 (entry_size * e + 1) (omega arith), get_or-append built new 0 (entry_size * e + 2) (omega arith))
            (omega (arith, ok.inside e (omega arith)))
        | no l ↦
            let first : entry_size * e + 1 ≡ length built + 1 = omega arith in
            let second : entry_size * e + 2 ≡ length built + 2 = omega arith in
            rw (first, second, get_or-append-add built new 1 0, get_or-append-add built new 2 0) (omega arith)
      ];
    }

-- ---- the place of an entry, by the returns of the code

pub few_built : (es cs : List ℕ) (s : Store) → StoreOk es cs s → s.built ≤ entry_size * max_entries
few_built es cs s ok = omega (arith, length-take-le s.built es ok.built_room, ok.ok.few)

module _ (es cs : List ℕ) (s : Store) (ok : StoreOk es cs s) (k : ℕ) (wanted : List ℕ) where
  abbrev answer : Place
  answer = place (take s.built es) (take s.kids cs) (length es) (length cs) k wanted

  abbrev searched : ℕ
  searched = lookup (holding (take s.built es) (take s.kids cs)) k wanted

  abbrev found : Option EntryNo
  found = entry_below (length (take s.built es) / entry_size) searched

  built_long : length (take s.built es) ≡ s.built
  built_long = length-take-le s.built es ok.built_room

  kids_long : length (take s.kids cs) ≡ s.kids
  kids_long = length-take-le s.kids cs ok.kids_room

  pub at_found : (e : EntryNo) → Some e ≡ found → (place_of es cs (Some (record { entry = e; store = s })) ≡ answer) × Kept es cs (Some (record { entry = e; store = s }))
  unfolding place place_of Kept
  at_found e is =
      let p = entry_found _ searched e is in
      (rw (p.1, lt-ltb searched (length (take s.built es) / entry_size) p.0), ok)

  module _ (is : None ≡ found) where
    none : s.built / entry_size ≤ searched
    none = rw built_long at (entry_missing (length (take s.built es) / entry_size) searched is)

    pub at_none : full (length es) (length cs) s.built s.kids (length wanted) ≡ true → (place_of es cs None ≡ answer) × Kept es cs None
    unfolding place place_of Kept
    at_none h = (rw (built_long, kids_long, le-ltb searched (s.built / entry_size) none, h), tt)

    module _ (room : full (length es) (length cs) s.built s.kids (length wanted) ≡ false) (es' cs' : List ℕ) (r : Store)
        (more : Appended k wanted es cs s es' cs' r) (same_es : length es' ≡ length es) (same_cs : length cs' ≡ length cs) where
      last : searched ≡ s.built / entry_size
      last = omega (arith, none, lookup_most (take s.built es) (take s.kids cs) k wanted, built_long)

      more_are : BuiltOk (take r.built es') (take r.kids cs')
      more_are =
          let fits = roomy (length es) (length cs) s.built s.kids (length wanted) room in
          rw (more.entries_are, more.children_are)
          (rw kids_long at (more_ok (take s.built es) (take s.kids cs) wanted k (s.built / entry_size) ok.ok (built_long ∙ ok.whole) fits.entries_few))

      pub at_end : (place_of es' cs' (Some (record { entry = record { 0 = s.built / entry_size }; store = r })) ≡ answer)
          × Kept es' cs' (Some (record { entry = record { 0 = s.built / entry_size }; store = r }))
      unfolding place place_of Kept
      at_end =
          let fits = roomy (length es) (length cs) s.built s.kids (length wanted) room in (
            rw (built_long, kids_long, le-ltb searched (s.built / entry_size) none, room, more.entries_are, more.children_are, last),
            record {
              built_room = omega (arith, more.built_is, fits.entries_fit);
              kids_room = omega (arith, more.kids_is, fits.children_fit);
              whole = omega (arith, more.built_is, ok.whole);
              few_kids = omega (arith, more.kids_is, fits.children_few);
              ok = more_are;
            },
          )
