-- The words before the packed walk: no marks are given, and each entry's word is its count of parents. They hold a walk with no steps.
-- A count is at most the number of child references, so that it is no mark.
use mathlib.Core.Path.{◌≡◌, refl, sym, ap, ◌∙◌}
use mathlib.Core.List.{List, ◌++◌}
use Prim.Native.Nat.{ℕ, ◌+◌, ◌-◌, ◌≤◌, ◌<◌}
use native.Mathlib.Omega.{arith}
use lib.Dec.{ltb}
use lib.ListN.{length, take, drop, set, length-append, length-replicate, get_or-append}
use lib.Seq.{length-take-le, get_or-append-add, get_or-set_same, get_or-set_other}
use borrow.Rule.Slice.PartMut.{put_mid}
use Rattle.laws.specs.Lists.{get_D_constant}
use Rattle.laws.specs.Sums.{count_most}
use Rattle.defs.specs.Table.{word, max_child_refs}
use Rattle.defs.specs.Graph.{graph_in}
use Rattle.defs.specs.Counts.{parents}
use Rattle.defs.specs.Steps.{flat}
use Rattle.counts.specs.Parents.{times_each, times_length, times_at, within, times_are_parents}
use Rattle.walk.specs.Entries.{size}
use Rattle.walk.specs.Packed.{entry_at, steps_from, Packing, Countable, Counted}

-- the word of an entry, where ys were put after the first word of w
put_after : (w ys : List ℕ) (n v : ℕ) → 1 ≤ length w → (e : ℕ) → e < length ys → word (set (put_mid 1 n w ys) 0 v) (entry_at e) ≡ word ys e
put_after w ys n v some e l =
    let one : length (take 1 w) ≡ 1 = length-take-le 1 w some in
    let at : length (take 1 w) + e ≡ entry_at e = omega arith in
    get_or-set_other (put_mid 1 n w ys) 0 (entry_at e) v 0 (λ z. let y : entry_at e ≡ 0 = z in omega arith)
    ∙ ap (λ (j : ℕ). word (put_mid 1 n w ys) j) (sym at)
    ∙ get_or-append-add (take 1 w) (ys ++ drop n (drop 1 w)) e 0
    ∙ get_or-append ys (drop n (drop 1 w)) 0 e l

module _ (cs w ys : List ℕ) (start : ℕ) (some : 1 ≤ start) (room : start ≤ length w) (is : ys ≡ times_each cs (start - 1)) where
  abbrev words : List ℕ
  words = set (put_mid 1 (start - 1) w ys) 0 0

  own_word : (e : ℕ) → e < start - 1 → word words (entry_at e) ≡ word (times_each cs (start - 1)) e
  own_word e l =
      put_after w ys (start - 1) 0 (omega arith) e (omega (arith, ap length is, times_length cs (start - 1)))
      ∙ ap (λ (l : List ℕ). word l e) is

  pub counted : Counted cs start words
  unfolding Counted flat
  counted es packing at =
      let n : ℕ = size es in
      let last : start - 1 ≡ n = omega (arith, at) in
      let is-parents : parents (graph_in es cs) n ≡ times_each cs (start - 1) = sym (ap (times_each cs) last ∙ times_are_parents es cs n packing.entries.ok packing.filled) in
      let few : length cs ≤ max_child_refs = packing.entries.ok.few_children in
      let most : (e : ℕ) → e < n → word words (entry_at e) ≤ max_child_refs = λ e l. omega (arith, own_word e (omega arith), times_at cs (start - 1) e (omega arith), count_most e cs) in
      record {
        stands = record {
          shared = λ e l. rw is-parents (ap (ltb 1) (sym (own_word e (omega arith))));
          apart = λ e l above. absurd (omega (arith, most e l));
          places = length-replicate n 0;
          marks = λ e l. get_D_constant n e 0 ∙ omega (arith, most e l);
          given_is = get_or-set_same (put_mid 1 (start - 1) w ys) 0 0 0 (rw (length-append (take 1 w) (ys ++ drop (start - 1) (drop 1 w))) (omega (arith, length-take-le 1 w (omega arith))));
          end_is = omega (arith, at);
          steps = refl;
        };
        unmarked = λ e l. omega (arith, most e l);
      }

-- the child lists of entries name entries
pub countable : (es cs : List ℕ) (room : ℕ) → Packing es cs → steps_from (size es) ≤ room → Countable cs (steps_from (size es)) room
countable es cs room packing l =
    let last : steps_from (size es) - 1 ≡ size es = omega arith in
    record { some = omega arith; fits = l; within = rw last (within es cs (size es) packing.entries.ok packing.filled) }
