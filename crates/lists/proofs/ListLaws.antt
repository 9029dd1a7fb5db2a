-- The lists that the walks leave are the table's.
-- Assumes nothing.
use mathlib.Core.Path.{◌≡◌, refl, sym, ap, ap₂, ◌∙◌}
use mathlib.Core.Bool.{Bool, true, false}
use mathlib.Core.List.{List, [], ◌∷◌, ◌++◌, append-nil, append_assoc}
use Prim.Native.Nat.{ℕ, ◌+◌, ◌*◌, ◌-◌, ◌≤◌, ◌<◌}
use native.Mathlib.Omega.{arith}
use lib.ListN.{length, drop, length-append}
use borrow.Author.Tests.{lt-ltb, le-ltb}
use lib.Seq.{take-append_seam, drop-append-add, drop-drop}
use Rattle.laws.specs.Tools.{part, over}
use Rattle.defs.specs.Table.{entries, qed, entry_words, child_words}
use Rattle.defs.specs.Check.{table_refusal}
use Rattle.defs.specs.Graph.{graph_in, graph_of}
use Rattle.defs.specs.Refusals.{need32, max_normal_steps, bad13}
use Rattle.defs.specs.Sections.{EntriesOk, entries_ok}
use Rattle.defs.specs.Checked.{qed_below}
use Rattle.defs.specs.Steps.{Step, step_size, step_words, flat, normal_steps, NormalCountLaw}
use Rattle.defs.specs.Text.{packed_of, normal_of}
use Rattle.defs.specs.Outcome.{step_list_words}
use Rattle.defs.specs.Laws.{flat_length, flat_append, normal_count_lem}
use Rattle.lengths.proofs.Bound.{packed_most}
use Rattle.counts.specs.Sizes.{capped_size, size_is_13, size_is_count}
use Rattle.walk.specs.Entries.{size, Entries, entries_of}
use Rattle.walk.specs.Hyps.{parent_of, index_of}
use Rattle.walk.specs.Steps.{step, with_step}
use Rattle.walk.specs.Normal.{pair_size, Stacked, left, Stepped}
use Rattle.walk.specs.Packed.{Held, Packable, Packed}
use Rattle.walk.specs.declared.hyps.ParentHyp.{ParentHyp}
use Rattle.walk.specs.Tables.{entries_size, qed_inside, packable, packed_says, normal_says}

-- ---- the packed list

-- it stands in the words from start up to end, and no further than the words asked for
pub record Stored (w : List ℕ) (explicit : Bool) (start : ℕ) (h : Held) : Type 0 where
  pub begins : start ≤ h.end
  pub ends : h.end ≤ need32 w
  pub long : h.end - start ≡ length (step_list_words w true explicit)
  pub front : part start (h.end - start) h.words ≡ step_list_words w true explicit

module _ (w b : List ℕ) (ok : table_refusal w b ≡ 0) (explicit : Bool) (q : ℕ) (is-qed : q ≡ qed w) where
  -- the sections of the table, with the words asked for
  pub may_pack : (room : ℕ) → need32 w ≤ room → Packable (entry_words w) (child_words w) explicit q room
  unfolding need32
  may_pack room enough = rw is-qed (packable w b ok explicit room (omega arith))

  pub stored : (start : ℕ) → start ≡ entries w + 1 → (h : Held) → Packed (entry_words w) (child_words w) explicit q h → Stored w explicit start h
  unfolding step_list_words need32
  stored start is h packed =
      let p : Packed (entry_words w) (child_words w) explicit (qed w) h = rw is-qed at packed in
      let n = entries_size w b ok in
      let list = packed_says w b ok explicit in
      let long : length (flat (packed_of w explicit)) ≡ h.end - start = omega (arith, rw (list, n) at p.end_is) in
      record {
        begins = omega (arith, rw (list, n) at p.end_is);
        ends = omega (arith, rw (list, n) at p.end_is, flat_length (packed_of w explicit), packed_most w b ok explicit);
        long = sym long;
        front = rw (← long, is) (rw (list, n) at p.steps);
      }

-- copied to the front of the output
pub copied : (len : ℕ) (source out steps : List ℕ) → source ≡ steps → len ≡ length steps → source ++ drop len out ≡ over steps out
copied len source out steps is long = rw (is, long)

-- ---- the normal list, step by step

-- of all the steps those in `done` stand at the front of the output, and the rest is left to come
pub record Listing (es cs : List ℕ) (explicit : Bool) (all : List Step) (stack : List ℕ) (depth at : ℕ) (out₀ out : List ℕ) : Type 0 where
  pub done : List Step
  pub rest : all ≡ done ++ left es cs explicit stack depth
  pub at_is : at ≡ length (flat done)
  pub out_is : out ≡ over (flat done) out₀
  pub stacked : Stacked es stack depth

-- a step more at the end of a list of steps
flat_snoc : (ts : List Step) (t : Step) → flat (ts ++ (t ∷ [])) ≡ flat ts ++ step_words t
unfolding flat
flat_snoc ts t = flat_append ts (t ∷ []) ∙ ap (λ (l : List ℕ). flat ts ++ l) (append-nil (step_words t))

put_more : (ts : List Step) (t : Step) (at : ℕ) (out₀ : List ℕ) → at ≡ length (flat ts) → with_step (over (flat ts) out₀) at t ≡ over (flat (ts ++ (t ∷ []))) out₀
unfolding with_step step_words
put_more ts t at out₀ is =
    let front : List ℕ = flat ts in
    let five : length (flat (ts ++ (t ∷ []))) ≡ length front + step_size = ap length (flat_snoc ts t) ∙ length-append front (step_words t) in
    rw (is, five, flat_snoc ts t)
    (ap₂ (λ (a b : List ℕ). a ++ step_words t ++ b)
    (take-append_seam front (drop (length front) out₀))
    (drop-append-add front (drop (length front) out₀) step_size ∙ drop-drop step_size (length front) out₀))

module _ (es cs : List ℕ) (explicit : Bool) (all : List Step) (stack : List ℕ) (depth at : ℕ) (out₀ out : List ℕ) (listing : Listing es cs explicit all stack depth at out₀ out) where
  -- the next step is taken
  module _ (stack' : List ℕ) (statement : ℕ) (hyp : ParentHyp) (depth' : ℕ) (stepped : Stepped es cs explicit (left es cs explicit stack depth) stack' statement hyp depth') where
    abbrev next : Step
    next = step 0 0 statement (parent_of hyp) (index_of hyp)

    more : all ≡ (listing.done ++ (next ∷ [])) ++ left es cs explicit stack' depth'
    more = listing.rest ∙ ap (λ (l : List Step). listing.done ++ l) stepped.taken ∙ sym (append_assoc listing.done (next ∷ []) (left es cs explicit stack' depth'))

    next_end : length (flat (listing.done ++ (next ∷ []))) ≡ at + step_size
    unfolding step_words
    next_end = omega (arith, ap length (flat_snoc listing.done next), length-append (flat listing.done) (step_words next), listing.at_is)

    -- it has room where all have
    pub fits : at + step_size ≤ length (flat all)
    fits =
        omega (
          arith,
          next_end,
          ap (λ (l : List Step). length (flat l)) more,
          ap length (flat_append (listing.done ++ (next ∷ [])) (left es cs explicit stack' depth')),
          length-append (flat (listing.done ++ (next ∷ []))) (flat (left es cs explicit stack' depth')),
        )

    pub listed_more : (out' : List ℕ) → out' ≡ with_step out at next → Listing es cs explicit all stack' depth' (at + step_size) out₀ out'
    listed_more out' is =
        record {
          done = listing.done ++ (next ∷ []);
          rest = more;
          at_is = sym next_end;
          out_is = is ∙ ap (λ (l : List ℕ). with_step l at next) listing.out_is ∙ put_more listing.done next at out₀ listing.at_is;
          stacked = stepped.stacked;
        }

  -- no step is left
  pub all_listed : left es cs explicit stack depth ≡ [] → out ≡ over (flat all) out₀
  all_listed none =
      let whole : all ≡ listing.done = listing.rest ∙ ap (λ (l : List Step). listing.done ++ l) none ∙ append-nil listing.done in
      rw whole listing.out_is

-- none is listed yet
pub begin_listing : (es cs : List ℕ) (explicit : Bool) (stack out : List ℕ) → Stacked es stack 1 → Listing es cs explicit (left es cs explicit stack 1) stack 1 0 out out
unfolding flat
begin_listing es cs explicit stack out st = record { done = []; rest = refl; at_is = refl; out_is = refl; stacked = st }

-- ---- the normal list of a table

module _ (w b : List ℕ) (ok : table_refusal w b ≡ 0) (es cs : List ℕ) (q : ℕ) (entries_are : es ≡ entry_words w) (children_are : cs ≡ child_words w) (is-qed : q ≡ qed w) where
  -- the sections of the table, with the words asked for: the counts have room there, and then the stack
  pub may_count : (n room : ℕ) → n ≡ entries w → need32 w ≤ room → EntriesOk es cs n × ((q < n) × (n ≤ room))
  unfolding need32
  may_count n room is enough = rw (entries_are, children_are, is-qed, is) (entries_ok w b ok, (qed_below w b ok, omega arith))

  pub may_list : (room : ℕ) → need32 w ≤ room → Entries es cs × ((q < size es) × (pair_size * size es ≤ room))
  unfolding need32
  may_list room enough =
      rw (entries_are, children_are, is-qed) (entries_of w b ok, (qed_inside w b ok, omega (arith, entries_size w b ok)))

  -- the list from QED is the table's
  pub list_is : (explicit : Bool) → flat (normal_steps (graph_in es cs) q explicit) ≡ step_list_words w false explicit
  unfolding step_list_words
  list_is explicit = rw (entries_are, children_are, is-qed) (ap flat (normal_says w b ok explicit))

  module _ (steps : ℕ) (counted : steps ≡ capped_size (graph_in es cs) q) where
    size_is : steps ≡ capped_size (graph_of w) (qed w)
    unfolding graph_of
    size_is = rw (entries_are, children_are, is-qed) at counted

    -- what test 13 says
    pub are_many : max_normal_steps < steps → bad13 w ≡ true
    are_many l = sym (size_is_13 w steps size_is) ∙ lt-ltb max_normal_steps steps l

    pub are_few : steps ≤ max_normal_steps → bad13 w ≡ false
    are_few l = sym (size_is_13 w steps size_is) ∙ le-ltb max_normal_steps steps l

    -- and how long the list is where there are not too many
    pub list_long : (explicit : Bool) → steps ≤ max_normal_steps → length (step_list_words w false explicit) ≡ step_size * steps
    unfolding step_list_words normal_of NormalCountLaw
    list_long explicit l =
        omega (arith, flat_length (normal_of w explicit), normal_count_lem (graph_of w) (qed w) explicit, size_is_count w steps size_is (are_few l))
