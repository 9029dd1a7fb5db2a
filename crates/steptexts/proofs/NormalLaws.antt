-- The normal text of a table: of all the steps to come some are laid and the others are left in the stack. A turn takes the next.
-- A list that test 13 lets pass has at most 1,000,000 steps, so nothing wraps.
use mathlib.Core.Path.{◌≡◌, refl, sym, ap, ◌∙◌, subst}
use Rattle.std.specs.Prelude.{Option, None}
use mathlib.Core.Bool.{Bool}
use mathlib.Core.List.{List, [], ◌∷◌, ◌++◌, append-nil, append_assoc}
use Prim.Native.Nat.{ℕ, ◌+◌, ◌*◌, ◌≤◌, ◌<◌}
use native.Mathlib.Omega.{arith}
use lib.ListN.{length, length-append}
use borrow.Author.Tests.{ltb-false}
use Rattle.laws.specs.Lists.{All, all_split}
use Rattle.laws.specs.Puts.{farthest}
use Rattle.defs.specs.Table.{qed}
use Rattle.defs.specs.Graph.{graph_of}
use Rattle.defs.specs.Layout.{Layout, begin, put_word}
use Rattle.defs.specs.Refusals.{max_normal_steps, bad13}
use Rattle.defs.specs.Steps.{Step, normal_count, NormalCountLaw}
use Rattle.defs.specs.Laws.{normal_count_lem}
use Rattle.defs.specs.Text.{normal_of, end_word, steps_text}
use Rattle.layout.specs.declared.lines.Line.{Line as End}
use Rattle.layout.specs.Laid.{Wrote, Lays, most_before}
use Rattle.table.specs.Records.{StatementIn}
use Rattle.walk.specs.Entries.{size, Entries, entries_of}
use Rattle.walk.specs.Hyps.{parent_of, index_of}
use Rattle.walk.specs.Normal.{pair_size, Stacked, Begins, left, Stepped}
use Rattle.walk.specs.Steps.{step}
use Rattle.walk.specs.Tables.{entries_size, qed_inside, normal_says}
use Rattle.walk.specs.declared.hyps.ParentHyp.{ParentHyp}
use Rattle.words.specs.declared.word.Word.{Word}
use Rattle.words.specs.Spelled.{HypReady, word_of, spelled, WordInside, most_laid}
use Rattle.words.specs.Carried.{StepSound, normal_sound}
use Rattle.words.specs.Tables.{no_name, statement_in, hyp_ready, word_inside}
use Rattle.steptexts.specs.Texts.{Printed, NormalReady}
use Rattle.steptexts.proofs.Lent.{Lent, Entered}
use Rattle.steptexts.proofs.Laying.{Laid, none_laid, one_laid, laid_near, all_printed}

-- no step has a name
abbrev pub unnamed : ℕ → Option ℕ
unnamed m = None

-- of the steps left at first, those in `done` are laid and the others are left now
pub record Walked (ss hs b : List ℕ) (thm : ℕ) (explicit : Bool) (l : Layout) (es cs : List ℕ) (first line : End) (before after stack₀ : List ℕ) (depth₀ : ℕ) (stack : List ℕ) (depth : ℕ) : Type 0 where
  pub done : List Step
  pub laid : Laid ss hs b thm explicit unnamed l done first line before after
  pub rest : left es cs explicit stack₀ depth₀ ≡ done ++ left es cs explicit stack depth
  pub stacked : Stacked es stack depth

-- none is laid yet
pub start : {ss hs b : List ℕ} {thm : ℕ} {explicit : Bool} {l : Layout} {es cs : List ℕ} (line : End) (out stack : List ℕ) (depth : ℕ) → Stacked es stack depth
    → Walked ss hs b thm explicit l es cs line line out out stack depth stack depth
start line out stack depth s = record { done = []; laid = none_laid line out; rest = refl; stacked = s }

-- ---- a table that is not refused

-- what the walk asks for
pub may_walk : {w b : List ℕ} {room : ℕ} {es cs : List ℕ} {q : ℕ} → NormalReady w b room → Entered w es cs q
    → Entries es cs × ((q < size es) × (pair_size * size es ≤ room))
may_walk {w} {b} r e =
    rw (e.entries_are, e.children_are, e.qed_is) (entries_of w b r.ok, (qed_inside w b r.ok, omega (arith, entries_size w b r.ok, r.stack_in)))

-- the walk begins in the first stack
pub record Here (w b : List ℕ) (room : ℕ) (ss hs : List ℕ) (thm : ℕ) (es cs : List ℕ) (q : ℕ) (stack₀ : List ℕ) : Type 0 where
  pub ready : NormalReady w b room
  pub lent : Lent w ss hs thm
  pub entered : Entered w es cs q
  pub begins : Begins es cs q stack₀

module _ {w b : List ℕ} {room : ℕ} {ss hs : List ℕ} {thm : ℕ} {es cs : List ℕ} {q : ℕ} {stack₀ : List ℕ} (h : Here w b room ss hs thm es cs q stack₀) where
  -- all steps to come are the table's
  all_are : (explicit : Bool) → left es cs explicit stack₀ 1 ≡ normal_of w explicit
  all_are explicit =
      h.begins.all_left explicit
      ∙ rw (h.entered.entries_are, h.entered.children_are, h.entered.qed_is) (normal_says w b h.ready.ok explicit)

  all_sound : (explicit : Bool) → All (StepSound w 0) (left es cs explicit stack₀ 1)
  all_sound explicit = rw (all_are explicit) (normal_sound w b h.ready.ok explicit)

  few : (explicit : Bool) → length (left es cs explicit stack₀ 1) ≤ max_normal_steps
  unfolding bad13 normal_of NormalCountLaw
  few explicit =
      omega (
        arith,
        ap length (all_are explicit),
        normal_count_lem (graph_of w) (qed w) explicit,
        ltb-false max_normal_steps (normal_count (graph_of w) (qed w)) h.ready.few,
      )

  module _ {explicit : Bool} {l : Layout} {first line : End} {before between stack : List ℕ} {depth : ℕ}
      (k : Walked ss hs b thm explicit l es cs first line before between stack₀ 1 stack depth) where
    pub near : first.end < most_before → line.end + most_laid < farthest
    near first-near =
        omega (arith, first-near, few explicit, ap length k.rest, length-append k.done (left es cs explicit stack depth), laid_near k.laid)

    -- the next step
    module _ {stack' : List ℕ} {statement depth' : ℕ} {hyp : ParentHyp} (s : Stepped es cs explicit (left es cs explicit stack depth) stack' statement hyp depth') where
      abbrev next : Step
      next = step 0 0 statement (parent_of hyp) (index_of hyp)

      more : left es cs explicit stack₀ 1 ≡ (k.done ++ (next ∷ [])) ++ left es cs explicit stack' depth'
      more = k.rest ∙ ap (λ (x : List Step). k.done ++ x) s.taken ∙ sym (append_assoc k.done (next ∷ []) (left es cs explicit stack' depth'))

      next_sound : StepSound w 0 next
      next_sound =
          (all_split (StepSound w 0) k.done (next ∷ []) (all_split (StepSound w 0) (k.done ++ (next ∷ [])) _ (subst (All (StepSound w 0)) more (all_sound explicit))).0).1.0

      -- what its word asks for
      pub word_ready : StatementIn ss statement × HypReady ss hs thm (parent_of hyp) (index_of hyp)
      word_ready =
          rw (h.lent.statements_are, h.lent.hyps_are, h.lent.theorem_is)
          (statement_in w b h.ready.ok _ next_sound.fits.stmt_below, hyp_ready w b h.ready.ok _ _ next_sound.hyp)

      pub word_in : {v : Word} → v ≡ word_of ss hs thm explicit None None statement (parent_of hyp) (index_of hyp) → WordInside b v
      word_in e =
          rw (e, h.lent.statements_are, h.lent.hyps_are, h.lent.theorem_is) (word_inside w b h.ready.ok next 0 next_sound explicit None None)

      -- and it is laid
      pub turn : {v : Word} {last : End} {after : List ℕ} → v ≡ word_of ss hs thm explicit None None statement (parent_of hyp) (index_of hyp)
          → Lays (λ s. put_word l s (spelled b v)) most_laid line last between after
          → Walked ss hs b thm explicit l es cs first last before after stack₀ 1 stack' depth'
      turn e one = record { done = k.done ++ (next ∷ []); laid = one_laid next k.laid (rw e at one); rest = more; stacked = s.stacked }

    -- none is left
    pub printed : left es cs explicit stack depth ≡ [] → {last : End} {most end : ℕ} {start after : List ℕ} → end ≡ last.end → Wrote (begin l) first start before
        → Lays (λ s. put_word l s end_word) most line last between after → Printed (steps_text w b l explicit (normal_of w explicit)) end start after
    printed none e wrote ended =
        let ok = h.ready.ok in
        let whole : k.done ≡ normal_of w explicit = sym (k.rest ∙ ap (λ (x : List Step). k.done ++ x) none ∙ append-nil k.done) ∙ all_are explicit in
        all_printed w b ok explicit unnamed 0 (λ m small. no_name w b m (omega arith)) l h.lent (normal_of w explicit) (normal_sound w b ok explicit)
        e wrote (rw whole at k.laid) ended

-- a step taken leaves fewer
pub fewer : {es cs : List ℕ} {explicit : Bool} {ts : List Step} {stack : List ℕ} {statement depth : ℕ} {hyp : ParentHyp} → Stepped es cs explicit ts stack statement hyp depth
    → length (left es cs explicit stack depth) < length ts
fewer s = omega (arith, ap length s.taken)
