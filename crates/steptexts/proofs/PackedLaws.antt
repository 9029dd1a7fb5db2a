-- The packed text of a table: what each step asks for has been met by the check and the walk, and nothing wraps.
-- A packed list has at most one step more than the table has child references.
use mathlib.Core.Path.{◌≡◌, ap, ◌∙◌}
use mathlib.Core.Bool.{Bool}
use mathlib.Core.List.{List}
use Prim.Native.Nat.{ℕ, ◌+◌, ◌*◌, ◌≤◌, ◌<◌}
use native.Mathlib.Omega.{arith}
use Rattle.laws.specs.Lists.{all_at, eqb_yes, eqb_no}
use Rattle.laws.specs.Puts.{farthest}
use Rattle.defs.specs.Table.{entries, max_child_refs}
use Rattle.defs.specs.Checked.{header}
use Rattle.defs.specs.Laws.{good}
use Rattle.defs.specs.Layout.{Layout, begin, put_word}
use Rattle.defs.specs.Steps.{step_size}
use Rattle.defs.specs.Text.{packed_of, end_word, steps_text}
use Rattle.lengths.proofs.Bound.{packed_most}
use Rattle.layout.specs.declared.lines.Line.{Line as End}
use Rattle.layout.specs.Laid.{Wrote, Lays, most_before}
use Rattle.words.specs.declared.word.Word.{Word}
use Rattle.words.specs.Spelled.{spelled, WordInside, most_laid}
use Rattle.words.specs.Carried.{StepSound, packed_sound}
use Rattle.words.specs.Tables.{NameIs, statement_in, hyp_ready, word_inside}
use Rattle.steptexts.specs.Texts.{number_at, step_at, word_for, WordReady, Printed, PackedReady}
use Rattle.steptexts.proofs.Lent.{Lent}
use Rattle.steptexts.proofs.Held.{steps_in, none_in, one_in, length_in, step_is, all_are}
use Rattle.steptexts.proofs.Laying.{Laid, none_laid, one_laid, laid_near, all_printed}

module _ {w b : List ℕ} {explicit : Bool} {steps many names : ℕ} {ws : List ℕ} (r : PackedReady w b explicit steps many names ws) where
  few : many ≤ max_child_refs + 1
  few = omega (arith, r.as_many, packed_most w b r.ok explicit, (header w (good w b r.ok).ok1).c_most)

  -- step i is one of the table's
  step_sound : (i : ℕ) → i < many → StepSound w (entries w) (step_at ws (steps + step_size * i))
  step_sound i h =
      rw (step_is ws steps many (packed_of w explicit) r.as_many r.holds i h)
      (all_at (StepSound w (entries w)) (packed_of w explicit) _ (packed_sound w b r.ok explicit) i (omega (arith, r.as_many)))

  names_are : (k : ℕ) → k ≤ entries w → NameIs w b k (number_at ws names k)
  unfolding number_at
  names_are k h =
      record {
        none = λ e. rw (eqb_yes k 0 e);
        some = λ e. rw (eqb_no k 0 e, r.named k (omega arith) h);
      }

  module _ {ss hs : List ℕ} {thm : ℕ} (lent : Lent w ss hs thm) where
    -- what its word asks for
    pub word_ready : (i : ℕ) → i < many → WordReady ss hs thm ws (steps + step_size * i) names
    word_ready i h =
        let s = step_sound i h in
        record {
          step_in = omega (arith, r.inside);
          reference_in = omega (arith, s.fits.ref_most, r.names_in);
          mark_in = omega (arith, s.fits.mark_most, r.names_in);
          statement_in = rw lent.statements_are (statement_in w b r.ok _ s.fits.stmt_below);
          at_root = s.hyp.at_root;
          hyp = rw (lent.statements_are, lent.hyps_are, lent.theorem_is) (hyp_ready w b r.ok _ _ s.hyp);
        }

    pub word_in : (i : ℕ) → i < many → {v : Word} → v ≡ word_for ss hs thm explicit (number_at ws names) (step_at ws (steps + step_size * i)) → WordInside b v
    word_in i h e =
        rw (e, lent.statements_are, lent.hyps_are, lent.theorem_is) (word_inside w b r.ok _ (entries w) (step_sound i h) explicit _ _)

    -- the words of the first i steps are laid
    module _ {l : Layout} (i : ℕ) {first line : End} {before between : List ℕ} (laid : Laid ss hs b thm explicit (number_at ws names) l (steps_in ws steps i) first line before between) where
      pub near : i ≤ many → first.end < most_before → line.end + most_laid < farthest
      near h k = omega (arith, few, laid_near laid, length_in ws steps i)

      -- and one more
      pub turn : {v : Word} {next : End} {after : List ℕ} → v ≡ word_for ss hs thm explicit (number_at ws names) (step_at ws (steps + step_size * i))
          → Lays (λ s. put_word l s (spelled b v)) most_laid line next between after
          → Laid ss hs b thm explicit (number_at ws names) l (steps_in ws steps (i + 1)) first next before after
      turn e one = rw (one_in ws steps i) (one_laid (step_at ws (steps + step_size * i)) laid (rw e at one))

      -- and all, between the beginning and the last word
      pub printed : {last : End} {most end : ℕ} {start after : List ℕ} → i ≡ many → end ≡ last.end → Wrote (begin l) first start before
          → Lays (λ s. put_word l s end_word) most line last between after → Printed (steps_text w b l explicit (packed_of w explicit)) end start after
      printed e f begun ended =
          let ts : steps_in ws steps i ≡ packed_of w explicit = ap (steps_in ws steps) e ∙ all_are ws steps many (packed_of w explicit) r.as_many r.holds in
          all_printed w b r.ok explicit (number_at ws names) (entries w) names_are l lent (packed_of w explicit) (packed_sound w b r.ok explicit) f begun (rw ts at laid) ended

  -- none yet
  pub start : {ss hs : List ℕ} {thm : ℕ} {l : Layout} (line : End) (out : List ℕ) → Laid ss hs b thm explicit (number_at ws names) l (steps_in ws steps 0) line line out out
  start line out = rw (none_in ws steps) (none_laid line out)
