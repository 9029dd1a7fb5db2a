-- The words of a table's steps: what is looked up for a step in the sections of a table that is not refused spells the word of document 01.
use Rattle.std.specs.Prelude.{◌≡◌, Option, Some, None, IfSome, Bool, List, [], ◌∷◌, ◌++◌, ℕ, ◌+◌, ◌-◌, ◌<◌, length, get_or, eqb}
use Rattle.std.proofs.Math.Path.{refl}
use Rattle.std.proofs.Common.{sym, arith}
use Rattle.std.proofs.Math.Bool.{true, false}
use Rattle.std.proofs.Math.Decide.{ℕ_discrete}
use Rattle.laws.specs.Tools.{pick}
use Rattle.laws.specs.Lists.{eqb_yes, eqb_no, part_at}
use Rattle.defs.specs.Bytes.{colon, equals_sign}
use Rattle.defs.specs.Table.{theorem, statements, statement_words, hyp_words, label_in, hyps_in, hyp_start_in, hyp_count_in, label, hyps}
use Rattle.defs.specs.Check.{table_refusal}
use Rattle.defs.specs.Checked.{theorem_below}
use Rattle.defs.specs.Sections.{statements_ok, hyps_ok}
use Rattle.defs.specs.Names.{name_number, name}
use Rattle.defs.specs.NameLaws.{name_least}
use Rattle.defs.specs.Steps.{Step}
use Rattle.defs.specs.Text.{hyp_prefix, step_word}
use Rattle.table.specs.Records.{StatementIn}
use Rattle.words.specs.Spelled.{span_of, Inside, hyp_statement, hyp_span, HypReady, word_of, mark_part, hyp_part, last_part, spelled, WordInside}
use Rattle.words.specs.Carried.{HypOk, StepSound}

-- the number that names mark m; none for no mark
pub record NameIs (w b : List ℕ) (m : ℕ) (number : Option ℕ) : Type 0 where
  pub none : m ≡ 0 → number ≡ None
  pub some : ¬ (m ≡ 0) → number ≡ Some (name_number w b m)

pub no_name : (w b : List ℕ) (m : ℕ) → m ≡ 0 → NameIs w b m None
no_name w b m e = record { none = λ z. refl; some = λ h. absurd (h e) }

module _ (w b : List ℕ) (ok : table_refusal w b ≡ 0) where
  abbrev ss : List ℕ
  ss = statement_words w

  abbrev hs : List ℕ
  hs = hyp_words w

  -- a statement's record stands in its section, and its label among the label bytes
  pub statement_in : (k : ℕ) → k < statements w → StatementIn ss k
  statement_in k l = omega (arith, (statements_ok w b ok).long)

  pub label_is_in : (k : ℕ) → k < statements w → Inside b (span_of ss k)
  label_is_in k l = record { inside = (statements_ok w b ok).label_inside k l; short = (statements_ok w b ok).label_most k l }

  module _ (parent index : ℕ) (h : HypOk ss (statements w) parent index) where
    -- the hypothesis of a step, as the table's lists have it
    hyp_is : hyp_statement ss hs (theorem w) parent index ≡ pick (eqb parent 0) (theorem w) (get_or (hyps w (parent - 1)) index 0)
    unfolding hyp_statement hyps_in
    hyp_is =
        elim (ℕ_discrete parent 0) [
          | yes e ↦ rw (eqb_yes parent 0 e)
          | no e ↦ rw (eqb_no parent 0 e) (sym (part_at (hyp_start_in ss (parent - 1)) (hyp_count_in ss (parent - 1)) hs index 0 (h.index_below e)))
        ]

    list_in : ¬ (parent ≡ 0) → hyp_start_in ss (parent - 1) + index < length hs
    list_in e = omega (arith, (hyps_ok w b ok).inside (parent - 1) (h.parent_below e), h.index_below e)

    -- it is a statement
    hyp_below : hyp_statement ss hs (theorem w) parent index < statements w
    unfolding hyp_statement
    hyp_below =
        elim (ℕ_discrete parent 0) [
          | yes e ↦ rw (eqb_yes parent 0 e) (theorem_below w b ok)
          | no e ↦ rw (eqb_no parent 0 e) ((hyps_ok w b ok).below (hyp_start_in ss (parent - 1) + index) (list_in e))
        ]

    pub hyp_ready : HypReady ss hs (theorem w) parent index
    hyp_ready =
        record {
          parent_in = λ e. statement_in (parent - 1) (h.parent_below e);
          index_in = list_in;
          hyp_in = statement_in _ hyp_below;
        }

    hyp_inside : (explicit : Bool) → IfSome (hyp_span ss hs (theorem w) explicit parent index) (Inside b)
    unfolding hyp_span
    hyp_inside true = label_is_in _ hyp_below
    hyp_inside false = tt

    hyp_part_lem : (explicit : Bool) (k : ℕ) → k ≡ pick (eqb parent 0) (theorem w) (get_or (hyps w (parent - 1)) index 0)
        → hyp_part b (hyp_span ss hs (theorem w) explicit parent index) ≡ pick explicit (label w b k ++ equals_sign ∷ []) []
    unfolding hyp_part hyp_span label_in
    hyp_part_lem true k e =
        let some = (statements_ok w b ok).label_some (hyp_statement ss hs (theorem w) parent index) hyp_below in
        rw (eqb_no (span_of ss (hyp_statement ss hs (theorem w) parent index)).length 0 (λ z. omega arith), e, ← hyp_is)
    hyp_part_lem false k e = refl

  -- a mark's number is never 0
  number_some : (m : ℕ) → ¬ (m ≡ 0) → ¬ (name_number w b m ≡ 0)
  number_some m h z = omega (arith, name_least ss b (statements w) m)

  module _ (t : Step) (m : ℕ) (sound : StepSound w m t) (explicit : Bool) (mark reference : Option ℕ) where
    -- its labels lie where they should
    pub word_inside : WordInside b (word_of ss hs (theorem w) explicit mark reference t.stmt t.parent t.index)
    word_inside = record { hyp_in = hyp_inside t.parent t.index sound.hyp explicit; label_is_in = label_is_in t.stmt sound.fits.stmt_below }

    prefix_is : hyp_part b (hyp_span ss hs (theorem w) explicit t.parent t.index) ≡ hyp_prefix w b explicit t
    unfolding hyp_prefix
    prefix_is = hyp_part_lem t.parent t.index sound.hyp explicit _ refl

    module _ (mark_is : NameIs w b t.mark mark) (reference-is : NameIs w b t.ref reference) where
      mark_part_lem : mark_part mark ≡ pick (eqb t.mark 0) [] (name w b t.mark ++ colon ∷ [])
      unfolding mark_part name
      mark_part_lem =
          elim (ℕ_discrete t.mark 0) [
            | yes e ↦ rw (eqb_yes t.mark 0 e, mark_is.none e)
            | no e ↦ rw (eqb_no t.mark 0 e, mark_is.some e, eqb_no (name_number w b t.mark) 0 (number_some t.mark e))
          ]

      -- and spell its word
      pub word_spelled : spelled b (word_of ss hs (theorem w) explicit mark reference t.stmt t.parent t.index) ≡ step_word w b explicit t
      unfolding spelled step_word last_part label_in name
      word_spelled =
          elim (ℕ_discrete t.ref 0) [
            | yes e ↦ rw (eqb_yes t.ref 0 e, reference-is.none e, mark_part_lem, prefix_is)
            | no e ↦ rw (eqb_no t.ref 0 e, reference-is.some e, eqb_no (name_number w b t.ref) 0 (number_some t.ref e), mark_part_lem, eqb_yes t.mark 0 (sound.one_name e), prefix_is)
          ]
