-- What a function that is lent a whole table has for the compressed text: what writing it asks for, which text it is, and that no line of
-- what is written exceeds the width.
use Rattle.std.specs.Prelude.{◌≡◌, refl, false, ℕ, ◌+◌, ◌≤◌, ◌<◌, List, length, get_or, drop}
use Rattle.std.proofs.Common.{sym, ◌∙◌, subst, arith}
use Rattle.std.proofs.Math.Path.{ap}
use Rattle.std.proofs.Math.ListN.{take}
use Rattle.std.proofs.Math.Seq.{take_at}
use Rattle.laws.specs.Tools.{part, over}
use Rattle.laws.specs.Lists.{All, all_at, part_at, part_length}
use Rattle.defs.specs.Table.{max_word, statements, statement_words, mandatory}
use Rattle.defs.specs.Check.{table_refusal}
use Rattle.defs.specs.Sections.{statements_ok}
use Rattle.defs.specs.Letters.{letters_of}
use Rattle.defs.specs.Layout.{Layout, bad8, widest}
use Rattle.defs.specs.Text.{packed_of, labels_of, letters_for, compressed_text, text_of}
use Rattle.defs.specs.Refusals.{bad12}
use Rattle.defs.specs.LineLaws.{LinesFit}
use Rattle.defs.proofs.LineLaws.{lines_fit}
use Rattle.lettering.specs.Said.{ListReady}
use Rattle.compressed.specs.declared.places.Places.{Places}
use Rattle.compressed.specs.Stepped.{SaysAt}
use Rattle.compressed.specs.Texts.{TextReady, TextWrote}

-- with the table's own label list and packed list it is the table's text in style 0
pub text_of_style : (w b : List ℕ) (l : Layout) → compressed_text w b l (labels_of w l) (letters_of (mandatory w) (labels_of w l) (packed_of w false)) ≡ text_of w b 0 l
unfolding text_of letters_for
text_of_style w b l = refl

-- a label list of statements, and steps whose letters can be written
pub text_ready : (w b : List ℕ) → table_refusal w b ≡ 0 → (p : Places) (ws order : List ℕ) → part p.list p.listed ws ≡ order → p.list + p.listed ≤ length ws
    → All (λ k. k < statements w) order → p.listed ≤ max_word → p.many ≤ max_word → ListReady p.steps p.many p.numbers p.both ws
    → TextReady (statement_words w) b p ws
text_ready w b ok p ws order holds inside below few_listed few_steps steps =
    let long : length order ≡ p.listed = ap length (sym holds) ∙ part_length p.list p.listed ws inside in
    record {
      few_listed = few_listed;
      labels = record {
        s = statements w;
        statements = statements_ok w b ok;
        list_in = inside;
        below = λ i h.
            subst (λ (k : ℕ). k < statements w) (ap (λ (x : List ℕ). get_or x i 0) (sym holds) ∙ part_at p.list p.listed ws i 0 h)
            (all_at (λ k. k < statements w) order 0 below i (omega arith));
      };
      few_steps = few_steps;
      steps = steps;
    }

-- what is written of a table that is not refused: its text in style 0, of which no line exceeds the width, counting the first position
module _ (w b : List ℕ) (l : Layout) (p : Places) {r : ℕ} {ws before after : List ℕ} (wrote : TextWrote l (statement_words w) b p r ws before after)
    (holds : part p.list p.listed ws ≡ labels_of w l)
    (says : SaysAt p ws (mandatory w) (labels_of w l) (packed_of w false)) where
  pub ends_style : r ≡ length (text_of w b 0 l)
  ends_style = wrote.ends (mandatory w) (labels_of w l) (packed_of w false) holds says ∙ ap length (text_of_style w b l)

  pub fits_style : r ≤ length before → after ≡ over (text_of w b 0 l) before
  fits_style h = wrote.fits (mandatory w) (labels_of w l) (packed_of w false) holds says h ∙ ap (λ (text : List ℕ). over text before) (text_of_style w b l)

  pub no_line_exceeds : table_refusal w b ≡ 0 → bad8 l ≡ false → bad12 w l ≡ false → r ≤ length before → widest l.first (take r after) ≤ l.width
  unfolding LinesFit
  no_line_exceeds ok ok8 ok12 h =
      let text : take r after ≡ text_of w b 0 l = ap (take r) (fits_style h) ∙ take_at (text_of w b 0 l) (drop (length (text_of w b 0 l)) before) r (sym ends_style) in
      rw text (lines_fit w b l ok ok8 ok12)
