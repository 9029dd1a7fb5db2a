-- Laws of the theorem's list of a table that is not refused: where it stands, that its members are statements, how long it is.
-- All of it is that the hypothesis section of such a table is right.
use mathlib.Core.Path.{◌≡◌}
use mathlib.Core.List.{List, map}
use Prim.Native.Nat.{ℕ, ◌+◌, ◌-◌, ◌<◌, ◌≤◌}
use native.Mathlib.Omega.{arith}
use lib.ListN.{length}
use Rattle.laws.specs.Tools.{part}
use Rattle.laws.specs.Lists.{part_length, part_at}
use Rattle.defs.specs.Table.{word, max_references, statements, theorem, statement_words, hyp_words, kind_in, hyp_start_in, hyp_count_in, hyps_in, mandatory}
use Rattle.defs.specs.Refusals.{mixed, bad10}
use Rattle.defs.specs.Check.{table_refusal}
use Rattle.defs.specs.Laws.{good}
use Rattle.defs.specs.Checked.{header, sections, theorem_below}
use Rattle.defs.specs.Sections.{hyps_ok}
use Rattle.table.specs.Records.{StatementIn}
use Rattle.theorem.specs.Goal.{TheoremOk, InStatements}

pub theorem_ok : (w b : List ℕ) → table_refusal w b ≡ 0 → TheoremOk w
theorem_ok w b ok =
    record {
      header = header w (good w b ok).ok1;
      long = (sections w (good w b ok).ok1).statements_long;
      below = theorem_below w b ok;
      hyps = hyps_ok w b ok;
    }

module _ (w : List ℕ) (ok : TheoremOk w) where
  -- the theorem's record stands in the statement section, its list in the hypothesis section
  pub theorem_in : StatementIn (statement_words w) (theorem w)
  theorem_in = omega (arith, ok.long, ok.below)

  pub list_in : hyp_start_in (statement_words w) (theorem w) + hyp_count_in (statement_words w) (theorem w) ≤ length (hyp_words w)
  list_in = ok.hyps.inside (theorem w) ok.below

  pub list_is : (start end : ℕ) → start ≡ hyp_start_in (statement_words w) (theorem w) → end ≡ start + hyp_count_in (statement_words w) (theorem w)
      → part start (end - start) (hyp_words w) ≡ mandatory w
  unfolding mandatory hyps_in
  list_is start end e f =
      let long : end - start ≡ hyp_count_in (statement_words w) (theorem w) = omega arith in
      rw (long, e)

  list_length : length (mandatory w) ≡ hyp_count_in (statement_words w) (theorem w)
  unfolding mandatory hyps_in
  list_length = part_length (hyp_start_in (statement_words w) (theorem w)) (hyp_count_in (statement_words w) (theorem w)) (hyp_words w) list_in

  pub list_short : length (mandatory w) ≤ max_references
  list_short = omega (arith, list_length, list_in, ok.hyps.few)

  -- its members are statements
  list_at : (i : ℕ) → i < length (mandatory w) → word (mandatory w) i ≡ word (hyp_words w) (hyp_start_in (statement_words w) (theorem w) + i)
  unfolding mandatory hyps_in
  list_at i h = part_at (hyp_start_in (statement_words w) (theorem w)) (hyp_count_in (statement_words w) (theorem w)) (hyp_words w) i 0 (omega (arith, list_length))

  pub list_statements : InStatements (statement_words w) (mandatory w)
  list_statements =
      record {
        inside = λ i h.
            let below : word (hyp_words w) (hyp_start_in (statement_words w) (theorem w) + i) < statements w =
            ok.hyps.below (hyp_start_in (statement_words w) (theorem w) + i) (omega (arith, list_length, list_in)) in
            rw (list_at i h) (omega (arith, ok.long));
      }

-- refusal 10, of the two parts of the table
pub refusal_10 : (w ss list : List ℕ) → ss ≡ statement_words w → list ≡ mandatory w → mixed (map (kind_in ss) list) ≡ bad10 w
unfolding bad10
refusal_10 w ss list e f = rw (e, f)
