-- The rules of a statement decide the facts of its line, and those of the statement section decide the facts of all lines.
-- Assumes nothing.
use Prim.Native.Nat.{ℕ, ◌+◌, ◌<◌}
use mathlib.Core.Bool.{Bool, false, ◌||◌}
use mathlib.Core.List.{List}
use mathlib.Core.Logic.{◌⊎◌, inl, inr, ⊎_elim}
use mathlib.Core.Path.{◌≡◌, refl}
use mir.Facts.{or_yes}
use native.Mathlib.Omega.{arith}
use lib.Dec.{T, eqb, le→leb, leb→le, eqb→eq}
use Rattle.laws.specs.Below.{each, all_of_each, all_below_at, all_below_all, sum_below_next}
use Rattle.laws.specs.Lists.{T_of, of_T, clash, eqb_yes, or_left, or_right}
use Rattle.laws.specs.Tools.{all_of, sum_below}
use Rattle.defs.specs.Check.{statement_rules, statements_rules}
use Rattle.defs.specs.Table.{kind_in, label_length_in, hyp_count_in}
use Rattle.table_check.specs.Right.{TakenBefore, StatementRight, StatementsRight}
use Rattle.laws.specs.Decides.{Decides, decides}

module _ (ss : List ℕ) (h bytes k : ℕ) where
  kept : T (all_of (statement_rules ss h bytes k)) → StatementRight ss h bytes k
  unfolding statement_rules
  kept t =
      let p = each (statement_rules ss h bytes k) t in
      record {
        kind_most = leb→le _ _ p.0;
        label_start_lem = eqb→eq _ _ p.1.0;
        label_some = leb→le _ _ p.1.1.0;
        label_most = leb→le _ _ p.1.1.1.0;
        hyp_start_lem = eqb→eq _ _ p.1.1.1.1.0;
        hyp_none = ⊎_elim (λ e. inl (eqb→eq _ _ e)) (λ e. inr (eqb→eq _ _ e)) (or_yes (eqb (kind_in ss k) 0) (eqb (hyp_count_in ss k) 0) p.1.1.1.1.1.0);
        label_inside = leb→le _ _ p.1.1.1.1.1.1.0;
        hyp_inside = leb→le _ _ p.1.1.1.1.1.1.1.0;
      }

  none_yes : (kind_in ss k ≡ 0) ⊎ (hyp_count_in ss k ≡ 0) → T (eqb (kind_in ss k) 0 || eqb (hyp_count_in ss k) 0)
  none_yes (inl e) = or_left (eqb (kind_in ss k) 0) (eqb (hyp_count_in ss k) 0) (T_of (eqb_yes (kind_in ss k) 0 e))
  none_yes (inr e) = or_right (eqb (kind_in ss k) 0) (eqb (hyp_count_in ss k) 0) (T_of (eqb_yes (hyp_count_in ss k) 0 e))

  keeps : StatementRight ss h bytes k → T (all_of (statement_rules ss h bytes k))
  unfolding statement_rules
  keeps r =
      all_of_each (statement_rules ss h bytes k) (
        le→leb _ _ r.kind_most,
        (
          T_of (eqb_yes _ _ r.label_start_lem),
          (
            le→leb _ _ r.label_some,
            (
              le→leb _ _ r.label_most,
              (T_of (eqb_yes _ _ r.hyp_start_lem), (none_yes r.hyp_none, (le→leb _ _ r.label_inside, (le→leb _ _ r.hyp_inside, tt)))),
            ),
          ),
        ),
      )

  pub statement_decides : Decides (all_of (statement_rules ss h bytes k)) (StatementRight ss h bytes k)
  statement_decides = decides (all_of (statement_rules ss h bytes k)) kept keeps

  -- a line that was kept is added to what is taken
  pub taken_next : (labels hyps : ℕ) → TakenBefore ss h bytes k labels hyps → StatementRight ss h bytes k
      → TakenBefore ss h bytes (k + 1) (labels + label_length_in ss k) (hyps + hyp_count_in ss k)
  taken_next labels hyps t r =
      record {
        labels_sum = omega (arith, sum_below_next (label_length_in ss) k);
        hyps_sum = omega (arith, sum_below_next (hyp_count_in ss) k);
        labels_most = omega arith;
        hyps_most = omega arith;
      }

pub taken_none : (ss : List ℕ) (h bytes : ℕ) → TakenBefore ss h bytes 0 0 0
unfolding sum_below
taken_none ss h bytes = record { labels_sum = refl; hyps_sum = refl; labels_most = omega arith; hyps_most = omega arith }

-- ---- the whole section

module _ (ss : List ℕ) (s h bytes : ℕ) where
  line : ℕ → Bool
  line k = all_of (statement_rules ss h bytes k)

  pub statements_decide : Decides (all_of (statements_rules ss s h bytes)) (StatementsRight ss s h bytes)
  unfolding statements_rules line
  statements_decide =
      decides (all_of (statements_rules ss s h bytes))
      (λ t. let p = each (statements_rules ss s h bytes) t in
      record {
        line = λ k l. (statement_decides ss h bytes k).so (of_T (line k) (all_below_at line k s l p.0));
        labels_fill = eqb→eq _ _ p.1.0;
        hyps_fill = eqb→eq _ _ p.1.1.0;
      })
      (λ r. all_of_each (statements_rules ss s h bytes) (
        all_below_all line s (λ k l. T_of ((statement_decides ss h bytes k).yes (r.line k l))),
        (T_of (eqb_yes _ _ r.labels_fill), (T_of (eqb_yes _ _ r.hyps_fill), tt)),
      ))

  -- one line that is not kept
  pub line_wrong : (k : ℕ) → k < s → all_of (statement_rules ss h bytes k) ≡ false → all_of (statements_rules ss s h bytes) ≡ false
  line_wrong k l e = statements_decide.no (λ r. clash (all_of (statement_rules ss h bytes k)) ((statement_decides ss h bytes k).yes (r.line k l)) e)
