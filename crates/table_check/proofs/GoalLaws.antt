-- The rules of the goal decide what they say of the theorem and of QED.
-- Assumes nothing.
use Prim.Native.Nat.{ℕ, ◌<◌}
use mathlib.Core.List.{List}
use mathlib.Core.Path.{◌≡◌, ap, ap₂}
use native.Mathlib.Omega.{arith}
use lib.Dec.{lt→ltb, ltb→lt, eqb→eq}
use lib.ListN.{length}
use Rattle.laws.specs.Below.{each, all_of_each}
use Rattle.laws.specs.Lists.{T_of, eqb_yes}
use Rattle.laws.specs.Tools.{all_of}
use Rattle.defs.specs.Check.{goal_rules}
use Rattle.defs.specs.Checked.{HeaderOk}
use Rattle.defs.specs.Table.{statements, entries, theorem, qed, kind, kind_in, statement_words}
use Rattle.table.specs.Records.{StatementIn}
use Rattle.laws.specs.Decides.{Decides, decides}
use Rattle.table_check.proofs.HeaderLaws.{sections_long}

pub record GoalRight (w : List ℕ) : Type 0 where
  pub theorem_below : theorem w < statements w
  pub kind_is_assertion : kind w (theorem w) ≡ 0
  pub qed_below : qed w < entries w

pub goal_decides : (w : List ℕ) → Decides (all_of (goal_rules w)) (GoalRight w)
unfolding goal_rules
goal_decides w =
    decides (all_of (goal_rules w))
    (λ t. let p = each (goal_rules w) t in
    record { theorem_below = ltb→lt _ _ p.0; kind_is_assertion = eqb→eq _ _ p.1.0; qed_below = ltb→lt _ _ p.1.1.0 })
    (λ r. all_of_each (goal_rules w) (lt→ltb _ _ r.theorem_below, (T_of (eqb_yes _ _ r.kind_is_assertion), (lt→ltb _ _ r.qed_below, tt))))

-- the theorem's record is in the section, and its kind is read there
pub theorem_in : (w ss : List ℕ) (t : ℕ) → HeaderOk w → ss ≡ statement_words w → t ≡ theorem w → theorem w < statements w → StatementIn ss t
theorem_in w ss t ok e f l = omega (arith, sections_long w ok, ap length e)

pub theorem_kind : (w ss : List ℕ) (t : ℕ) → ss ≡ statement_words w → t ≡ theorem w → kind_in ss t ≡ kind w (theorem w)
theorem_kind w ss t e f = ap₂ kind_in e f
