-- The rules of an entry decide the facts of its line, and those of the entry section decide the facts of all lines.
-- Assumes nothing.
use Prim.Native.Nat.{ℕ, ◌+◌, ◌-◌, ◌<◌}
use mathlib.Core.Bool.{Bool, false}
use mathlib.Core.List.{List}
use mathlib.Core.Path.{◌≡◌, refl}
use native.Mathlib.Omega.{arith}
use lib.Dec.{lt→ltb, ltb→lt, le→leb, leb→le, eqb→eq}
use Rattle.laws.specs.Below.{each, all_of_each, all_below_at, all_below_all, sum_below_next}
use Rattle.laws.specs.Lists.{T_of, of_T, clash, eqb_yes}
use Rattle.laws.specs.Tools.{all_of, sum_below, part}
use Rattle.defs.specs.Check.{entry_rules, entries_rules}
use Rattle.defs.specs.Table.{child_start_in, child_count_in, children_in}
use Rattle.table.proofs.Lemmas.{between}
use Rattle.table_check.specs.Right.{ChildrenBefore, EntryRight, EntriesRight}
use Rattle.laws.specs.Decides.{Decides, decides}

module _ (ss es : List ℕ) (s c e : ℕ) where
  pub entry_decides : Decides (all_of (entry_rules ss es s c e)) (EntryRight ss es s c e)
  unfolding entry_rules
  entry_decides =
      decides (all_of (entry_rules ss es s c e))
      (λ t. let p = each (entry_rules ss es s c e) t in
      record { stmt_below = ltb→lt _ _ p.0; start = eqb→eq _ _ p.1.0; as_many = eqb→eq _ _ p.1.1.0; inside = leb→le _ _ p.1.1.1.0 })
      (λ r. all_of_each (entry_rules ss es s c e)
      (lt→ltb _ _ r.stmt_below, (T_of (eqb_yes _ _ r.start), (T_of (eqb_yes _ _ r.as_many), (le→leb _ _ r.inside, tt)))))

  -- a line that was kept is added to what is taken
  pub children_next : (taken : ℕ) → ChildrenBefore es c e taken → EntryRight ss es s c e → ChildrenBefore es c (e + 1) (taken + child_count_in es e)
  children_next taken t r = record { sum = omega (arith, sum_below_next (child_count_in es) e); most = omega arith }

pub children_none : (es : List ℕ) (c : ℕ) → ChildrenBefore es c 0 0
unfolding sum_below
children_none es c = record { sum = refl; most = omega arith }

-- ---- the whole section

module _ (ss es : List ℕ) (s n c : ℕ) where
  line : ℕ → Bool
  line e = all_of (entry_rules ss es s c e)

  pub entries_decide : Decides (all_of (entries_rules ss es s n c)) (EntriesRight ss es s n c)
  unfolding entries_rules line
  entries_decide =
      decides (all_of (entries_rules ss es s n c))
      (λ t. let p = each (entries_rules ss es s n c) t in
      record { line = λ e l. (entry_decides ss es s c e).so (of_T (line e) (all_below_at line e n l p.0)); fill = eqb→eq _ _ p.1.0 })
      (λ r. all_of_each (entries_rules ss es s n c)
      (all_below_all line n (λ e l. T_of ((entry_decides ss es s c e).yes (r.line e l))), (T_of (eqb_yes _ _ r.fill), tt)))

  -- one line that is not kept
  pub entry_wrong : (e : ℕ) → e < n → all_of (entry_rules ss es s c e) ≡ false → all_of (entries_rules ss es s n c) ≡ false
  entry_wrong e l f = entries_decide.no (λ r. clash (all_of (entry_rules ss es s c e)) ((entry_decides ss es s c e).yes (r.line e l)) f)
