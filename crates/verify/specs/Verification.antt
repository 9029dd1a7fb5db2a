-- The contract of `verify`: its verdict, what the verdict means, and what the slices lent then hold.
use Rattle.std.specs.Prelude.{◌≡◌, List, ℕ}
use Rattle.std.proofs.Common.{◌∙◌}
use Rattle.laws.specs.Tools.{zeroed}
use Rattle.defs.specs.Layout.{Layout}
use Rattle.roundtrip.specs.Main.{Covered}
use Rattle.verify.specs.Verified.{Lent, lent, verified}
use Rattle.verify.specs.Covered.{Enough, covered_agrees}
use Rattle.verify.specs.Agreed.{Agreed, agreed}
use Rattle.verify.specs.declared.verdict.Verdict.{Verdict}
use Rattle.verify.specs.declared.verdict.Verdict.TheVariants.{Agree}

-- all slices zero, the whole of each
unfoldable pub wiped : Lent → Lent
wiped m =
    lent (zeroed m.work) (zeroed m.sums) (zeroed m.packed) (zeroed m.steps) (zeroed m.list)
    (zeroed m.letters) (zeroed m.built) (zeroed m.kids) (zeroed m.entries) (zeroed m.children)

pub record Verification (w b : List ℕ) (l : Layout) (m m' : Lent) (verdict : Verdict) : Type 0 where
  -- one verdict for each input, and one content of each slice
  pub verdict_is : verdict ≡ verified w b l m
  pub slices_are : m' ≡ wiped m
  -- demand 3: on a covered table, with the room that document 01 asks, it is yes
  pub covered_yes : Covered w b l → Enough w l m → verdict ≡ Agree
  -- and yes says that the three ways agreed
  pub yes_agreed : verdict ≡ Agree → Agreed w b l m

-- the two equations say all
pub verification : (w b : List ℕ) (l : Layout) (m m' : Lent) (verdict : Verdict) → verdict ≡ verified w b l m → m' ≡ wiped m → Verification w b l m m' verdict
verification w b l m m' verdict is slices =
    record {
      verdict_is = is;
      slices_are = slices;
      covered_yes = λ covered room. is ∙ covered_agrees w b l m covered room;
      yes_agreed = λ e. agreed w b l m (rw is at e);
    }
