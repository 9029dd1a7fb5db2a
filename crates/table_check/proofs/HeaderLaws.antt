-- The header's rules decide the facts that `HeaderOk` names: one by one, in its order.
-- Assumes nothing.
use Prim.Native.Nat.{ℕ}
use mathlib.Core.Bool.{not}
use mathlib.Core.List.{List}
use mathlib.Core.Path.{ap}
use lib.Dec.{T, le→leb}
use Rattle.laws.specs.Below.{all_of_each}
use Rattle.laws.specs.Lists.{T_of, eqb_yes, not_no}
use Rattle.laws.specs.Tools.{all_of}
use Rattle.defs.specs.Check.{header_rules, bad1}
use Rattle.defs.specs.Checked.{HeaderOk, header, SectionsOk, sections}
use Rattle.laws.specs.Decides.{Decides, decides}

pub header_decides : (w : List ℕ) → Decides (all_of (header_rules w)) (HeaderOk w)
unfolding bad1 header_rules
header_decides w = decides (all_of (header_rules w)) (λ t. header w (not_no (all_of (header_rules w)) t)) complete
  where
    complete : HeaderOk w → T (all_of (header_rules w))
    complete ok =
        all_of_each (header_rules w) (
          le→leb _ _ ok.ten,
          (
            le→leb _ _ ok.s_most,
            (
              le→leb _ _ ok.h_most,
              (
                le→leb _ _ ok.n_most,
                (
                  le→leb _ _ ok.c_most,
                  (
                    T_of (eqb_yes _ _ ok.at4),
                    (
                      T_of (eqb_yes _ _ ok.at5),
                      (
                        T_of (eqb_yes _ _ ok.at6),
                        (
                          T_of (eqb_yes _ _ ok.at7),
                          (T_of (eqb_yes _ _ ok.whole), tt),
                        ),
                      ),
                    ),
                  ),
                ),
              ),
            ),
          ),
        )

pub sections_long : (w : List ℕ) → HeaderOk w → SectionsOk w
unfolding bad1
sections_long w ok = sections w (ap not ((header_decides w).yes ok))
