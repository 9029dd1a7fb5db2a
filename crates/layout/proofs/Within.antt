-- The bounds of a layout as facts on numbers: they hold exactly where `bad8` is false.
-- A caller that passed the test of `is_bad` reads them by `bounds`.
use mathlib.Core.Path.{◌≡◌, sym}
use mathlib.Core.Bool.{true, false}
use Prim.Native.Nat.{◌+◌, ◌≤◌, ◌<◌}
use borrow.Author.Tests.{leb-false}
use native.Mathlib.Omega.{arith}
use lib.Dec.{leb, leb→le, le→leb, ltb→lt, lt→ltb}
use Rattle.laws.specs.Tools.{all_of}
use Rattle.laws.specs.Lists.{boole, passed, not_no, T_of}
use Rattle.laws.specs.Below.{each, all_of_each}
use Rattle.defs.specs.Layout.{Layout, max_width, layout_rules, bad8}

pub record Bounds (l : Layout) : Type 0 where
  pub wide : l.width ≤ max_width
  pub some : 1 ≤ l.indent
  pub narrow : l.indent + 2 ≤ l.width
  pub inside : l.first < l.indent

pub bounds : (l : Layout) → bad8 l ≡ false → Bounds l
unfolding bad8 layout_rules
bounds l ok =
    let p = each (layout_rules l) (passed (all_of (layout_rules l)) ok) in
    record { wide = leb→le _ _ p.0; some = leb→le _ _ p.1.0; narrow = leb→le _ _ p.1.1.0; inside = ltb→lt _ _ p.1.1.1.0 }

-- within them, and outside
pub accepted : (l : Layout) → Bounds l → false ≡ bad8 l
unfolding bad8 layout_rules
accepted l b =
    sym (not_no (all_of (layout_rules l))
    (all_of_each (layout_rules l) (le→leb _ _ b.wide, (le→leb _ _ b.some, (le→leb _ _ b.narrow, (lt→ltb _ _ b.inside, tt))))))

pub refused : (l : Layout) → (Bounds l → ⊥) → true ≡ bad8 l
refused l outside = boole (bad8 l) sym (λ ok. absurd (outside (bounds l ok)))

-- within the bounds on width and indent the first position decides
pub last_decides : (l : Layout) → l.width ≤ max_width → l.indent + 2 ≤ l.width → leb l.indent l.first ≡ bad8 l
last_decides l wide narrow =
    boole (leb l.indent l.first)
    (λ yes. (let h : l.indent ≤ l.first = leb→le _ _ (T_of yes) in rw yes (refused l (λ b. omega (arith, b)))))
    (λ no. (let h : l.first < l.indent = leb-false _ _ no in
    rw no (accepted l (record { wide = wide; some = omega arith; narrow = narrow; inside = h }))))
