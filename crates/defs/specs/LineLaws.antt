-- No line of a compressed text exceeds the width, counting the first position on line one.
use Rattle.std.specs.Prelude.{◌≡◌, false}
use Prim.Native.Nat.{ℕ, ◌≤◌}
use mathlib.Core.List.{List}
use Rattle.defs.specs.Check.{table_refusal}
use Rattle.defs.specs.Layout.{Layout, bad8, widest}
use Rattle.defs.specs.Text.{text_of}
use Rattle.defs.specs.Refusals.{bad12}

-- the law
unfoldable pub LinesFit : Type 0
LinesFit = (w b : List ℕ) (l : Layout) → table_refusal w b ≡ 0 → bad8 l ≡ false → bad12 w l ≡ false → widest l.first (text_of w b 0 l) ≤ l.width
