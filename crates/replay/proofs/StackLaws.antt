-- A push, seen in the two regions of the working slice: the stack grows by the entry, and so does the list of marks where it has a mark.
-- Assumes nothing.
use mathlib.Core.Path.{◌≡◌, ◌∙◌}
use mathlib.Core.List.{List, [], ◌∷◌, ◌++◌}
use Prim.Native.Nat.{ℕ, ◌+◌, ◌≤◌, ◌<◌}
use native.Mathlib.Numerals.{add-one}
use native.Mathlib.Omega.{arith}
use lib.ListN.{length, take, drop, set, length-drop}
use lib.Seq.{take-suc-set, take-set-le, drop-set-lt, drop-set-add}
use Rattle.laws.specs.Lists.{eqb_yes, eqb_no}
use Rattle.replay.specs.Stack.{Pushed}

module _ (half from marks e mark : ℕ) (work : List ℕ) (below : from < half) (few : marks < half) (room : half + half ≤ length work) where
  top : take (from + 1) (set work from e) ≡ take from work ++ e ∷ []
  top = rw (add-one from) (take-suc-set work from e (omega arith))

  pub push_plain : mark ≡ 0 → Pushed half from marks e mark work (set work from e) marks
  push_plain z =
      record {
        stack_is = top;
        named_is = rw (eqb_yes mark 0 z, drop-set-lt half work from e below);
        few = omega arith;
      }

  pub push_named : ¬ (mark ≡ 0) → Pushed half from marks e mark work (set (set work from e) (half + marks) e) (marks + 1)
  push_named z =
      record {
        stack_is = take-set-le (from + 1) (set work from e) (half + marks) e (omega arith) ∙ top;
        named_is =
            rw (eqb_no mark 0 z, drop-set-add half (set work from e) marks e, drop-set-lt half work from e below, add-one marks)
            (take-suc-set (drop half work) marks e (rw (length-drop half work) (omega arith)));
        few = omega arith;
      }
