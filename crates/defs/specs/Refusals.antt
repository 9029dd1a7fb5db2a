-- Refusals 10 to 15 of document 01 (1 to 7 are in Check, 8 in Layout, 9 in Text), and the working room asked.
use Rattle.std.specs.Prelude.{ℕ, ◌+◌, ◌-◌, ◌*◌, Bool, false, not, ◌&&◌, ◌||◌, List, [], ◌∷◌, map, length, eqb, ltb}
use Rattle.laws.specs.Tools.{some_below, any, member}
use Rattle.defs.specs.Table.{statements, entries, child_refs, qed, kind, label_length, mandatory, entry_stmt}
use Rattle.defs.specs.Graph.{graph_of}
use Rattle.defs.specs.Counts.{reachable}
use Rattle.defs.specs.Steps.{normal_count}
use Rattle.defs.specs.Order.{listed}
use Rattle.defs.specs.Layout.{Layout, line_room}
use Rattle.defs.specs.Text.{packed_of}

-- a floating (kind 1) stands after an essential (kind 2)
unfoldable pub mixed : List ℕ → Bool
mixed [] = false
mixed (k ∷ ks) = (eqb k 2 && member 1 ks) || mixed ks

-- 10: the theorem's list has a floating after an essential
unfoldable pub bad10 : List ℕ → Bool
bad10 w = mixed (map (kind w) (mandatory w))

-- 11: a reachable essential not in the theorem's list
unfoldable pub bad11 : List ℕ → Bool
bad11 w =
    some_below
    (λ e. reachable (graph_of w) (entries w) (qed w) e && (eqb (kind w (entry_stmt w e)) 2 && not (member (entry_stmt w e) (mandatory w))))
    (entries w)

-- 12: a label to be listed longer than line width minus indent
unfoldable pub bad12 : List ℕ → Layout → Bool
bad12 w l = any (λ k. ltb (l.width - l.indent) (label_length w k)) (listed w (packed_of w false))

-- the most steps of a normal list
abbrev pub max_normal_steps : ℕ
max_normal_steps = 1000000

-- 13: more than 1,000,000 normal steps
unfoldable pub bad13 : List ℕ → Bool
bad13 w = ltb max_normal_steps (normal_count (graph_of w) (qed w))

-- working u32: 8×(n+c+s+1); for label order also u16: (s+1)×(W+1)
unfoldable pub need32 : List ℕ → ℕ
need32 w = 8 * (entries w + child_refs w + statements w + 1)

unfoldable pub need16 : List ℕ → Layout → ℕ
need16 w l = (statements w + 1) * (line_room l + 1)

-- 14: a working slice too short
abbrev pub bad14 : ℕ → List ℕ → Bool
bad14 need work = ltb (length work) need

-- 15: output does not fit
abbrev pub bad15 : List ℕ → List ℕ → Bool
bad15 result out = ltb (length out) (length result)
