-- The normal walk as what is left of it to come: a list of steps, by the pairs of the stack.
use Rattle.std.specs.Prelude.{◌≡◌, Bool, List, [], ◌∷◌, ◌++◌, ℕ, zero, suc, ◌+◌, ◌*◌, ◌-◌, ◌<◌, ◌≤◌, length, drop, Option, Some, None}
use Rattle.std.proofs.Common.{subst}
use Rattle.defs.specs.Table.{word, max_statements, entry_stmt_in}
use Rattle.defs.specs.Graph.{Graph, graph_in}
use Rattle.defs.specs.Steps.{Step, parent_word, index_word, list_children, normal_within, normal_steps}
use Rattle.walk.specs.Entries.{size}
use Rattle.walk.specs.Hyps.{parent_of, index_of}
use Rattle.walk.specs.Steps.{step}
use Rattle.walk.specs.declared.hyps.ParentHyp.{ParentHyp}
use Rattle.walk.specs.declared.normal.Taken.{Taken}

-- ---- the stack: pairs of an entry and which of its children is next

abbrev pub pair_size : ℕ
pair_size = 2

abbrev pub entry_on : List ℕ → ℕ → ℕ
entry_on s d = word s (pair_size * d)

abbrev pub next_on : List ℕ → ℕ → ℕ
next_on s d = word s (pair_size * d + 1)

-- d pairs: entries fall towards the top, so that the stack is never deeper than the number of entries; a pair with one above has begun its children
pub record Stacked (es s : List ℕ) (d : ℕ) : Type 0 where
  pub room : pair_size * size es ≤ length s
  pub begun : (j : ℕ) → j + 1 < d → 0 < next_on s j
  pub falls : (j : ℕ) → j < d → entry_on s j + j < size es

-- ---- what is to come

-- of entry e, whose first k children are listed: the others, then itself
unfoldable pub rest : (g : Graph) (explicit : Bool) (parent index e k : ℕ) → List Step
rest g explicit parent index e k =
    list_children (λ c j. normal_within g explicit e c (parent_word explicit (g.stmt e)) (index_word explicit j)) k (drop k (g.kids e))
    ++ (step 0 0 (g.stmt e) parent index ∷ [])

-- the parent and index words of the entry of pair d: those of the pair below, whose next child is already the one after
unfoldable pub parent_at : (es : List ℕ) (explicit : Bool) (s : List ℕ) → ℕ → ℕ
parent_at es explicit s zero = 0
parent_at es explicit s (suc d) = parent_word explicit (entry_stmt_in es (entry_on s d))

unfoldable pub index_at : (explicit : Bool) (s : List ℕ) → ℕ → ℕ
index_at explicit s zero = 0
index_at explicit s (suc d) = index_word explicit (next_on s d - 1)

-- of all d pairs, from the top down
unfoldable pub left : (es cs : List ℕ) (explicit : Bool) (s : List ℕ) → ℕ → List Step
left es cs explicit s zero = []
left es cs explicit s (suc d) =
    rest (graph_in es cs) explicit (parent_at es explicit s d) (index_at explicit s d) (entry_on s d) (next_on s d) ++ left es cs explicit s d

-- ---- what the functions leave

-- the whole walk from root, one pair deep, for a list that is explicit and for one that is not
pub record Begins (es cs : List ℕ) (root : ℕ) (s : List ℕ) : Type 0 where
  pub stacked : Stacked es s 1
  pub all_left : (explicit : Bool) → left es cs explicit s 1 ≡ normal_steps (graph_in es cs) root explicit

-- where l was to come: its head was taken, and its tail is left in the d pairs of s
pub record Stepped (es cs : List ℕ) (explicit : Bool) (l : List Step) (s : List ℕ) (statement : ℕ) (hyp : ParentHyp) (d : ℕ) : Type 0 where
  pub taken : l ≡ step 0 0 statement (parent_of hyp) (index_of hyp) ∷ left es cs explicit s d
  pub stacked : Stacked es s d
  pub parent_few : parent_of hyp ≤ max_statements

-- or there was none
unfoldable pub came : (es cs : List ℕ) (explicit : Bool) (l : List Step) (s : List ℕ) → Option Taken → Type 0
came es cs explicit l s (Some taken) = Stepped es cs explicit l s taken.statement.0 taken.hyp taken.depth
came es cs explicit l s None = l ≡ []

-- what a loop over the walk has at each turn
pub came_step : (es cs : List ℕ) (explicit : Bool) (l : List Step) (s : List ℕ) (r : Option Taken) (taken : Taken)
    → came es cs explicit l s r → r ≡ Some taken → Stepped es cs explicit l s taken.statement.0 taken.hyp taken.depth
unfolding came
came_step es cs explicit l s r taken c e = subst (came es cs explicit l s) e c

-- and at its end
pub came_end : (es cs : List ℕ) (explicit : Bool) (l : List Step) (s : List ℕ) (r : Option Taken) → came es cs explicit l s r → r ≡ None → l ≡ []
unfolding came
came_end es cs explicit l s r c e = subst (came es cs explicit l s) e c
