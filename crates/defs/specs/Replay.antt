-- Replay of document 01, `Reading back`: a step list that is not explicit, read into new entries.
use Rattle.std.specs.Prelude.{ℕ, ◌+◌, ◌-◌, ◌*◌, ◌/◌, ◌%◌, Bool, not, ◌&&◌, ◌||◌, List, [], ◌∷◌, ◌++◌, length, get_or, take, drop, eqb, leb, ltb}
use Rattle.laws.specs.Tools.{pick, all_of, first_from, same, zeroed, over_zero}
use Rattle.defs.specs.Table.{statements, hyp_count, entry_size, max_entries, max_child_refs}
use Rattle.defs.specs.Check.{◌when◌, first_of, or_else, table_refusal}
use Rattle.defs.specs.Graph.{Graph, graph_in}
use Rattle.defs.specs.Steps.{Step, step_size, is_normal}
use Rattle.defs.specs.Refusals.{bad14}
use Rattle.defs.specs.Outcome.{Outcome}

-- the steps that a slice of words holds, five words each
unfoldable pub steps_in : List ℕ → List Step
steps_in [] = []
steps_in (a ∷ []) = []
steps_in (a ∷ b ∷ []) = []
steps_in (a ∷ b ∷ c ∷ []) = []
steps_in (a ∷ b ∷ c ∷ d ∷ []) = []
steps_in (a ∷ b ∷ c ∷ d ∷ e ∷ rest) = record { ref = a; mark = b; stmt = c; parent = d; index = e } ∷ steps_in rest

-- where a replay stands: the entries built (three words each) and their children; the stack, its top last; the entry of each mark
pub record Replay : Type 0 where
  pub built : List ℕ
  pub kids : List ℕ
  pub stack : List ℕ
  pub named : List ℕ

-- starts with no entries and an empty stack
unfoldable pub fresh : Replay
fresh = record { built = []; kids = []; stack = []; named = [] }

abbrev pub built_count : Replay → ℕ
built_count r = length r.built / entry_size

-- ---- one step

-- a mark must be one more than the marks before that step; a reference must be among those; a statement is below s;
-- explicit fields and unused fields are 0
unfoldable pub step_rules : List ℕ → Replay → Step → List Bool
step_rules w r t =
    (eqb t.mark 0 || eqb t.mark (length r.named + 1))
    ∷ pick (is_normal t) (ltb t.stmt (statements w)) (leb t.ref (length r.named) && eqb t.stmt 0)
    ∷ eqb t.parent 0
    ∷ eqb t.index 0
    ∷ []

-- 16: otherwise
unfoldable pub malformed : List ℕ → Replay → Step → Bool
malformed w r t = not (all_of (step_rules w r t))

-- 18: a normal step pops its statement's hypothesis count
unfoldable pub stack_short : List ℕ → Replay → Step → Bool
stack_short w r t = is_normal t && ltb (length r.stack) (hyp_count w t.stmt)

-- what a normal step pops, in order, and what it leaves
unfoldable pub popped : List ℕ → Replay → Step → List ℕ
popped w r t = drop (length r.stack - hyp_count w t.stmt) r.stack

unfoldable pub left : List ℕ → Replay → Step → List ℕ
left w r t = take (length r.stack - hyp_count w t.stmt) r.stack

-- the lowest entry exactly equal to the one asked for; the number of entries if there is none
unfoldable pub lookup : Replay → ℕ → List ℕ → ℕ
lookup r k cs =
    let g : Graph = graph_in r.built r.kids in
    first_from (λ e. eqb (g.stmt e) k && same (g.kids e) cs) 0 (built_count r)

-- 15: an entry to be appended, 3 words, or its children do not fit what is left of their slices, or would pass n's or c's limit
unfoldable pub no_room : List ℕ → ℕ → ℕ → Replay → Step → Bool
no_room w roomBuilt roomKids r t =
    is_normal t && eqb (lookup r t.stmt (popped w r t)) (built_count r)
    && (ltb roomBuilt (length r.built + entry_size)
    || ltb roomKids (length r.kids + length (popped w r t))
    || ltb max_entries (built_count r + 1)
    || ltb max_child_refs (length r.kids + length (popped w r t)))

-- a normal step finds an exactly equal entry or appends one, and pushes it
unfoldable pub normal_step : List ℕ → Replay → Step → Replay
normal_step w r t =
    let cs : List ℕ = popped w r t in
    let e : ℕ = lookup r t.stmt cs in
    let found : Bool = ltb e (built_count r) in
    record {
      built = pick found r.built (r.built ++ t.stmt ∷ length r.kids ∷ length cs ∷ []);
      kids = pick found r.kids (r.kids ++ cs);
      stack = left w r t ++ e ∷ [];
      named = r.named;
    }

-- a reference pushes the entry its mark names
unfoldable pub refer_step : Replay → Step → Replay
refer_step r t =
    record { built = r.built; kids = r.kids; stack = r.stack ++ get_or r.named (t.ref - 1) 0 ∷ []; named = r.named }

-- either kind of step may carry a mark, which names the entry just pushed
unfoldable pub name_top : Step → Replay → Replay
name_top t r =
    let top : ℕ = get_or r.stack (length r.stack - 1) 0 in
    record { built = r.built; kids = r.kids; stack = r.stack; named = pick (eqb t.mark 0) r.named (r.named ++ top ∷ []) }

unfoldable pub after_step : List ℕ → Replay → Step → Replay
after_step w r t = name_top t (pick (is_normal t) (normal_step w r t) (refer_step r t))

-- ---- all steps

pub data Turn : Type 0 where
  refused : ℕ → Turn
  going : Replay → Turn

unfoldable pub and_then : Turn → (Replay → Turn) → Turn
and_then (refused k) next = refused k
and_then (going r) next = next r

-- per step 16, 18, 15
unfoldable pub one_step : List ℕ → ℕ → ℕ → Replay → Step → Turn
one_step w roomBuilt roomKids r t =
    let k : ℕ = first_of (16 when malformed w r t ∷ 18 when stack_short w r t ∷ 15 when no_room w roomBuilt roomKids r t ∷ []) in
    let next : Turn = going (after_step w r t) in
    pick (eqb k 0) next (refused k)

-- at the end 18 unless exactly one item is on the stack
unfoldable pub all_steps : List ℕ → ℕ → ℕ → List Step → Replay → Turn
all_steps w roomBuilt roomKids [] r = pick (eqb (length r.stack) 1) (going r) (refused 18)
all_steps w roomBuilt roomKids (t ∷ ts) r = and_then (one_step w roomBuilt roomKids r t) (λ next. all_steps w roomBuilt roomKids ts next)

unfoldable pub replayed : List ℕ → ℕ → ℕ → List Step → Turn
replayed w roomBuilt roomKids ts = all_steps w roomBuilt roomKids ts fresh

-- ---- the answer, and what the two outputs and the working slice hold

-- before the steps: 1 to 7, list a multiple of five (16), working u32 at least twice the steps (14)
unfoldable pub replay_first : (w b steps work : List ℕ) → ℕ
replay_first w b steps work =
    or_else (table_refusal w b) (first_of (16 when (not (eqb (length steps % step_size) 0)) ∷ 14 when bad14 (2 * (length steps / step_size)) work ∷ []))

-- refused before the steps: nothing changes
unfoldable pub unchanged : ℕ → (work entries children : List ℕ) → Outcome
unchanged k work entries children =
    record { number = k; lengths = 0 ∷ 0 ∷ []; outs = entries ∷ children ∷ []; works = work ∷ [] }

-- refused later: both outputs and the working slice are zero. Success: unused output and the working slice are zero
unfoldable pub settled : (work entries children : List ℕ) → Turn → Outcome
settled work entries children (refused k) =
    record { number = k; lengths = 0 ∷ 0 ∷ []; outs = zeroed entries ∷ zeroed children ∷ []; works = zeroed work ∷ [] }
settled work entries children (going r) =
    record {
      number = 0;
      lengths = length r.built ∷ length r.kids ∷ [];
      outs = over_zero r.built entries ∷ over_zero r.kids children ∷ [];
      works = zeroed work ∷ [];
    }

unfoldable pub replay_outcome : (w b steps work entries children : List ℕ) → Outcome
replay_outcome w b steps work entries children =
    let k : ℕ = replay_first w b steps work in
    let after : Outcome = settled work entries children (replayed w (length entries) (length children) (steps_in steps)) in
    pick (eqb k 0) after (unchanged k work entries children)
