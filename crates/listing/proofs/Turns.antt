-- The steps of a packed list, one by one: what the arrays hold after the first i of them, and what a turn of the loop adds.
-- The steps lie before the arrays, so that they stay as they were.
use mathlib.Core.Path.{◌≡◌, refl, sym, ap, ◌∙◌, subst}
use mathlib.Core.Logic.{◌≢◌, inl}
use mathlib.Core.List.{List, [], ◌∷◌, ◌++◌, map, append-nil}
use Prim.Native.Nat.{ℕ, ◌+◌, ◌*◌, ◌≤◌, ◌<◌}
use native.Mathlib.Omega.{arith}
use native.Mathlib.Numerals.{add-one}
use native.Mathlib.Decide.{ℕ_discrete}
use lib.ListN.{length, get_or, take, drop, take-append-drop, length-map}
use lib.Seq.{take-suc, take-length, length-take-le}
use Rattle.laws.specs.Tools.{part, keep}
use Rattle.laws.specs.Lists.{boole, All, all_split, eqb_yes, eqb_no, keep_append, map-append, part_at}
use Rattle.defs.specs.Table.{word}
use Rattle.defs.specs.Steps.{Step, step_size, flat, step_words, is_normal, normal_stmts}
use Rattle.defs.specs.Laws.{flat_at}
use Rattle.listing.specs.Arrays.{others, Counted, OnlyIn, Ready, OneMore, StepUsed, StepsReady, AllUsed}

-- a step that nothing needs to know
abbrev any_step : Step
any_step = record { ref = 0; mark = 0; stmt = 0; parent = 0; index = 0 }

-- the statements of steps, all of them
abbrev stmts : List Step → List ℕ
stmts ts = map (λ (x : Step). x.stmt) ts

-- no more normal steps than steps
kept_few : (ts : List Step) → length (keep is_normal ts) ≤ length ts
unfolding keep
kept_few [] = omega arith
kept_few (t ∷ ts) = boole (is_normal t) (λ h. rw h (omega (arith, kept_few ts))) (λ h. rw h (omega (arith, kept_few ts)))

stmts_few : (ts : List Step) → length (normal_stmts ts) ≤ length ts
stmts_few ts = omega (arith, length-map (keep is_normal ts) (λ (x : Step). x.stmt), kept_few ts)

-- the normal steps of one list after another
stmts_append : (xs ys : List Step) → normal_stmts (xs ++ ys) ≡ normal_stmts xs ++ normal_stmts ys
stmts_append xs ys = ap stmts (keep_append is_normal xs ys) ∙ map-append (λ (x : Step). x.stmt) (keep is_normal xs) (keep is_normal ys)

-- after the first i steps
pub record UpTo (steps many s from i listed : ℕ) (ws₀ ws : List ℕ) : Type 0 where
  pub some_left : i ≤ many
  pub same_length : length ws ≡ length ws₀
  pub counted : (ts : List Step) (thm : List ℕ) → many ≡ length ts → part steps (step_size * many) ws₀ ≡ flat ts → Counted s from 0 thm [] ws₀
      → Counted s from listed thm (others thm (normal_stmts (take i ts))) ws
  pub only : OnlyIn (from + s) (from + 3 * s) ws₀ ws

pub none_yet : (steps many s from : ℕ) (ws : List ℕ) → UpTo steps many s from 0 0 ws ws
unfolding others keep
none_yet steps many s from ws = record { some_left = omega arith; same_length = refl; counted = λ ts thm e h c. c; only = λ j l. refl }

pub all_done : (steps many s from i listed : ℕ) (ws₀ ws : List ℕ) → i ≡ many → UpTo steps many s from i listed ws₀ ws → AllUsed steps many s from listed ws₀ ws
unfolding AllUsed
all_done steps many s from i listed ws₀ ws e u = (
  λ ts thm m h c.
      let whole : take i ts ≡ ts = ap (λ (k : ℕ). take k ts) (e ∙ m) ∙ take-length ts in
      subst (λ (l : List Step). Counted s from listed thm (others thm (normal_stmts l)) ws) whole (u.counted ts thm m h c),
  u.only,
)

-- ---- step i

module _ (steps many s from i listed : ℕ) (ws₀ ws : List ℕ) (u : UpTo steps many s from i listed ws₀ ws) (l : i < many) (apart : steps + step_size * many ≤ from) where
  step_word_lem : (ts : List Step) (j : ℕ) → many ≡ length ts → part steps (step_size * many) ws₀ ≡ flat ts → j < step_size
      → word ws (steps + step_size * i + j) ≡ get_or (step_words (get_or ts i any_step)) j 0
  step_word_lem ts j e h m =
      let at : steps + step_size * i + j ≡ steps + (step_size * i + j) = omega arith in
      u.only (steps + step_size * i + j) (inl (omega arith))
      ∙ ap (word ws₀) at
      ∙ sym (part_at steps (step_size * many) ws₀ (step_size * i + j) 0 (omega arith))
      ∙ ap (λ (x : List ℕ). get_or x (step_size * i + j) 0) h
      ∙ flat_at ts any_step i j (omega arith) m

  module _ (ts : List Step) (e : many ≡ length ts) (h : part steps (step_size * many) ws₀ ≡ flat ts) where
    abbrev t : Step
    t = get_or ts i any_step

    ref_is : word ws (steps + step_size * i) ≡ t.ref
    unfolding step_words
    ref_is = ap (word ws) (omega arith) ∙ step_word_lem ts 0 e h (omega arith)

    stmt_is : word ws (steps + step_size * i + 2) ≡ t.stmt
    unfolding step_words
    stmt_is = step_word_lem ts 2 e h (omega arith)

    more : take (i + 1) ts ≡ take i ts ++ (t ∷ [])
    more = ap (λ (k : ℕ). take k ts) (add-one i) ∙ take-suc ts i any_step (omega arith)

    stmts_more : normal_stmts (take (i + 1) ts) ≡ normal_stmts (take i ts) ++ normal_stmts (t ∷ [])
    stmts_more = ap normal_stmts more ∙ stmts_append (take i ts) (t ∷ [])

    stmts_normal : word ws (steps + step_size * i) ≡ 0 → normal_stmts (take (i + 1) ts) ≡ normal_stmts (take i ts) ++ (word ws (steps + step_size * i + 2) ∷ [])
    unfolding keep
    stmts_normal z = stmts_more ∙ rw (eqb_yes t.ref 0 (sym ref_is ∙ z), stmt_is)

    stmts_reference : word ws (steps + step_size * i) ≢ 0 → normal_stmts (take (i + 1) ts) ≡ normal_stmts (take i ts)
    unfolding keep
    stmts_reference z = stmts_more ∙ rw (eqb_no t.ref 0 (λ y. z (ref_is ∙ y))) (append-nil (normal_stmts (take i ts)))

  -- one step more
  pub turn : (listed' : ℕ) (ws' : List ℕ) → length ws' ≡ length ws → StepUsed s from listed (steps + step_size * i) listed' ws ws'
      → UpTo steps many s from (i + 1) listed' ws₀ ws'
  unfolding OneMore
  turn listed' ws' len one =
      elim (ℕ_discrete (word ws (steps + step_size * i)) 0) [
        | yes z ↦ record {
          some_left = omega arith;
          same_length = len ∙ u.same_length;
          counted = λ ts thm e h c.
              subst (λ (xs : List ℕ). Counted s from listed' thm (others thm xs) ws') (sym (stmts_normal ts e h z))
              ((one.normal z).0 thm (normal_stmts (take i ts)) (u.counted ts thm e h c));
          only = λ j k. (one.normal z).1 j k ∙ u.only j k;
        }
        | no z ↦ rw ((one.reference z).0, (one.reference z).1) (record {
          some_left = omega arith;
          same_length = u.same_length;
          counted = λ ts thm e h c. subst (λ (xs : List ℕ). Counted s from listed thm (others thm xs) ws) (sym (stmts_reference ts e h z)) (u.counted ts thm e h c);
          only = u.only;
        })
      ]

-- its statement may be put down
pub step_ready : (steps many s from i listed : ℕ) (ws₀ ws : List ℕ) → StepsReady steps many s from ws₀ → UpTo steps many s from i listed ws₀ ws → i < many
    → word ws (steps + step_size * i) ≡ 0 → Ready s from listed (word ws (steps + step_size * i + 2)) ws
step_ready steps many s from i listed ws₀ ws r u l z =
    let xs = normal_stmts (take i r.ts) in
    let next = stmts_normal steps many s from i listed ws₀ ws u l r.apart r.ts r.as_many r.holds z in
    let rest = normal_stmts (drop (i + 1) r.ts) in
    let whole : normal_stmts r.ts ≡ normal_stmts (take (i + 1) r.ts) ++ rest =
    ap normal_stmts (sym (take-append-drop (i + 1) r.ts)) ∙ stmts_append (take (i + 1) r.ts) (drop (i + 1) r.ts) in
    let low = all_split (λ k. k < s) xs (word ws (steps + step_size * i + 2) ∷ [])
    (subst (All (λ k. k < s)) next (all_split (λ k. k < s) (normal_stmts (take (i + 1) r.ts)) rest (subst (All (λ k. k < s)) whole r.below)).0) in
    record {
      room = omega (arith, r.room, u.same_length);
      inside = low.1.0;
      small = r.small;
      thm = r.thm;
      xs = xs;
      below = low.0;
      few = omega (arith, stmts_few (take i r.ts), length-take-le i r.ts (omega (arith, r.as_many)), r.few);
      counted = u.counted r.ts r.thm r.as_many r.holds r.fresh;
    }
