-- Three arrays of s words in the working slice, from `from` on: the number of each statement, how often it is used, and the used ones
-- by first appearance. Everything outside them stays as it was.
use Rattle.std.specs.Prelude.{◌≡◌, ◌⊎◌, ◌≢◌, not, List, [], ◌∷◌, ◌++◌, ℕ, ◌+◌, ◌*◌, ◌≤◌, ◌<◌, length, get_or}
use Rattle.laws.specs.Tools.{pick, part, keep, member, place, count, firsts}
use Rattle.laws.specs.Lists.{All}
use Rattle.defs.specs.Table.{word, max_word, max_statements}
use Rattle.defs.specs.Steps.{Step, step_size, flat, normal_stmts}

-- what is not in the theorem's list
unfoldable pub others : (thm xs : List ℕ) → List ℕ
others thm xs = keep (λ k. not (member k thm)) xs

-- the words hold the uses ys: of each statement its number in the theorem's list plus 1 (0 where it is not there) and how often it is
-- used; then those that are used by first appearance, `many` of them
pub record Counted (s from many : ℕ) (thm ys ws : List ℕ) : Type 0 where
  pub numbers : (k : ℕ) → k < s → word ws (from + k) ≡ pick (member k thm) (place k thm + 1) 0
  pub uses : (k : ℕ) → k < s → word ws (from + s + k) ≡ count k ys
  pub as_many : many ≡ length (firsts ys)
  pub list : (i : ℕ) → i < many → word ws (from + 2 * s + i) ≡ get_or (firsts ys) i 0

-- the words from a to b may have changed, and no others
abbrev pub OnlyIn : (a b : ℕ) (before after : List ℕ) → Type 0
OnlyIn a b before after = (j : ℕ) → (j < a) ⊎ (b ≤ j) → word after j ≡ word before j

-- what a statement more asks: room for the arrays, and few uses so far
pub record Ready (s from many statement : ℕ) (ws : List ℕ) : Type 0 where
  pub room : from + 3 * s ≤ length ws
  pub inside : statement < s
  pub small : s ≤ max_statements
  pub thm : List ℕ
  pub xs : List ℕ
  pub below : All (λ k. k < s) xs
  pub few : length xs < max_word
  pub counted : Counted s from many thm (others thm xs) ws

-- a statement more
unfoldable pub OneMore : (s from many statement many' : ℕ) (ws ws' : List ℕ) → Type 0
OneMore s from many statement many' ws ws' =
    ((thm xs : List ℕ) → Counted s from many thm (others thm xs) ws → Counted s from many' thm (others thm (xs ++ statement ∷ [])) ws')
    × OnlyIn (from + s) (from + 3 * s) ws ws'

-- a step at a place: a reference, or a normal step whose statement may be put down
pub record StepReady (s from many at : ℕ) (ws : List ℕ) : Type 0 where
  pub step_in : at + step_size ≤ length ws
  pub ready : word ws at ≡ 0 → Ready s from many (word ws (at + 2)) ws

-- a reference changes nothing, a normal step puts down its statement
pub record StepUsed (s from many at many' : ℕ) (ws ws' : List ℕ) : Type 0 where
  pub reference : word ws at ≢ 0 → (many' ≡ many) × (ws' ≡ ws)
  pub normal : word ws at ≡ 0 → OneMore s from many (word ws (at + 2)) many' ws ws'

-- what the steps ask, `many` of them from `steps` on: they lie before the arrays, and their statements are below s
pub record StepsReady (steps many s from : ℕ) (ws : List ℕ) : Type 0 where
  pub room : from + 3 * s ≤ length ws
  pub small : s ≤ max_statements
  pub apart : steps + step_size * many ≤ from
  pub few : many < max_word
  pub ts : List Step
  pub as_many : many ≡ length ts
  pub holds : part steps (step_size * many) ws ≡ flat ts
  pub below : All (λ k. k < s) (normal_stmts ts)
  pub thm : List ℕ
  pub fresh : Counted s from 0 thm [] ws

-- all steps: whatever list and theorem's list the words hold
unfoldable pub AllUsed : (steps many s from listed : ℕ) (ws ws' : List ℕ) → Type 0
AllUsed steps many s from listed ws ws' =
    ((ts : List Step) (thm : List ℕ) → many ≡ length ts → part steps (step_size * many) ws ≡ flat ts → Counted s from 0 thm [] ws
    → Counted s from listed thm (others thm (normal_stmts ts)) ws')
    × OnlyIn (from + s) (from + 3 * s) ws ws'
