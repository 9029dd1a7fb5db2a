-- The listed statements of a packed list, in the working slice: four arrays of s words from `from` on, and one more that is only used on
-- the way. Numbers, uses, those used by first appearance, then the listed ones.
use Rattle.std.specs.Prelude.{◌≡◌, true, false, List, ◌++◌, ℕ, ◌+◌, ◌*◌, ◌≤◌, ◌<◌, length}
use Rattle.laws.specs.Tools.{pick, part, keep, member, place, repeats, count, firsts}
use Rattle.laws.specs.Lists.{All}
use Rattle.defs.specs.Table.{word, max_word, max_statements, max_references, stmt_size}
use Rattle.defs.specs.Steps.{Step, step_size, flat, normal_stmts}
use Rattle.listing.specs.Arrays.{others, OnlyIn}
use Rattle.listing.specs.Kinds.{wanted, Holds}

-- first by first appearance, then stably non-assertions first
unfoldable pub listing : (ss thm : List ℕ) → List Step → List ℕ
listing ss thm ts = keep (wanted ss false) (firsts (others thm (normal_stmts ts))) ++ keep (wanted ss true) (firsts (others thm (normal_stmts ts)))

-- a packed list of `many` steps that stands from `steps` on, before the arrays
pub record AllReady (ss thm : List ℕ) (steps many from s : ℕ) (ws : List ℕ) : Type 0 where
  pub room : from + 5 * s ≤ length ws
  pub small : s ≤ max_statements
  pub long : length ss ≡ stmt_size * s
  pub apart : steps + step_size * many ≤ from
  pub few : many < max_word
  pub thm_inside : All (λ k. k < s) thm
  pub thm_once : repeats thm ≡ false
  pub thm_few : length thm ≤ max_references
  pub ts : List Step
  pub as_many : many ≡ length ts
  pub holds : part steps (step_size * many) ws ≡ flat ts
  pub below : All (λ k. k < s) (normal_stmts ts)

-- what the arrays then hold
pub record Arrays (ss thm : List ℕ) (ts : List Step) (from s listed : ℕ) (ws : List ℕ) : Type 0 where
  pub numbers : (k : ℕ) → k < s → word ws (from + k) ≡ pick (member k thm) (place k thm + 1) 0
  pub uses : (k : ℕ) → k < s → word ws (from + s + k) ≡ count k (others thm (normal_stmts ts))
  pub as_many : listed ≡ length (listing ss thm ts)
  pub list : Holds (from + 3 * s) (listing ss thm ts) ws

unfoldable pub Listed : (ss thm : List ℕ) (steps many from s listed : ℕ) (ws ws' : List ℕ) → Type 0
Listed ss thm steps many from s listed ws ws' =
    ((ts : List Step) → many ≡ length ts → part steps (step_size * many) ws ≡ flat ts → Arrays ss thm ts from s listed ws')
    × OnlyIn from (from + 5 * s) ws ws'
