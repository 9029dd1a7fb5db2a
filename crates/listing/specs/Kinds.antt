-- The listed statements of one kind, kept in order: assertions, or all others.
use Rattle.std.specs.Prelude.{◌≡◌, Bool, true, false, not, List, ℕ, ◌+◌, ◌≤◌, ◌<◌, length, get_or, set, eqb}
use Rattle.laws.specs.Tools.{pick, keep}
use Rattle.laws.specs.Lists.{All}
use Rattle.defs.specs.Table.{word, kind_in}
use Rattle.table.specs.Records.{StatementIn}
use Rattle.listing.specs.Arrays.{OnlyIn}

-- the statement is an assertion, where those are wanted; else that it is none
unfoldable pub wanted : List ℕ → Bool → ℕ → Bool
wanted ss assertions k = pick assertions (eqb (kind_in ss k) 0) (not (eqb (kind_in ss k) 0))

-- a statement at a place, and a place for it
pub record OneReady (ss : List ℕ) (at end : ℕ) (ws : List ℕ) : Type 0 where
  pub at_in : at < length ws
  pub end_in : end < length ws
  pub inside : StatementIn ss (word ws at)

-- it is kept where it is wanted
pub record OneKept (ss : List ℕ) (assertions : Bool) (at end end' : ℕ) (ws ws' : List ℕ) : Type 0 where
  pub left_out : wanted ss assertions (word ws at) ≡ false → (end' ≡ end) × (ws' ≡ ws)
  pub taken : wanted ss assertions (word ws at) ≡ true → (end' ≡ end + 1) × (ws' ≡ set ws end (word ws at))

-- the words hold this list from a place on
abbrev pub Holds : ℕ → List ℕ → List ℕ → Type 0
Holds at list ws = (i : ℕ) → i < length list → word ws (at + i) ≡ get_or list i 0

-- a list of statements that stands before the place where the kept ones go
pub record ListReady (ss : List ℕ) (at many to : ℕ) (ws : List ℕ) : Type 0 where
  pub apart : at + many ≤ to
  pub room : to + many ≤ length ws
  pub list : List ℕ
  pub as_many : many ≡ length list
  pub holds : Holds at list ws
  pub inside : All (λ k. StatementIn ss k) list

-- the kept ones stand from `to` to `end`, whatever list it was
unfoldable pub Kept : (ss : List ℕ) (assertions : Bool) (at many to end : ℕ) (ws ws' : List ℕ) → Type 0
Kept ss assertions at many to end ws ws' =
    ((list : List ℕ) → many ≡ length list → Holds at list ws
    → (end ≡ to + length (keep (wanted ss assertions) list)) × Holds to (keep (wanted ss assertions) list) ws')
    × OnlyIn to (to + many) ws ws'
