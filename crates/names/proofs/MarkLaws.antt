-- Laws of the pass that names the marks in place: what holds while it runs, and its two turns.
-- A name is never below its mark, so a name that is stored takes the place of a number that was tried already.
use mathlib.Core.Path.{◌≡◌, ap, ◌∙◌}
use mathlib.Core.Bool.{true, false}
use mathlib.Core.List.{List, ◌++◌}
use Prim.Native.Nat.{ℕ, suc, ◌+◌, ◌<◌, ◌≤◌}
use native.Mathlib.Decide.{ℕ_discrete}
use native.Mathlib.Omega.{arith}
use lib.ListN.{length, set, get_or-append}
use lib.Seq.{get_or-set_same, get_or-set_other}
use Rattle.laws.specs.Lists.{boole}
use Rattle.defs.specs.Table.{word}
use Rattle.defs.specs.Names.{is_free_in, name_number_in}
use Rattle.defs.specs.NameLaws.{free_no_label, not_free_label, name_least, name_most, Next, next_first, next_free, next_label}
use Rattle.names.specs.Taken.{statements_in, taken_by}
use Rattle.names.specs.Named.{Named}
use Rattle.names.proofs.TakenLaws.{taken_length, taken_at}

-- the marks up to m have their names, v is the next number to try, and what is not tried yet says which numbers below n are labels
pub record Naming (ss b : List ℕ) (s n m v : ℕ) (names : List ℕ) : Type 0 where
  pub next : Next ss b s m v
  pub named : (j : ℕ) → 0 < j → j ≤ m → word names j ≡ name_number_in ss b s j
  pub untried : (x : ℕ) → v ≤ x → word names x ≡ word (taken_by ss b s n) x

pub naming_first : (ss b names : List ℕ) (s n : ℕ) → names ≡ taken_by ss b s n → Naming ss b s (length names) 0 1 names
naming_first ss b names s n e =
    let l : length names ≡ n = ap length e ∙ taken_length ss b s n in
    record { next = next_first ss b s; named = λ j h k. absurd (omega arith); untried = λ x h. rw l (ap (λ (t : List ℕ). word t x) e) }

module _ {ss b : List ℕ} {s n m v : ℕ} {names : List ℕ} (p : Naming ss b s n m v names) where
  -- the next number to try has a place
  pub try_most : v ≤ m + 1 + s
  try_most = omega (arith, p.next, name_most ss b s (suc m))

  -- what stands at it says whether it is free
  is_free : v < n → word names v ≡ 0 → is_free_in ss b s v ≡ true
  is_free h z =
      boole (is_free_in ss b s v) (λ t. t)
      (λ t. let one : word (taken_by ss b s n) v ≡ 1 = rw (not_free_label ss b s v t) at (taken_at ss b s n v h) in
      absurd (omega (arith, p.untried v (omega arith))))

  not_free : v < n → (word names v ≡ 0 → ⊥) → is_free_in ss b s v ≡ false
  not_free h z =
      boole (is_free_in ss b s v)
      (λ t. let none : word (taken_by ss b s n) v ≡ 0 = rw (free_no_label ss b s v t) at (taken_at ss b s n v h) in
      absurd (z (p.untried v (omega arith) ∙ none)))
      (λ t. t)

  -- a free number names the next mark
  pub naming_free : v < n → v < length names → word names v ≡ 0 → Naming ss b s n (m + 1) (v + 1) (set names (m + 1) v)
  naming_free h l z =
      let f = next_free ss b s m v p.next (is_free h z) in
      let e : suc m ≡ m + 1 = omega arith in
      let low : m + 1 ≤ v = omega (arith, name_least ss b s (suc m), f.0) in
      record {
        next = rw e at f.1;
        named = λ j h k. elim (ℕ_discrete j (m + 1)) [
          | yes i ↦ rw i (get_or-set_same names (m + 1) v 0 (omega arith) ∙ f.0 ∙ ap (name_number_in ss b s) e)
          | no i ↦ get_or-set_other names (m + 1) j v 0 i ∙ p.named j h (omega arith)
        ];
        untried = λ x k. get_or-set_other names (m + 1) x v 0 (λ i. (let g : x ≡ m + 1 = i in omega arith)) ∙ p.untried x (omega arith);
      }

  -- a label is passed
  pub naming_label : v < n → (word names v ≡ 0 → ⊥) → Naming ss b s n m (v + 1) names
  naming_label h z =
      record {
        next = next_label ss b s m v p.next (not_free h z);
        named = p.named;
        untried = λ x k. p.untried x (omega arith);
      }

-- ---- when all marks have their names

pub all_named : {ss b : List ℕ} {n m v : ℕ} {names : List ℕ} (count : ℕ) → Naming ss b (statements_in ss) n m v names → count ≤ m → Named ss b count names
all_named count p h m some most = p.named m some (omega arith)

-- what stands behind them does not matter
pub named_front : (ss b names rest : List ℕ) (count : ℕ) → Named ss b count names → count < length names → Named ss b count (names ++ rest)
named_front ss b names rest count named h m some most = get_or-append names rest 0 m (omega arith) ∙ named m some most
