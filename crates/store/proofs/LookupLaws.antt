-- Laws of the search for an entry, as its loop runs it: what is still to come decides as the whole does. And the entry that it gives.
-- Assumes nothing.
use mathlib.Core.Path.{◌≡◌, ap}
use mathlib.Core.Bool.{Bool, true, false}
use Prim.Native.Nat.{ℕ, suc, ◌+◌, ◌-◌, ◌≤◌, ◌<◌}
use native.Mathlib.Numerals.{add-one}
use native.Mathlib.Omega.{arith}
use lib.Dec.{ltb, ltb→lt}
use borrow.Author.Tests.{lt-ltb, le-ltb, ltb-false}
use Rattle.std.specs.Prelude.{Some, None}
use Rattle.laws.specs.Tools.{first_from}
use Rattle.laws.specs.Lists.{boole, T_of}
use Rattle.table.specs.declared.numbers.EntryNo.{EntryNo}
use Rattle.store.specs.Store.{entry_below}

-- ---- the first of n

module _ (test : ℕ → Bool) (e n : ℕ) where
  pub first_end : n ≤ e → first_from test e (n - e) ≡ e
  unfolding first_from
  first_end h = let none : n - e ≡ 0 = omega arith in rw none

  module _ (l : e < n) where
    pub first_here : test e ≡ true → first_from test e (n - e) ≡ e
    unfolding first_from
    first_here t = let one : n - e ≡ suc (n - (e + 1)) = omega arith in rw (one, t)

    pub first_next : test e ≡ false → first_from test (e + 1) (n - (e + 1)) ≡ first_from test e (n - e)
    unfolding first_from
    first_next t = let one : n - e ≡ suc (n - (e + 1)) = omega arith in rw (one, t, add-one e)

-- ---- the entry with a number, where there is one

module _ (n e : ℕ) where
  pub entry_here : (x : ℕ) → x < n → x ≡ e → Some (record { 0 = x }) ≡ entry_below n e
  unfolding entry_below
  entry_here x h is = rw (← is, lt-ltb x n h)

  pub entry_none : n ≤ e → None ≡ entry_below n e
  unfolding entry_below
  entry_none h = rw (le-ltb e n h)

  pub entry_found : (x : EntryNo) → Some x ≡ entry_below n e → (e < n) × (x.0 ≡ e)
  unfolding entry_below
  entry_found x h =
      boole (ltb e n)
      (λ yes.
      let same : Some x ≡ Some (record { 0 = e }) = rw yes at h in
      let entry : x ≡ record { 0 = e } = cc in
      (ltb→lt e n (T_of yes), ap (λ (y : EntryNo). y.0) entry))
      (λ no. let none : Some x ≡ None = rw no at h in cc)

  pub entry_missing : None ≡ entry_below n e → n ≤ e
  unfolding entry_below
  entry_missing h =
      boole (ltb e n)
      (λ yes. let some : None ≡ Some (record { 0 = e }) = rw yes at h in cc)
      (λ no. ltb-false e n no)
