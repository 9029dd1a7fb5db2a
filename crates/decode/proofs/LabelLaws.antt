-- Laws of refusal 16: which item is wrong, and that a list which repeats none of s numbers is not longer than s.
-- A list of numbers below s that has each once has at most s of them.
use mathlib.Core.Path.{◌≡◌}
use mathlib.Core.Bool.{true, false, not}
use mathlib.Core.List.{List, [], ◌∷◌}
use Prim.Native.Nat.{ℕ, ◌<◌, ◌≤◌}
use native.Mathlib.Omega.{arith}
use lib.Dec.{ltb}
use lib.ListN.{length, get_or}
use borrow.Author.Tests.{lt-ltb, ltb-true, not-false}
use Rattle.laws.specs.Tools.{any, member, repeats, count}
use Rattle.laws.specs.Lists.{All, all_get_d, or_no, boole}
use Rattle.laws.specs.Sums.{bit_cases, count_no}
use Rattle.laws.specs.Counting.{none_at, once_below}
use Rattle.defs.specs.Table.{statements, mandatory}
use Rattle.defs.specs.Decode.{bad_labels}
use Rattle.theorem.specs.Goal.{TheoremOk}
use Rattle.theorem.proofs.Goals.{list_short}
use Rattle.decode.specs.Labels.{bad_item, bad_list}
use Rattle.decode.specs.Decoding.{Short}

-- ---- one item

module _ (s : ℕ) (thm : List ℕ) (k : ℕ) where
  pub item_next : k < s → bad_item s thm k ≡ member k thm
  unfolding bad_item
  item_next h = rw (lt-ltb k s h)

-- ---- the whole list

-- a list that repeats none has each number once at the most
repeats_once : (xs : List ℕ) → repeats xs ≡ false → (x : ℕ) → count x xs ≤ 1
unfolding repeats
repeats_once [] e x = omega arith
repeats_once (y ∷ ys) e x =
    let p = or_no (member y ys) (repeats ys) e in
    bit_cases x y
    (λ q one. let none : count x ys ≡ 0 = rw q (count_no y ys p.0) in omega (arith, none, one))
    (λ q none. omega (arith, repeats_once ys p.1 x))

module _ (s : ℕ) (thm list : List ℕ) where
  all_low : any (bad_item s thm) list ≡ false → All (λ k. k < s) list
  unfolding bad_item
  all_low e = all_get_d (λ k. k < s) list
      (λ i h. ltb-true (get_or list i 0) s (not-false (ltb (get_or list i 0) s) (or_no (not (ltb (get_or list i 0) s)) (member (get_or list i 0) thm) (none_at (bad_item s thm) list i e h)).0))

  -- a list of more than s numbers below s repeats one of them
  pub too_long : any (bad_item s thm) list ≡ false → s < length list → repeats list ≡ true
  too_long e h =
      boole (repeats list) (λ t. t) (λ t. absurd (omega (arith, once_below s list (all_low e) (repeats_once list t))))

  few_items : bad_list s thm list ≡ false → length list ≤ s
  unfolding bad_list
  few_items e =
      let p = or_no (any (bad_item s thm) list) (repeats list) e in
      once_below s list (all_low p.0) (repeats_once list p.1)

  -- the answer, by what the parts say
  pub wrong_item : any (bad_item s thm) list ≡ true → bad_list s thm list ≡ true
  unfolding bad_list
  wrong_item e = rw e

  pub right_items : any (bad_item s thm) list ≡ false → bad_list s thm list ≡ repeats list
  unfolding bad_list
  right_items e = rw e

-- refusal 16 of a table, and how long a list is that passes it
module _ (w thm list : List ℕ) (s : ℕ) (e : s ≡ statements w) (f : thm ≡ mandatory w) where
  pub refusal_16 : bad_list s thm list ≡ bad_labels w list
  unfolding bad_labels bad_list bad_item
  refusal_16 = rw (e, f)

  pub short : TheoremOk w → bad_list s thm list ≡ false → Short thm list
  short ok h = record { few_hyps = rw f (list_short w ok); few_labels = omega (arith, few_items s thm list h, ok.header.s_most) }
