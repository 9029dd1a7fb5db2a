-- What is counted for an answer: nothing where it is left out, else one more compared, and one more different where it is not the stored one.
-- Each way through the code is one case of the definition.
use mathlib.Core.Path.{◌≡◌, refl, sym, ◌∙◌}
use mathlib.Core.Bool.{Bool, true, false}
use mathlib.Core.List.{List}
use Prim.Native.Nat.{ℕ, ◌+◌, ◌-◌, ◌<◌, ◌≤◌, min}
use native.Mathlib.Omega.{arith}
use Rattle.std.proofs.Math.Decide.{dec_lt}
use lib.ListN.{length}
use borrow.Author.Tests.{eq-eqb, ne_eqb, lt-ltb, le-ltb}
use Rattle.table_file.specs.Words.{word_at}
use Rattle.vectors.specs.Answers.{is_stored}
use Rattle.vectors.specs.Tallies.{left_out, more, malformed_at, moved_to, with_equal, with_different, judged, compared}
use Rattle.vectors.specs.declared.operations.Answer.{Answer}
use Rattle.vectors.specs.declared.tally.Tally.{Tally}

pub one_more : (n r : ℕ) → n ≤ 18446744073709551615 → r ≡ min (n + 1) 18446744073709551615 → r ≡ more n
unfolding more
one_more n r most is = elim (dec_lt n 18446744073709551615) [
  | yes h ↦ rw (lt-ltb n 18446744073709551615 h) (omega arith)
  | no h ↦ rw (le-ltb n 18446744073709551615 (omega arith)) (omega arith)
]

module _ (a : Answer) (l h : ℕ) where
  -- ---- what is counted

  pub not_compared : (t : Tally) → l ≡ left_out → t ≡ judged t a l h
  unfolding judged
  not_compared t e = rw (eq-eqb l left_out e) refl

  pub found_equal : (t : Tally) {r : Tally} {found : Bool} → (l ≡ left_out → ⊥) → found ≡ is_stored a l h → found ≡ true → r ≡ with_equal t → r ≡ judged t a l h
  unfolding judged
  found_equal t n f y e = let yes : is_stored a l h ≡ true = sym f ∙ y in rw (ne_eqb l left_out n, yes) e

  pub found_different : (t : Tally) {r : Tally} {found : Bool} → (l ≡ left_out → ⊥) → found ≡ is_stored a l h → found ≡ false → r ≡ with_different t
      → r ≡ judged t a l h
  unfolding judged
  found_different t n f y e = let no : is_stored a l h ≡ false = sym f ∙ y in rw (ne_eqb l left_out n, no) e

-- ---- the stored answer is read from the data

pub no_answer : (stored : List ℕ) (t : Tally) (a : Answer) {r : Tally} → length stored - t.at < 8 → r ≡ malformed_at t → r ≡ compared stored t a
unfolding compared
no_answer stored t a h e = rw (lt-ltb (length stored - t.at) 8 h) e

pub next_answer : (stored : List ℕ) (t : Tally) (a : Answer) {r moved : Tally} {l h : ℕ} → 8 ≤ length stored - t.at
    → l ≡ word_at stored t.at → h ≡ word_at stored (t.at + 4) → moved ≡ moved_to (t.at + 8) t → r ≡ judged moved a l h → r ≡ compared stored t a
unfolding compared
next_answer stored t a n el eh em e = rw (le-ltb (length stored - t.at) 8 n) (rw (el, eh, em) at e)
