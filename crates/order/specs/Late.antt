-- The answer once the work has begun: tests 10 to 12 and 15.
use Rattle.std.specs.Prelude.{◌≡◌, ◌||◌, List, [], ◌∷◌, ◌++◌, ℕ}
use Rattle.defs.specs.Check.{◌when◌, first_of}
use Rattle.defs.specs.Layout.{Layout}
use Rattle.defs.specs.Text.{labels_of, letters_for}
use Rattle.defs.specs.Refusals.{bad15}
use Rattle.defs.specs.Outcome.{compressed_tests, length_after, out_after}

unfoldable pub late_number : (w : List ℕ) (l : Layout) (list letters : List ℕ) → ℕ
late_number w l list letters = first_of (compressed_tests w l ++ 15 when (bad15 (labels_of w l) list || bad15 (letters_for w l) letters) ∷ [])

-- the number, both lengths, and both outputs
pub record WroteBoth (w : List ℕ) (l : Layout) (number first second : ℕ) (list list' letters letters' : List ℕ) : Type 0 where
  pub number_is : number ≡ late_number w l list letters
  pub first_is : first ≡ length_after (late_number w l list letters) (labels_of w l)
  pub second_is : second ≡ length_after (late_number w l list letters) (letters_for w l)
  pub list_is : list' ≡ out_after (late_number w l list letters) (labels_of w l) list
  pub letters_is : letters' ≡ out_after (late_number w l list letters) (letters_for w l) letters
