-- What a byte of the letters says, by the tests of `one_letter` of crate defs.
use Rattle.std.specs.Prelude.{◌&&◌, ℕ, ◌-◌, leb, eqb}
use Rattle.laws.specs.Tools.{pick}
use Rattle.letters.specs.declared.letter.Letter.{Letter}
use Rattle.letters.specs.declared.letter.Letter.TheVariants.{Finishing, Leading, Mark, Other}

-- `A` to `T` finish a code, `U` to `Y` lead, `Z` marks, and nothing else is a letter
unfoldable pub letter_of : ℕ → Letter
letter_of x =
    pick (leb 65 x && leb x 84) (Finishing (x - 65))
    (pick (leb 85 x && leb x 89) (Leading (x - 84))
    (pick (eqb x 90) Mark Other))
