-- Numbers as decimals: the digits and the byte after them stand at the front of the text, and an argument that is the decimal of a
-- number up to 100,000 is found to be one.
use mathlib.Core.Path.{◌≡◌, sym, ap, ◌∙◌}
use mathlib.Core.Bool.{Bool, true, false}
use mathlib.Core.List.{List, [], ◌∷◌, ◌++◌}
use Prim.Native.Nat.{ℕ, ◌+◌, ◌≤◌, ◌<◌}
use native.Mathlib.Omega.{arith}
use lib.ListN.{length, take, drop, length-append}
use lib.Seq.{take_at}
use Rattle.io.specs.Counts.{IsPrefixLen}
use Rattle.laws.specs.Tools.{same}
use Rattle.laws.specs.Lists.{T_of, same_is, same_refl, clash}
use Rattle.laws.specs.Puts.{Put, Grows, grows_one, grows_more}
use Rattle.defs.specs.Names.{digits}
use Rattle.defs.specs.NameLaws.{value, value_digits}
use Rattle.names.specs.Decimals.{capped}
use Rattle.names.proofs.Decimals.{digits_most}
use Rattle.bulonkeri.specs.Numbers.{Says}
use Rattle.std.specs.Prelude.{Some, None}
use Rattle.bulonkeri.proofs.Fits.{counts}

pub number_text : (number x : ℕ) {before between after : List ℕ} {end r : ℕ} → number < 4294967296 → length before ≡ 11
    → Put (digits number) 0 end before between → Put (x ∷ []) end r between after
    → IsPrefixLen r after × (take r after ≡ digits number ++ (x ∷ []))
number_text number x {before} {between} {after} {end} {r} few eleven p q =
    let text : List ℕ = digits number ++ (x ∷ []) in
    let g : Grows text 0 r before after = grows_more (grows_one p) q in
    let most : length (digits number) ≤ 10 = digits_most number (omega arith) in
    let long : length text ≡ length (digits number) + 1 = length-append (digits number) (x ∷ []) in
    let inside : r ≤ length before = omega (arith, g.ends) in
    (counts r after (omega (arith, g.kept)), ap (take r) (g.fits inside) ∙ take_at text (drop r before) r (omega (arith, g.ends)))

pub says_number : (text : List ℕ) (v : ℕ) {found : Bool} → found ≡ same text (digits v) → found ≡ true → Says text (Some v)
unfolding Says
says_number text v e t = same_is text (digits v) (T_of (sym e ∙ t))

pub says_none : (text : List ℕ) {v : ℕ} {found : Bool} → v ≡ capped (value 0 text) → found ≡ same text (digits v) → found ≡ false → Says text None
unfolding Says
says_none text {v} {found} n e f k most is =
    let here : value 0 text ≡ k = ap (value 0) is ∙ value_digits k in
    let v-is : v ≡ k = n ∙ ap capped here ∙ omega arith in
    let yes : same text (digits v) ≡ true = rw (v-is, is) (same_refl (digits k)) in
    clash (same text (digits v)) yes (sym e ∙ f)
