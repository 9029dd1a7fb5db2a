-- The styles and their numbers.
use Rattle.std.specs.Prelude.{◌≡◌, refl, Bool, true, false, ℕ, Result, Ok, Err}
use Rattle.laws.specs.Lists.{clash}
use Rattle.defs.specs.Text.{is_compressed, is_packed, is_explicit, bad9}
use Rattle.text.specs.declared.style.Style.{Style}
use Rattle.text.specs.declared.style.Style.TheVariants.{Compressed, Normal, Packed, Explicit, PackedExplicit}
use Rattle.answers.specs.declared.refusals.Refusal.{Refusal}
use Rattle.answers.specs.declared.refusals.Refusal.TheVariants.{Style as NoStyle}

-- 0 compressed, 1 normal, 2 packed, 3 explicit, 4 packed explicit
abbrev pub number_of : Style → ℕ
number_of Compressed = 0
number_of Normal = 1
number_of Packed = 2
number_of Explicit = 3
number_of PackedExplicit = 4

-- the style that has this number; or none has it, which is refusal 9
abbrev pub StyleIs : ℕ → Result Style Refusal → Type 0
StyleIs number (Ok style) = number ≡ number_of style
StyleIs number (Err refusal) = (bad9 number ≡ true) × (refusal ≡ NoStyle)

-- what a style is, by its name; and that this is what its number says
abbrev pub compressed_is : Style → Bool
compressed_is Compressed = true
compressed_is Normal = false
compressed_is Packed = false
compressed_is Explicit = false
compressed_is PackedExplicit = false

abbrev pub packed_is : Style → Bool
packed_is Compressed = true
packed_is Normal = false
packed_is Packed = true
packed_is Explicit = false
packed_is PackedExplicit = true

abbrev pub explicit_is : Style → Bool
explicit_is Compressed = false
explicit_is Normal = false
explicit_is Packed = false
explicit_is Explicit = true
explicit_is PackedExplicit = true

pub compressed_number : (style : Style) → compressed_is style ≡ is_compressed (number_of style)
compressed_number Compressed = refl
compressed_number Normal = refl
compressed_number Packed = refl
compressed_number Explicit = refl
compressed_number PackedExplicit = refl

pub packed_number : (style : Style) → packed_is style ≡ is_packed (number_of style)
packed_number Compressed = refl
packed_number Normal = refl
packed_number Packed = refl
packed_number Explicit = refl
packed_number PackedExplicit = refl

pub explicit_number : (style : Style) → explicit_is style ≡ is_explicit (number_of style)
explicit_number Compressed = refl
explicit_number Normal = refl
explicit_number Packed = refl
explicit_number Explicit = refl
explicit_number PackedExplicit = refl

pub compressed_zero : (style : Style) → compressed_is style ≡ true → number_of style ≡ 0
compressed_zero Compressed e = refl
compressed_zero Normal e = clash false e refl
compressed_zero Packed e = clash false e refl
compressed_zero Explicit e = clash false e refl
compressed_zero PackedExplicit e = clash false e refl

-- every style has a number that is not refused
pub number_known : (style : Style) → bad9 (number_of style) ≡ false
number_known Compressed = refl
number_known Normal = refl
number_known Packed = refl
number_known Explicit = refl
number_known PackedExplicit = refl

-- a style that was read, and a number that no style has
pub read_known : (number : ℕ) (read : Result Style Refusal) (style : Style) → StyleIs number read → read ≡ Ok style → number ≡ number_of style
read_known number read style is e = rw e at is

pub read_unknown : (number : ℕ) (read : Result Style Refusal) (refusal : Refusal) → StyleIs number read → read ≡ Err refusal → (bad9 number ≡ true) × (refusal ≡ NoStyle)
read_unknown number read refusal is e = rw e at is
