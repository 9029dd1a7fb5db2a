-- Lines put together piece by piece, and how long they can be: so they have room in the slices lent.
-- A line that grew from the front of a slice that is long enough is what stands there.
use mathlib.Core.Path.{◌≡◌, ap, ◌∙◌}
use mathlib.Core.List.{List, [], ◌∷◌, ◌++◌}
use Prim.Native.Nat.{ℕ, zero, suc, ◌≤◌, ◌<◌}
use native.Mathlib.Omega.{arith}
use lib.Dec.{T, leb, leb→le}
use lib.ListN.{length, get_or, take, drop, length-append}
use lib.Seq.{take_at}
use Rattle.io.proofs.Counting.{prefix_len_of_le}
use Rattle.laws.specs.Tools.{all}
use mir.Facts.{and_yes}
use Rattle.laws.specs.Puts.{Put, Grows, grows_one, grows_more, grows_then}
use Rattle.defs.specs.Bytes.{newline, space}
use Rattle.defs.specs.Names.{digits}
use Rattle.names.proofs.Decimals.{digits_most}
use Rattle.answers_said.specs.Bytes.{bytes}
use Rattle.answers_said.specs.Lines.{line_at, ended, joined, Said}
use Rattle.answers_said.specs.Refusals.{reasons, reason_line, refusal_line}
use Rattle.answers_said.specs.Limits.{too_large_line}
use Rattle.answers_said.proofs.LineLaws.{whole, lines_joined}

-- ---- what stands at the front

pub said : {line before after : List ℕ} {r : ℕ} → Grows line 0 r before after → r ≤ length before → Said line r after
said {line} {before} {after} {r} g h =
    record {
      inside = prefix_len_of_le r after (omega (arith, g.kept));
      says = ap (take r) (g.fits h) ∙ take_at line (drop r before) r (omega (arith, g.ends));
    }

-- ---- a refusal

-- the text that the code has is made of the reasons
pub reason_put : (text : List ℕ) (number k at r : ℕ) {before after : List ℕ} → text ≡ joined reasons → k ≡ number
    → Grows (ended (line_at k text)) at r before after → Grows (reason_line number) at r before after
unfolding reason_line reasons bytes whole all
reason_put text number k at r {before} {after} t e g = rw (e, t, lines_joined reasons tt number) at g

few : (lines : List (List ℕ)) → T (all (λ line. leb (length line) 90) lines) → (k : ℕ) → length (get_or lines k []) ≤ 90
unfolding all
few [] h k = omega arith
few (line ∷ lines) h zero = leb→le (length line) 90 (and_yes (leb (length line) 90) (all (λ l. leb (length l) 90) lines) h).0
few (line ∷ lines) h (suc k) = few lines (and_yes (leb (length line) 90) (all (λ l. leb (length l) 90) lines) h).1 k

reason_most : (number : ℕ) → length (reason_line number) ≤ 91
unfolding reason_line reasons bytes all
reason_most number = omega (arith, few reasons tt number, length-append (get_or reasons number []) (newline ∷ []))

pub refusal_most : (number : ℕ) → number < 4294967296 → length (refusal_line number) ≤ 111
unfolding refusal_line bytes
refusal_most number h =
    omega (
      arith,
      reason_most number,
      digits_most number (omega arith),
      length-append (bytes "refused ") (digits number),
      length-append (bytes "refused " ++ digits number) (bytes ": "),
      length-append ((bytes "refused " ++ digits number) ++ bytes ": ") (reason_line number),
    )

pub refusal_put : (number : ℕ) {begun numbered parted r : ℕ} {o₀ o₁ o₂ o₃ o₄ : List ℕ} → Put (bytes "refused ") 0 begun o₀ o₁ → Put (digits number) begun numbered o₁ o₂
    → Put (bytes ": ") numbered parted o₂ o₃ → Grows (reason_line number) parted r o₃ o₄ → Grows (refusal_line number) 0 r o₀ o₄
unfolding refusal_line
refusal_put number p₁ p₂ p₃ g = grows_then (grows_more (grows_more (grows_one p₁) p₂) p₃) g

-- ---- what is too large

pub too_large_put : (what : List ℕ) (most : ℕ) {begun named parted numbered r : ℕ} {o₀ o₁ o₂ o₃ o₄ o₅ : List ℕ} → Put (bytes "too large: ") 0 begun o₀ o₁ → Put what begun named o₁ o₂
    → Put (space ∷ []) named parted o₂ o₃ → Put (digits most) parted numbered o₃ o₄ → Put (newline ∷ []) numbered r o₄ o₅ → Grows (too_large_line what most) 0 r o₀ o₅
unfolding too_large_line
too_large_put what most p₁ p₂ p₃ p₄ p₅ = grows_more (grows_more (grows_more (grows_more (grows_one p₁) p₂) p₃) p₄) p₅

pub too_large_most : (what : List ℕ) (most : ℕ) → length what ≤ 64 → most < 4294967296 → length (too_large_line what most) ≤ 87
unfolding too_large_line bytes
too_large_most what most few h =
    let begun : List ℕ = bytes "too large: " ++ what in
    omega (
      arith,
      digits_most most (omega arith),
      length-append (bytes "too large: ") what,
      length-append begun (space ∷ []),
      length-append (begun ++ (space ∷ [])) (digits most),
      length-append ((begun ++ (space ∷ [])) ++ digits most) (newline ∷ []),
    )
