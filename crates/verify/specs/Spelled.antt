-- What the letters came to: a refusal, whatever would have come next, or the decoded steps at the front of their slice.
use Rattle.std.specs.Prelude.{◌≡◌, ℕ, List, Result, Ok, Err}
use Rattle.defs.specs.Layout.{Layout}
use Rattle.verify.specs.Verified.{decoded_gave, spelled_way}
use Rattle.verify.specs.Came.{Front}
use Rattle.verify.specs.declared.verdict.Verdict.{Verdict}
use Rattle.verify.specs.Verdicts.{told}
use Rattle.verify.specs.declared.verdict.Disagreement.{Disagreement}

pub record Spelt (w b : List ℕ) (l : Layout) (work sums list letters steps steps' : List ℕ) (len : ℕ) : Type 0 where
  pub goes_on : (next : Verdict) → spelled_way w b l work sums list letters steps next ≡ next
  pub steps_kept : Front len steps' (decoded_gave w b l work sums list letters steps).first

unfoldable pub Decoding : (w b : List ℕ) (l : Layout) (work sums list letters steps steps' : List ℕ) → Result ℕ Disagreement → Type 0
Decoding w b l work sums list letters steps steps' (Err disagreement) = (next : Verdict) → spelled_way w b l work sums list letters steps next ≡ told disagreement
Decoding w b l work sums list letters steps steps' (Ok len) = Spelt w b l work sums list letters steps steps' len
