-- Two results that one contract allows are equal. A contract says that what a call left is a function of what came in; what a call left has the
-- answer's record and every slice in it, so from equal inputs the number, the lengths and every slice are equal.
use Rattle.std.specs.Prelude.{◌≡◌, List, [], ◌∷◌, ℕ}
use Rattle.std.proofs.Common.{sym, ap, ◌∙◌}
use Rattle.defs.specs.Outcome.{Outcome}
use Rattle.answers.specs.declared.written.Written.{Written}
use Rattle.answers.specs.declared.written.WrittenTwo.{WrittenTwo}
use Rattle.answers.specs.Left.{left_one, left_two}

-- ---- what a call left has all its parts

pub one_parts : {r r' : Written} {ws ws' : List (List ℕ)} {o o' : List ℕ} → left_one r ws o ≡ left_one r' ws' o' → (r ≡ r') × ((ws ≡ ws') × (o ≡ o'))
one_parts {r = r} {r' = r'} {o = o} {o' = o'} e =
    let number : r.number ≡ r'.number = ap (λ (x : Outcome). x.number) e in
    let lengths : r.length ∷ [] ≡ r'.length ∷ [] = ap (λ (x : Outcome). x.lengths) e in
    let outs : o ∷ [] ≡ o' ∷ [] = ap (λ (x : Outcome). x.outs) e in
    let len : r.length ≡ r'.length = cc in
    let out : o ≡ o' = cc in
    (λ i. record { number = number i; length = len i }, (ap (λ (x : Outcome). x.works) e, out))

pub two_parts : {r r' : WrittenTwo} {ws ws' : List (List ℕ)} {o₁ o₂ o₁' o₂' : List ℕ} → left_two r ws o₁ o₂ ≡ left_two r' ws' o₁' o₂'
    → (r ≡ r') × ((ws ≡ ws') × ((o₁ ≡ o₁') × (o₂ ≡ o₂')))
two_parts {r = r} {r' = r'} {o₁ = o₁} {o₂ = o₂} {o₁' = o₁'} {o₂' = o₂'} e =
    let number : r.number ≡ r'.number = ap (λ (x : Outcome). x.number) e in
    let lengths : r.first ∷ r.second ∷ [] ≡ r'.first ∷ r'.second ∷ [] = ap (λ (x : Outcome). x.lengths) e in
    let outs : o₁ ∷ o₂ ∷ [] ≡ o₁' ∷ o₂' ∷ [] = ap (λ (x : Outcome). x.outs) e in
    let first : r.first ≡ r'.first = cc in
    let second : r.second ≡ r'.second = cc in
    let out₁ : o₁ ≡ o₁' = cc in
    let out₂ : o₂ ≡ o₂' = cc in
    (λ i. record { number = number i; first = first i; second = second i }, (ap (λ (x : Outcome). x.works) e, (out₁, out₂)))

-- ---- two calls with equal inputs

module _ {A : Type 0} (outcome : A → Outcome) {a a' : A} (same : a ≡ a') where
  pub one_result : {r r' : Written} {ws ws' : List (List ℕ)} {o o' : List ℕ} → left_one r ws o ≡ outcome a → left_one r' ws' o' ≡ outcome a'
      → (r ≡ r') × ((ws ≡ ws') × (o ≡ o'))
  one_result p q = one_parts (p ∙ ap outcome same ∙ sym q)

  pub two_results : {r r' : WrittenTwo} {ws ws' : List (List ℕ)} {o₁ o₂ o₁' o₂' : List ℕ}
      → left_two r ws o₁ o₂ ≡ outcome a → left_two r' ws' o₁' o₂' ≡ outcome a'
      → (r ≡ r') × ((ws ≡ ws') × ((o₁ ≡ o₁') × (o₂ ≡ o₂')))
  two_results p q = two_parts (p ∙ ap outcome same ∙ sym q)
