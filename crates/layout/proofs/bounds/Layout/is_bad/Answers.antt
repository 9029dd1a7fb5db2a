-- `Layout::is_bad` meets its contract. A test that holds contradicts one of the bounds; where the first three do not hold, the last decides.
-- No sum can wrap: 2 is taken from the width only where it is at least 2.
use Rattle.std.proofs.Common.{sym, ◌∙◌, arith}
use mathlib.Core.Logic.{⊎_elim}
use borrow.Author.Tests.{ltb-true, ltb-false}
use Rattle.layout.specs.Layouts.{layout_of}
use Rattle.layout.proofs.Within.{refused, last_decides}
use Rattle.layout.proofs.bounds.Layout.is_bad.Goals.{then-self-lt2, else-self-lt2, then-self-gt-MAX_WIDTH, else-self-gt-MAX_WIDTH}
use Rattle.layout.proofs.bounds.Layout.is_bad.Goals as goal

pub returns-then-self : goal.returns-then-self
returns-then-self c =
    let l = layout_of c.args.self in
    rw c.if-self.true
    (refused l (λ b. elim c.if-self-lt2.branch [
      | then-self-lt2 w ↦ ⊎_elim (λ h. omega arith) (λ h. omega arith) w.if-self-lt2.either
      | else-self-lt2 w ↦ omega (arith, ltb-true _ _ (sym w.value-is ∙ c.if-self.true))
    ]))

pub returns-else-self : goal.returns-else-self
returns-else-self c =
    let l = layout_of c.args.self in
    elim c.if-self-lt2.branch [
      | then-self-lt2 w ↦ elim c.if-self-gt-MAX_WIDTH.branch [
        | then-self-gt-MAX_WIDTH v ↦ absurd (omega (arith, ltb-false _ _ (sym v.t-4-is ∙ sym w.value-is ∙ c.if-self.false)))
        | else-self-gt-MAX_WIDTH v ↦ absurd (omega (arith, ltb-false _ _ (sym v.t-4-is ∙ sym w.value-is ∙ c.if-self.false)))
      ]
      | else-self-lt2 w ↦ (let h = ltb-false _ _ (sym w.value-is ∙ c.if-self.false) in last_decides l (omega (arith, h)) (omega (arith, h)))
    ]
