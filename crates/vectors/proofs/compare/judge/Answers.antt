-- An answer that is left out, one that is the stored one, and one that differs: each is a case of the definition.
use Rattle.std.proofs.Common.{arith}
use Rattle.vectors.proofs.TallyLaws.{not_compared, found_equal, found_different}
use Rattle.vectors.proofs.compare.judge.Goals as goal

pub returns-then-length-eq-LEFT_OUT : goal.returns-then-length-eq-LEFT_OUT
returns-then-length-eq-LEFT_OUT g c = not_compared _ _ _ _ (omega (arith, c.if-length-eq-LEFT_OUT.true))

pub returns-then-is_stored : goal.returns-then-is_stored
returns-then-is_stored g c = found_equal _ _ _ _ (λ z. omega (arith, c.if-length-eq-LEFT_OUT.false, z)) c.is_stored.ensures c.if-is_stored.true c.with_equal.ensures

pub returns : goal.returns
returns g c = found_different _ _ _ _ (λ z. omega (arith, c.if-length-eq-LEFT_OUT.false, z)) c.is_stored.ensures c.if-is_stored.false c.with_different.ensures
