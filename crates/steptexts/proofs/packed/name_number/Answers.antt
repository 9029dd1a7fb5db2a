-- `name_number` meets its contract: mark 0 has no name, and that of any other stands at its place past `names`.
-- The place lies inside the words by what is required.
use native.Mathlib.Omega.{arith}
use Rattle.laws.specs.Lists.{eqb_yes, eqb_no}
use Rattle.steptexts.specs.Texts.{number_at}
use Rattle.steptexts.proofs.packed.name_number.Goals as goal

pub returns-then-m-eq0 : goal.returns-then-m-eq0
unfolding number_at
returns-then-m-eq0 c = rw (eqb_yes c.args.m 0 (omega (arith, c.if-m-eq0.true)))

pub returns : goal.returns
unfolding number_at
returns c = rw (eqb_no c.args.m 0 (λ z. omega (arith, c.if-m-eq0.false)))
