-- `verify::read_decoded` meets its contract: the lists differ, or the verdict of the reading.
-- Assumes nothing.
use mathlib.Core.Path.{sym}
use Rattle.verify.proofs.AgainLaws.{unlike, alike}
use Rattle.verify.proofs.WayLaws.{decoded_differ, decoded_same}
use Rattle.verify.proofs.ways.read_decoded.Goals as goal

pub returns-then-ne : goal.returns-then-ne
returns-then-ne c = sym (decoded_differ _ _ _ _ _ _ _ _ _ (unlike _ _ _ c.ne.ensures c.if-ne.true))

pub returns : goal.returns
returns c = decoded_same _ _ _ _ _ _ _ _ _ (alike _ _ _ c.ne.ensures c.if-ne.false) _ c.read_again.ensures
