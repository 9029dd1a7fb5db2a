-- The hash of the first elements, so many as were passed.
-- Of each element its number is hashed.
use Rattle.std.proofs.Common.{map}
use Rattle.vectors.proofs.HashLaws.{Hashed}
use Rattle.vectors.proofs.hash.hash.Given as goal

abbrev pub invariant-loop-x : goal.invariant-loop-x
invariant-loop-x g l = Hashed (map g.T.Element.number l.elements) l.h l.x-index
