-- `remove` meets its contract. The invariant `Moved`: the members passed that stay stand at the front, the others where they were.
-- A turn moves one member by the number of places behind (`moved_more`).
use Rattle.blocks.proofs.Removing.{Moved}
use Rattle.blocks.proofs.line.remove.Given as goal

abbrev pub invariant-loop-p : goal.invariant-loop-p
invariant-loop-p l = Moved l.initial.block l.places l.gone l.p l.block
