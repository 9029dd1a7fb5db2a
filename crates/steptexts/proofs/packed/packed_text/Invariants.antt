-- `packed_text` meets its contract: at turn i the words of the first i steps are laid. Every step is one of the table's,
-- so what its word asks for is there.
use Rattle.layout.specs.Layouts.{layout_of}
use Rattle.steptexts.specs.Texts.{number_at}
use Rattle.steptexts.proofs.Held.{steps_in}
use Rattle.steptexts.proofs.Laying.{Laid}
use Rattle.steptexts.proofs.packed.packed_text.Given as goal

abbrev pub invariant-loop-i : goal.invariant-loop-i
invariant-loop-i l =
    Laid l.statements l.hyps l.labels l.header.theorem.0 l.explicit (number_at l.work l.fn.places.names) (layout_of l.layout) (steps_in l.work l.fn.places.steps l.i)
    l.initial.line l.line l.initial.out l.out
