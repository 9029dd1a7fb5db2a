-- The texts of the styles so far are compared.
-- The slices are as long as those lent.
use Rattle.std.proofs.Common.{◌≡◌, ◌≤◌}
use Rattle.layout.specs.Layouts.{layout_of}
use Rattle.vectors.specs.Asked.{texts_compared}
use Rattle.vectors.proofs.compare.compare_texts.Given as goal

abbrev pub invariant-loop-style : goal.invariant-loop-style
invariant-loop-style g l =
    record {
      few : l.style ≤ 5;
      is : l.now ≡ texts_compared l.stored l.fn.tally l.words l.labels (layout_of l.layout) l.initial.work l.initial.sums l.initial.bytes l.style;
    }
