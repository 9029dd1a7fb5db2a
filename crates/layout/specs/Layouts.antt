-- The code's layout as the layout of the definitions.
use Rattle.defs.specs.Layout.{Layout as Defined}
use Rattle.layout.specs.declared.bounds.Layout.{Layout}

abbrev pub layout_of : Layout → Defined
layout_of l = record { width = l.width; indent = l.indent; first = l.first }
