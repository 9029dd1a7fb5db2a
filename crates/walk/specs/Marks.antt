-- The word that the packed walk keeps of an entry.
use Rattle.std.specs.Prelude.{ℕ, suc, ◌*◌}
use Rattle.defs.specs.Table.{max_child_refs}

-- counts of parents lie below this
abbrev pub counts_below : ℕ
counts_below = suc max_child_refs

-- mark m is kept as marked + m: above every count, and above every count times a number of children
abbrev pub marked : ℕ
marked = counts_below * max_child_refs
