-- The count that cuts the labels into blocks: it starts from the floating count.
use Rattle.std.specs.Prelude.{◌≡◌, ℕ, ◌+◌, ◌<◌, length, take, drop}
use Rattle.laws.specs.Tools.{total}
use Rattle.defs.specs.Order.{cutoffs, start_at}

-- the floating count with the cutoffs passed taken from it; `level` is the cutoff in force
pub record Counted (floatings i level : ℕ) : Type 0 where
  pub starts : start_at cutoffs floatings ≡ record { at = i; ahead = drop level cutoffs }
  pub in_table : level < length cutoffs
  pub counts : total (take level cutoffs) + i ≡ floatings
