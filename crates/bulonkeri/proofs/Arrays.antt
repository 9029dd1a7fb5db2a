-- The length of a long array of zeros.
-- A law gives it with no step for each element: `search` and `omega` would count them.
use Rattle.std.proofs.Common.{◌≡◌, ℕ, length, sym}
use Rattle.std.proofs.Math.ListN.{replicate}
use Rattle.std.proofs.lemmas.List.{length-replicate}

pub long : (n : ℕ) → n ≡ length {A = ℕ} (replicate n 0)
long n = sym (length-replicate n 0)
