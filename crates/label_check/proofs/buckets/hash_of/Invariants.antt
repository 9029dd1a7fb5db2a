-- `hash_of` is `hash_of`. Invariant: the hash is that of the bytes passed, and has 32 bits, so that no product leaves a word.
-- Assumes nothing.
use Prim.Native.Nat.{◌<◌}
use mathlib.Core.Path.{◌≡◌}
use Rattle.label_check.specs.Buckets.{hash_to}
use Rattle.label_check.proofs.buckets.hash_of.Given as goal

abbrev pub invariant-loop-byte : goal.invariant-loop-byte
invariant-loop-byte l = (l.hash < 4294967296) × (l.hash ≡ hash_to l.label l.byte-index)
