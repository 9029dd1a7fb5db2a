-- What a slice holds while the digits of a number are put in front of `end`, from the last to the first.
-- Each turn of the loop moves one digit from those to come to those that stand.
use mathlib.Core.Path.{◌≡◌, ap, ◌∙◌}
use mathlib.Core.List.{List, [], ◌∷◌, ◌++◌, append-nil}
use Prim.Native.Nat.{ℕ, ◌+◌, ◌-◌, ◌/◌, ◌%◌, ◌<◌, ◌≤◌}
use native.Mathlib.Omega.{arith}
use lib.ListN.{length, set, length-append}
use Rattle.defs.specs.Names.{digits}
use Rattle.laws.specs.Puts.{Placed, placed_none, placed_front}
use Rattle.names.proofs.Decimals.{digits_one, digits_turn, length_some}

-- the last digits of v stand from `at` on, and the digits of q are still to come
pub record Begun (v q at end : ℕ) (before after : List ℕ) : Type 0 where
  pub tail : List ℕ
  pub whole : digits q ++ tail ≡ digits v
  pub stand : Placed tail at end before after

pub begin : (v end : ℕ) (before : List ℕ) → Begun v v end end before before
begin v end before = record { tail = []; whole = append-nil (digits v); stand = placed_none before end }

module _ {v q at end : ℕ} {before after : List ℕ} (b : Begun v q at end before after) where
  -- there is a place for each digit to come
  pub room : length (digits v) ≤ end → 0 < at
  room h = omega (arith, b.stand.ends, length_some q, length-append (digits q) b.tail, ap length b.whole)

  -- a turn puts the last of them
  pub put_more : 10 ≤ q → 0 < at → end ≤ length before → Begun v (q / 10) (at - 1) end before (set after (at - 1) (48 + q % 10))
  put_more h k l =
      record {
        tail = (48 + q % 10) ∷ b.tail;
        whole = digits_turn q b.tail h ∙ b.whole;
        stand = placed_front at (48 + q % 10) b.stand k l;
      }

  -- and the end puts the only one
  pub put_all : q < 10 → 0 < at → end ≤ length before → Placed (digits v) (at - 1) end before (set after (at - 1) (48 + q))
  put_all h k l =
      let e : (48 + q) ∷ b.tail ≡ digits v = rw (digits_one q h) at b.whole in
      rw e at (placed_front at (48 + q) b.stand k l)
