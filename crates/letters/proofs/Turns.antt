-- What a slice holds while the letters of a number are put in front of `end`, from the last to the first.
-- Each turn of the loop moves one letter from those to come to those that stand.
use mathlib.Core.Path.{◌≡◌, sym, ap, ◌∙◌}
use mathlib.Core.List.{List, [], ◌∷◌}
use Prim.Native.Nat.{ℕ, zero, suc, ◌+◌, ◌-◌, ◌/◌, ◌%◌, ◌<◌, ◌≤◌}
use native.Mathlib.Numerals.{add-one}
use native.Mathlib.Omega.{arith}
use lib.ListN.{length, set, length-set}
use lib.Seq.{set-set, take-set-le, drop-set-lt}
use Rattle.defs.specs.Letters.{code}
use Rattle.laws.specs.Puts.{Placed, put_one, placed_front}
use Rattle.letters.proofs.Codes.{front, front_none, front_turn, front_length, leads_turn, code_start, code_length}

-- the last letters of v stand from `at` on, and the leading letters of q are still to come
pub record Begun (v q at end : ℕ) (before after : List ℕ) : Type 0 where
  pub tail : List ℕ
  pub whole : front q tail ≡ code v
  pub stand : Placed tail at end before after

-- the last letter stands there
pub begin : (v end : ℕ) (before : List ℕ) → 0 < end → end ≤ length before
    → let after = set before (end - 1) (65 + v % 20) in Begun v (v / 20) (end - 1) end after after
begin v zero before h k = absurd (omega arith)
begin v (suc place) before h k =
    let x : ℕ = 65 + v % 20 in
    let e : suc place - 1 ≡ place = omega arith in
    rw e (record {
      tail = x ∷ [];
      whole = code_start v;
      stand = rw (add-one place, set-set before place x x) at (put_one (set before place x) place x (rw length-set (omega arith)));
    })

-- while a letter is to come there is a place for it
pub room : {v q at end : ℕ} {before after : List ℕ} → Begun v q at end before after → 0 < q → length (code v) ≤ end → 0 < at
room {v} {q} b h k =
    let e : length (front q b.tail) ≡ length (code v) = ap length b.whole in
    omega (arith, b.stand.ends, front_length q b.tail, leads_turn q h)

-- a turn puts the next letter
pub put_more : (at : ℕ) {v q end : ℕ} {before after : List ℕ} → Begun v q at end before after → 0 < q → 0 < at → end ≤ length before
    → Begun v ((q - 1) / 5) (at - 1) end before (set after (at - 1) (85 + (q - 1) % 5))
put_more at {v} {q} b h k l =
    record {
      tail = (85 + (q - 1) % 5) ∷ b.tail;
      whole = front_turn q b.tail h ∙ b.whole;
      stand = placed_front at (85 + (q - 1) % 5) b.stand k l;
    }

-- no letter is to come: all stand where they must. The slice held the last letter already when the turns began
pub put_all : (before : List ℕ) (x : ℕ) {v at end : ℕ} {after : List ℕ} → Begun v 0 at end (set before (end - 1) x) after
    → Placed (code v) at end before after
put_all before x {v} {at} {end} b =
    let e : b.tail ≡ code v = sym (front_none b.tail) ∙ b.whole in
    let l : length b.tail ≡ length (code v) = ap length e in
    let n = code_length v in
    record {
      ends = omega (arith, b.stand.ends);
      holds =
          b.stand.holds
          ∙ rw (e, take-set-le at before (end - 1) x (omega (arith, b.stand.ends)), drop-set-lt end before (end - 1) x (omega (arith, b.stand.ends)));
    }
