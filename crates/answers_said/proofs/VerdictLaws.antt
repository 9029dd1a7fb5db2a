-- What comparing the three ways came to: which line a stage has, which lines a refusal of a stage has, and how long they can be.
-- 14 and 15 are said as what is too large, any other number with its reason and the stage.
use mathlib.Core.Path.{◌≡◌}
use mathlib.Core.Bool.{true, false, ◌||◌}
use mathlib.Core.List.{List, ◌++◌}
use Prim.Native.Nat.{ℕ, ◌≤◌}
use native.Mathlib.Omega.{arith}
use lib.Dec.{eqb}
use lib.ListN.{length}
use Rattle.laws.specs.Puts.{Put, Grows, grows_one, grows_more}
use Rattle.verify.specs.declared.verdict.Stage.{Stage}
use Rattle.verify.specs.declared.verdict.Stage.TheVariants.{PackedList, PackedRead, NormalList, NormalRead, Letters, Decoded, LettersRead}
use Rattle.answers_said.specs.Bytes.{bytes}
use Rattle.answers_said.specs.Refusals.{refusal_line}
use Rattle.answers_said.specs.Verdicts.{stage_line, room_line, refused_lines}

stage_most : (stage : Stage) → length (stage_line stage) ≤ 61
unfolding stage_line bytes
stage_most PackedList = omega arith
stage_most PackedRead = omega arith
stage_most NormalList = omega arith
stage_most NormalRead = omega arith
stage_most Letters = omega arith
stage_most Decoded = omega arith
stage_most LettersRead = omega arith

room_most : (stage : Stage) → length (room_line stage) ≤ 61
unfolding room_line bytes
room_most PackedList = omega arith
room_most PackedRead = omega arith
room_most NormalList = omega arith
room_most NormalRead = omega arith
room_most Letters = omega arith
room_most Decoded = omega arith
room_most LettersRead = omega arith

pub room_put : (stage : Stage) (number : ℕ) {begun r : ℕ} {o₀ o₁ o₂ piece : List ℕ} → (eqb number 14 || eqb number 15) ≡ true → Put (bytes "too large: ") 0 begun o₀ o₁
    → piece ≡ room_line stage → Put piece begun r o₁ o₂ → Grows (refused_lines stage number) 0 r o₀ o₂
unfolding refused_lines
room_put stage number e p₁ is p₂ = rw e (grows_more (grows_one p₁) (rw is at p₂))

pub stage_put : (stage : Stage) (number : ℕ) {refused named r : ℕ} {o₀ o₁ o₂ o₃ piece : List ℕ} → (eqb number 14 || eqb number 15) ≡ false
    → Grows (refusal_line number) 0 refused o₀ o₁ → Put (bytes "stage: ") refused named o₁ o₂ → piece ≡ stage_line stage → Put piece named r o₂ o₃ → Grows (refused_lines stage number) 0 r o₀ o₃
unfolding refused_lines
stage_put stage number e g p₁ is p₂ = rw e (grows_more (grows_more g p₁) (rw is at p₂))

-- where each ends
pub room_ends : (stage : Stage) {begun r : ℕ} {o₀ o₁ o₂ piece : List ℕ} → Put (bytes "too large: ") 0 begun o₀ o₁ → piece ≡ room_line stage → Put piece begun r o₁ o₂ → r ≤ 200
unfolding bytes
room_ends stage p₁ is p₂ = omega (arith, p₁.ends, (rw is at p₂).ends, room_most stage)

pub stage_ends : (stage : Stage) {before named r : ℕ} {o₁ o₂ o₃ piece : List ℕ} → before ≤ 111 → Put (bytes "stage: ") before named o₁ o₂ → piece ≡ stage_line stage
    → Put piece named r o₂ o₃ → r ≤ 200
unfolding bytes
stage_ends stage h p₁ is p₂ = omega (arith, p₁.ends, (rw is at p₂).ends, stage_most stage)

pub differ_put : (stage : Stage) {begun r : ℕ} {o₀ o₁ o₂ piece : List ℕ} → Put (bytes "differ: ") 0 begun o₀ o₁ → piece ≡ stage_line stage → Put piece begun r o₁ o₂
    → Grows (bytes "differ: " ++ stage_line stage) 0 r o₀ o₂
differ_put stage p₁ is p₂ = grows_more (grows_one p₁) (rw is at p₂)

pub differ_ends : (stage : Stage) {begun r : ℕ} {o₀ o₁ o₂ piece : List ℕ} → Put (bytes "differ: ") 0 begun o₀ o₁ → piece ≡ stage_line stage → Put piece begun r o₁ o₂ → r ≤ 200
unfolding bytes
differ_ends stage p₁ is p₂ = omega (arith, p₁.ends, (rw is at p₂).ends, stage_most stage)
