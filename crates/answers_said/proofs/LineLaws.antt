-- Where a line ends and where line k starts, as the loops find it.
-- A byte that is no newline belongs to the line that it stands in; behind the last line there is nothing, however many more are asked for.
use mathlib.Core.Path.{◌≡◌, refl, sym, ap, ◌∙◌}
use mathlib.Core.Bool.{Bool, not}
use mathlib.Core.List.{List, [], ◌∷◌, ◌++◌, append_assoc}
use Prim.Native.Nat.{ℕ, zero, suc, ◌+◌, ◌-◌, ◌<◌, ◌≤◌}
use native.Mathlib.Numerals.{add-one}
use native.Mathlib.Decide.{dec_lt}
use native.Mathlib.Omega.{arith}
use lib.ListN.{length, get_or, take, drop, length-drop, drop_of_length-le}
use lib.Seq.{take-nil, take_at, drop-nil, drop-cons, drop-drop, drop-length}
use lib.Dec.{T, eqb}
use borrow.Author.Tests.{eq-eqb, ne_eqb}
use Rattle.laws.specs.Tools.{all}
use Rattle.laws.specs.Lists.{boole}
use mir.Facts.{and_yes}
use Rattle.laws.specs.Puts.{Put, Grows, grows_one, grows_more}
use Rattle.defs.specs.Bytes.{newline}
use Rattle.answers_said.specs.Lines.{line_length, from_line, line_at, ended, joined}

-- ---- where a line ends

pub line_most : (xs : List ℕ) → line_length xs ≤ length xs
unfolding line_length
line_most [] = omega arith
line_most (x ∷ rest) = boole (eqb x newline) (λ e. rw e (omega arith)) (λ e. rw e (omega (arith, line_most rest)))

pub line_ends : (text : List ℕ) (i : ℕ) → i < length text → get_or text i 0 ≡ newline → line_length (drop i text) ≡ 0
unfolding line_length
line_ends text i h e = rw (drop-cons text i 0 h, eq-eqb (get_or text i 0) newline e)

pub line_goes_on : (text : List ℕ) (i : ℕ) → i < length text → (get_or text i 0 ≡ newline → ⊥) → line_length (drop i text) ≡ suc (line_length (drop (i + 1) text))
unfolding line_length
line_goes_on text i h n = rw (add-one i, drop-cons text i 0 h, ne_eqb (get_or text i 0) newline n)

pub text_ends : (text : List ℕ) (i : ℕ) → i ≡ length text → line_length (drop i text) ≡ 0
unfolding line_length
text_ends text i e = rw (e, drop-length text)

-- ---- where line k starts

pub next_line : (text : List ℕ) (start end i : ℕ) → drop start text ≡ from_line i text → end ≡ start + line_length (drop start text)
    → drop (end + 1) text ≡ from_line (i + 1) text
unfolding from_line
next_line text start end i e n =
    let a : end + 1 ≡ start + suc (line_length (drop start text)) = omega arith in
    rw (add-one i, sym e, a) (sym (drop-drop (suc (line_length (drop start text))) start text))

-- nothing stays nothing
nothing_left : (text : List ℕ) (i k : ℕ) → from_line i text ≡ [] → i ≤ k → from_line k text ≡ []
unfolding from_line
nothing_left text i zero e h = let z : i ≡ 0 = omega arith in rw z at e
nothing_left text i (suc k) e h =
    elim (dec_lt k i) [
      | yes g ↦ let z : i ≡ suc k = omega arith in rw z at e
      | no g ↦ rw (nothing_left text i k e (omega arith)) (drop-nil (suc (line_length [])))
    ]

pub no_more_lines : (text : List ℕ) (start end i k : ℕ) → drop start text ≡ from_line i text → end ≡ start + line_length (drop start text) → end ≡ length text → i < k
    → drop end text ≡ from_line k text
unfolding from_line
no_more_lines text start end i k e n l h =
    let rest : length (drop start text) ≤ suc (line_length (drop start text)) = omega (arith, length-drop start text) in
    let none : from_line (suc i) text ≡ [] = rw (sym e) (drop_of_length-le (drop start text) rest) in
    rw (l, drop-length text) (sym (nothing_left text (suc i) k none (omega arith)))

-- ---- a line put

pub line_put : (text : List ℕ) (start end k at behind r : ℕ) {before between after : List ℕ} → drop start text ≡ from_line k text → end ≡ start + line_length (drop start text)
    → Put (take (end - start) (drop start text)) at behind before between → Put (newline ∷ []) behind r between after
    → Grows (ended (line_at k text)) at r before after
unfolding line_at
line_put text start end k at behind r e n p q =
    let l : end - start ≡ line_length (drop start text) = omega arith in
    rw (sym e) (grows_more (grows_one (rw l at p)) q)

-- ---- the lines of a text that was made of lines

-- no newline stands in any of them
unfoldable pub whole : List ℕ → Bool
whole line = all (λ x. not (eqb x newline)) line

ends_there : (line rest : List ℕ) → T (whole line) → line_length (line ++ (newline ∷ rest)) ≡ length line
unfolding whole all line_length
ends_there [] rest h = refl
ends_there (x ∷ line) rest h =
    let both = and_yes (not (eqb x newline)) (whole line) h in
    boole (eqb x newline)
    (λ e. absurd (rw e at both.0))
    (λ e. rw e (ap suc (ends_there line rest both.1)))

from_next : (k : ℕ) (text : List ℕ) → from_line (suc k) text ≡ from_line k (drop (suc (line_length text)) text)
unfolding from_line
from_next zero text = refl
from_next (suc k) text = rw (from_next k text)

behind_line : (line rest : List ℕ) → drop (suc (length line)) (line ++ (newline ∷ rest)) ≡ rest
behind_line [] rest = refl
behind_line (x ∷ line) rest = behind_line line rest

-- the first line, or one of the others
line_of : (line : List ℕ) (lines : List (List ℕ)) → T (whole line) → ((k : ℕ) → line_at k (joined lines) ≡ get_or lines k [])
    → (k : ℕ) → line_at k (line ++ (newline ∷ joined lines)) ≡ get_or (line ∷ lines) k []
unfolding line_at from_line
line_of line lines h others zero = rw (ends_there line (joined lines) h) (take_at line (newline ∷ joined lines) (length line) refl)
line_of line lines h others (suc k) =
    let text : List ℕ = line ++ (newline ∷ joined lines) in
    let next : drop (suc (line_length text)) text ≡ joined lines = rw (ends_there line (joined lines) h) (behind_line line (joined lines)) in
    rw (from_next k text ∙ ap (from_line k) next) (others k)

pub lines_joined : (lines : List (List ℕ)) → T (all whole lines) → (k : ℕ) → line_at k (joined lines) ≡ get_or lines k []
unfolding all joined line_at from_line
lines_joined [] h k = rw (nothing_left [] 0 k refl (omega arith)) (take-nil (line_length []))
lines_joined (line ∷ lines) h k =
    let rest : List ℕ = newline ∷ joined lines in
    let parts : ended line ++ joined lines ≡ line ++ rest = append_assoc line (newline ∷ []) (joined lines) in
    let ok = and_yes (whole line) (all whole lines) h in
    rw parts (line_of line lines ok.0 (lines_joined lines ok.1) k)
