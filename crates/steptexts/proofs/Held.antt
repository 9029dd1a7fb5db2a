-- The steps that stand in words: by their places, and as the list whose words these are.
-- A turn of the loop over places takes the next step of the list.
use mathlib.Core.Path.{◌≡◌, refl, sym, ap, ◌∙◌}
use mathlib.Core.List.{List, [], ◌∷◌, ◌++◌}
use Prim.Native.Nat.{ℕ, zero, suc, ◌+◌, ◌*◌, ◌≤◌, ◌<◌}
use native.Mathlib.Omega.{arith}
use native.Mathlib.Numerals.{add-one}
use lib.ListN.{length, get_or, take, length-append}
use lib.Seq.{take-suc, take-length}
use Rattle.laws.specs.Tools.{part}
use Rattle.laws.specs.Lists.{part_at}
use Rattle.defs.specs.Table.{word}
use Rattle.defs.specs.Steps.{Step, step_size, step_words, flat}
use Rattle.defs.specs.Laws.{flat_at}
use Rattle.steptexts.specs.Texts.{step_at}

-- the first i steps from a place on
unfoldable pub steps_in : (ws : List ℕ) (steps : ℕ) → ℕ → List Step
steps_in ws steps zero = []
steps_in ws steps (suc i) = steps_in ws steps i ++ step_at ws (steps + step_size * i) ∷ []

pub none_in : (ws : List ℕ) (steps : ℕ) → steps_in ws steps 0 ≡ []
unfolding steps_in
none_in ws steps = refl

pub one_in : (ws : List ℕ) (steps i : ℕ) → steps_in ws steps (i + 1) ≡ steps_in ws steps i ++ (step_at ws (steps + step_size * i) ∷ [])
unfolding steps_in
one_in ws steps i = ap (steps_in ws steps) (add-one i)

pub length_in : (ws : List ℕ) (steps i : ℕ) → length (steps_in ws steps i) ≡ i
unfolding steps_in
length_in ws steps zero = refl
length_in ws steps (suc i) = omega (arith, length-append (steps_in ws steps i) (step_at ws (steps + step_size * i) ∷ []), length_in ws steps i)

abbrev any_step : Step
any_step = record { ref = 0; mark = 0; stmt = 0; parent = 0; index = 0 }

module _ (ws : List ℕ) (steps many : ℕ) (ts : List Step) (as_many : many ≡ length ts) (holds : part steps (step_size * many) ws ≡ flat ts) where
  pub step_is : (i : ℕ) → i < many → step_at ws (steps + step_size * i) ≡ get_or ts i any_step
  unfolding step_words
  step_is i l =
      let t = get_or ts i any_step in
      let at : (j : ℕ) → j < step_size → word ws (steps + step_size * i + j) ≡ get_or (step_words t) j 0 =
      λ j m. ap (word ws) (omega arith)
      ∙ sym (part_at steps (step_size * many) ws (step_size * i + j) 0 (omega arith))
      ∙ ap (λ (x : List ℕ). get_or x (step_size * i + j) 0) holds
      ∙ flat_at ts any_step i j (omega arith) m in
      let first : word ws (steps + step_size * i) ≡ t.ref = ap (word ws) (omega arith) ∙ at 0 (omega arith) in
      rw (first, at 1 (omega arith), at 2 (omega arith), at 3 (omega arith), at 4 (omega arith))

  steps_are : (i : ℕ) → i ≤ many → steps_in ws steps i ≡ take i ts
  unfolding steps_in
  steps_are zero l = refl
  steps_are (suc i) l =
      rw (steps_are i (omega arith), step_is i l) (sym (take-suc ts i any_step (omega arith)))

  pub all_are : steps_in ws steps many ≡ ts
  all_are = steps_are many (omega arith) ∙ ap (λ (k : ℕ). take k ts) as_many ∙ take-length ts
