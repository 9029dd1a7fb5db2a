-- Laws of readings: what the code's state shows after each kind of letter.
-- The definition's next reading is known by the code's own tests, and the state that the code makes is that reading's.
use mathlib.Core.Path.{◌≡◌, refl, sym, ◌∙◌}
use mathlib.Core.Bool.{Bool, true, false}
use mathlib.Core.Option.{Option, none, some}
use mathlib.Core.List.{List, [], ◌∷◌, ◌++◌}
use Prim.Native.Nat.{ℕ, ◌+◌, ◌*◌, ◌-◌, ◌<◌, ◌≤◌}
use native.Mathlib.Omega.{arith}
use lib.Dec.{ltb}
use lib.ListN.{length, length-append}
use borrow.Author.Tests.{lt-ltb, le-ltb, le-leb, lt-leb}
use Rattle.laws.specs.Lists.{boole, clash}
use Rattle.defs.specs.Table.{max_word}
use Rattle.defs.specs.Steps.{Step}
use Rattle.defs.specs.Decode.{Reading, step_named, mark_last, finish_code, lead_code, mark_step}
use Rattle.letters.specs.Numbers.{capped, number_of}
use Rattle.letters.specs.Ranges.{letter_of}
use Rattle.letters.specs.declared.letter.Letter.{Letter}
use Rattle.letters.proofs.Ranges.{Said, letter_said}
use Rattle.letters.proofs.Numbers.{Told, number_told, capped_number, capped_lead}
use Rattle.decode.specs.declared.reading.Decoder.{Decoder}
use Rattle.std.specs.Prelude as code
use Rattle.decode.specs.Decoding.{StepPut, MarkPut, Keeps, Came}
use Rattle.decode.proofs.StepLaws.{one_more, mark_length, last_marked}

-- ---- answers of one letter

pub came_refused : (o : Option Reading) (most : ℕ) (before after : List ℕ) → o ≡ none → Came o code.None most before after
unfolding Came
came_refused o most before after e = rw e tt

came_goes : (o : Option Reading) (reading : Reading) (r : code.Option Decoder) (d : Decoder) (most : ℕ) (before after : List ℕ)
    → o ≡ some reading → r ≡ code.Some d → Keeps reading d before after → d.steps ≤ most → Came o r most before after
unfolding Came
came_goes o reading r d most before after e f k h = rw (e, f) (k, h)

abbrev decoder : ℕ → Bool → ℕ → ℕ → Decoder
decoder pending finished given steps = record { pending = pending; finished = finished; given = given; steps = steps }

abbrev read : ℕ → Bool → ℕ → List Step → Reading
read pending finished given out = record { pending = pending; finished = finished; given = given; out = out }

-- what the letter says of the reading of its byte
pub letter_is : (thm list : List ℕ) (reading : Reading) (x : ℕ) (r l : Letter) → r ≡ letter_of x → r ≡ l → Said thm list reading x l
letter_is thm list reading x r l e m = rw (sym m ∙ e) (letter_said thm list reading x)

-- ---- a finishing letter

-- the number of the code, which the code knows as far as it fits
abbrev number_read : Reading → ℕ → ℕ
number_read reading x = reading.pending * 20 + (x - 65)

number_kept : (reading : Reading) (x pending digit : ℕ) (r : code.Option ℕ) → pending ≡ capped reading.pending → x - 65 ≡ digit
    → r ≡ number_of (pending * 20 + digit) → Told (number_read reading x) r
number_kept reading x pending digit r p e n =
    let same : r ≡ number_of (number_read reading x) = n ∙ rw (p, ← e) (capped_number reading.pending (x - 65)) in
    rw same (number_told (number_read reading x))

module _ (thm list : List ℕ) (reading : Reading) (x : ℕ) where
  finish_high : length thm + length list + reading.given ≤ number_read reading x → finish_code thm list reading x ≡ none
  unfolding finish_code
  finish_high h = rw (le-ltb (number_read reading x) (length thm + length list + reading.given) h)

  finish_large : max_word < number_read reading x → finish_code thm list reading x ≡ none
  unfolding finish_code
  finish_large h = rw (lt-leb (number_read reading x) max_word h) (boole (ltb (number_read reading x) (length thm + length list + reading.given)) (λ t. rw t) (λ t. rw t))

  finish_named : (t : Step) → number_read reading x < length thm + length list + reading.given → number_read reading x ≤ max_word
      → t ≡ step_named thm list (number_read reading x) → finish_code thm list reading x ≡ some (read 0 true reading.given (reading.out ++ t ∷ []))
  unfolding finish_code
  finish_named t h k e =
      rw (e, lt-ltb (number_read reading x) (length thm + length list + reading.given) h, le-leb (number_read reading x) max_word k)

-- the step is stored where there is room for it
keeps_step : (reading : Reading) (d : Decoder) (t : Step) (before after end : List ℕ) → Keeps reading d before after → length end ≡ length after
    → StepPut t d.steps after end
    → Keeps (read 0 true reading.given (reading.out ++ t ∷ [])) (decoder 0 true d.given (d.steps + 1)) before end
keeps_step reading d t before after end k l put =
    record {
      pending_is = omega arith;
      finished_is = refl;
      given_is = k.given_is;
      steps_is = omega (arith, length-append reading.out (t ∷ []), k.steps_is);
      begun = λ h. omega arith;
      long = l ∙ k.long;
      holds = λ h. put (omega (arith, k.long)) ∙ one_more reading.out t before after d.steps k.steps_is (k.holds (omega arith));
    }

module _ (thm list : List ℕ) (reading : Reading) (x : ℕ) (d : Decoder) (digit : ℕ) (before after : List ℕ) (e : x - 65 ≡ digit) (k : Keeps reading d before after)
    (r : code.Option ℕ) (n : r ≡ number_of (d.pending * 20 + digit)) where
  told : (s : code.Option ℕ) → r ≡ s → Told (number_read reading x) s
  told s t = rw t at (number_kept reading x d.pending digit r k.pending_is e n)

  pub too_large : (most : ℕ) (end : List ℕ) → r ≡ code.None → Came (finish_code thm list reading x) code.None most before end
  too_large most end t = came_refused _ most before end (finish_large thm list reading x (told code.None t))

  pub names_nothing : (v most : ℕ) (end : List ℕ) → r ≡ code.Some v → length thm + length list + d.given ≤ v
      → Came (finish_code thm list reading x) code.None most before end
  names_nothing v most end t h = came_refused _ most before end (finish_high thm list reading x (omega (arith, (told (code.Some v) t).0, k.given_is)))

  pub names_step : (next : code.Option Decoder) (v : ℕ) (t : Step) (end : List ℕ) → next ≡ code.Some (decoder 0 true d.given (d.steps + 1)) → r ≡ code.Some v
      → v < length thm + length list + d.given → t ≡ step_named thm list v → length end ≡ length after → StepPut t d.steps after end
      → Came (finish_code thm list reading x) next (d.steps + 1) before end
  names_step next v t end f s h named l put =
      let is-v : v ≡ number_read reading x = (told (code.Some v) s).0 in
      came_goes _ _ next _ _ before end
      (finish_named thm list reading x t (omega (arith, k.given_is)) (told (code.Some v) s).1 (rw is-v at named))
      f
      (keeps_step reading d t before after end k l put)
      (omega arith)

-- ---- a leading letter

pub leads : (reading : Reading) (x : ℕ) (d : Decoder) (digit : ℕ) (before after : List ℕ) (next : code.Option Decoder) (pending : ℕ) → x - 84 ≡ digit → Keeps reading d before after
    → next ≡ code.Some (decoder pending false d.given d.steps) → pending ≡ capped (d.pending * 5 + digit)
    → Came (lead_code reading x) next (d.steps + 1) before after
unfolding lead_code
leads reading x d digit before after next pending e k f p =
    came_goes _ _ next _ _ before after refl f
    (record {
      pending_is = p ∙ rw (k.pending_is, ← e) (capped_lead reading.pending (x - 84));
      finished_is = refl;
      given_is = k.given_is;
      steps_is = k.steps_is;
      begun = λ h. clash false h refl;
      long = k.long;
      holds = k.holds;
    })
    (omega arith)

-- ---- a mark

module _ (reading : Reading) (d : Decoder) (before after : List ℕ) (k : Keeps reading d before after) where
  pub not_finished : (most : ℕ) (end : List ℕ) → d.finished ≡ false → Came (mark_step reading) code.None most before end
  unfolding mark_step
  not_finished most end f = came_refused _ most before end (rw (sym k.finished_is ∙ f))

  pub no_more_marks : (most : ℕ) (end : List ℕ) → d.given ≡ max_word → Came (mark_step reading) code.None most before end
  unfolding mark_step
  no_more_marks most end g =
      came_refused _ most before end (rw (le-ltb reading.given max_word (omega (arith, k.given_is))) (boole reading.finished (λ t. rw t) (λ t. rw t)))

  mark_read : d.finished ≡ true → d.given < max_word → mark_step reading ≡ some (read 0 false (reading.given + 1) (mark_last (reading.given + 1) reading.out))
  unfolding mark_step
  mark_read f g = rw (sym k.finished_is ∙ f, lt-ltb reading.given max_word (omega (arith, k.given_is)))

  pub marks_last : (end : List ℕ) (next : code.Option Decoder) (mark n : ℕ) → next ≡ code.Some (decoder 0 false mark d.steps) → d.finished ≡ true → d.given < max_word
      → mark ≡ d.given + 1 → n ≡ d.steps - 1 → length end ≡ length after → MarkPut mark n after end
      → Came (mark_step reading) next (d.steps + 1) before end
  marks_last end next mark n goes f g m last l put =
      let some-step : 0 < d.steps = k.begun f in
      let is_mark : mark ≡ reading.given + 1 = omega (arith, k.given_is) in
      came_goes _ _ next _ _ before end (mark_read f g) goes
      (record {
        pending_is = omega arith;
        finished_is = refl;
        given_is = is_mark;
        steps_is = k.steps_is ∙ sym (mark_length (reading.given + 1) reading.out);
        begun = λ h. some-step;
        long = l ∙ k.long;
        holds = λ h.
            put (omega (arith, k.long)) ∙ rw is_mark (last_marked (reading.given + 1) n reading.out before after (omega (arith, k.steps_is)) (k.holds h));
      })
      (omega arith)
