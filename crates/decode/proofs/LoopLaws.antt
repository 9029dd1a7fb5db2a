-- Laws of the loop over the letters: what is left to read from the reading so far is what all letters say.
-- A turn reads the next letter, and the end is the definition's at no letters.
use mathlib.Core.Path.{◌≡◌, refl, sym, ◌∙◌}
use mathlib.Core.Bool.{false}
use mathlib.Core.Option.{Option, none, some}
use mathlib.Core.List.{List}
use Prim.Native.Nat.{ℕ, ◌+◌, ◌<◌, ◌≤◌}
use native.Mathlib.Omega.{arith}
use lib.ListN.{length, get_or, drop, drop_of_length-le}
use borrow.Author.Tests.{eq-eqb, ne_eqb}
use Rattle.laws.specs.Lists.{clash}
use Rattle.defs.specs.Steps.{Step, flat}
use Rattle.defs.specs.Decode.{Reading, one_letter, or_refuse, all_letters}
use Rattle.letters.proofs.Numbers.{capped_zero, zero_capped}
use Rattle.theorem.proofs.Searches.{drop_next}
use Rattle.decode.specs.declared.reading.Decoder.{Decoder}
use Rattle.std.specs.Prelude as code
use Rattle.decode.specs.Decoding.{max_size, Ready, Keeps, Came, Wrote, beginning}

-- i letters are read, and the code's state is that of the reading
pub record Read (thm list letters : List ℕ) (i : ℕ) (d : Decoder) (before after : List ℕ) : Type 0 where
  pub reading : Reading
  pub keeps : Keeps reading d before after
  pub few : d.steps ≤ i
  pub rest : all_letters thm list letters beginning ≡ all_letters thm list (drop i letters) reading

-- ---- answers of all letters

wrote_refused : (o : Option (List Step)) (before after : List ℕ) → o ≡ none → Wrote o code.None before after
unfolding Wrote
wrote_refused o before after e = rw e tt

module _ (thm list letters : List ℕ) (before : List ℕ) where
  pub read_none : Read thm list letters 0 (record { pending = 0; finished = false; given = 0; steps = 0 }) before before
  unfolding flat
  read_none =
      record {
        reading = beginning;
        keeps = record {
          pending_is = omega arith;
          finished_is = refl;
          given_is = refl;
          steps_is = refl;
          begun = λ h. clash false h refl;
          long = refl;
          holds = λ h. refl;
        };
        few = omega arith;
        rest = refl;
      }

  module _ (i : ℕ) (d : Decoder) (after : List ℕ) (p : Read thm list letters i d before after) where
    pub ready : i < max_size → Ready d
    ready h = record { room = omega (arith, p.few); begun = p.keeps.begun }

    -- ---- one letter more

    next_letter : (o : Option Reading) → i < length letters → one_letter thm list p.reading (get_or letters i 0) ≡ o
        → all_letters thm list letters beginning ≡ or_refuse o (λ next. all_letters thm list (drop (i + 1) letters) next)
    unfolding all_letters
    next_letter o h e = p.rest ∙ rw (drop_next letters i h, e)

    more : (o : Option Reading) (next : Decoder) (end : List ℕ) → i < length letters → one_letter thm list p.reading (get_or letters i 0) ≡ o
        → Came o (code.Some next) (d.steps + 1) before end → Read thm list letters (i + 1) next before end
    unfolding Came or_refuse
    more none next end h e w = absurd w
    more (some reading) next end h e w =
        record { reading = reading; keeps = w.0; few = omega (arith, w.1, p.few); rest = next_letter (some reading) h e }

    refused : (o : Option Reading) (most : ℕ) (end : List ℕ) → i < length letters → one_letter thm list p.reading (get_or letters i 0) ≡ o
        → Came o code.None most before end → Wrote (all_letters thm list letters beginning) code.None before end
    unfolding Came or_refuse
    refused none most end h e w = wrote_refused _ before end (next_letter none h e)
    refused (some reading) most end h e w = absurd w

    pub read_more : (t : code.Option Decoder) (next : Decoder) (end : List ℕ) → i < length letters → t ≡ code.Some next
        → Came (one_letter thm list p.reading (get_or letters i 0)) t (d.steps + 1) before end → Read thm list letters (i + 1) next before end
    read_more t next end h e w = more _ next end h refl (rw e at w)

    pub read_refused : (t : code.Option Decoder) (most : ℕ) (end : List ℕ) → i < length letters → t ≡ code.None
        → Came (one_letter thm list p.reading (get_or letters i 0)) t most before end → Wrote (all_letters thm list letters beginning) code.None before end
    read_refused t most end h e w = refused _ most end h refl (rw e at w)

    -- ---- no letter left

    pub read_inside : length letters ≤ i → (d.pending ≡ 0 → ⊥) → Wrote (all_letters thm list letters beginning) code.None before after
    unfolding all_letters
    read_inside h z =
        wrote_refused _ before after
        (p.rest ∙ rw (drop_of_length-le letters h, ne_eqb p.reading.pending 0 (λ e. z (p.keeps.pending_is ∙ zero_capped p.reading.pending e))))

    pub read_all : length letters ≤ i → d.pending ≡ 0 → Wrote (all_letters thm list letters beginning) (code.Some d.steps) before after
    unfolding all_letters Wrote
    read_all h z =
        let e : all_letters thm list letters beginning ≡ some p.reading.out =
        p.rest ∙ rw (drop_of_length-le letters h, eq-eqb p.reading.pending 0 (capped_zero p.reading.pending (sym p.keeps.pending_is ∙ z))) in
        rw e (p.keeps.steps_is, p.keeps.holds)
