-- The verdicts on the packed list and on the normal list at each return, from what the operations answered.
-- Slices that were lent before count by their lengths. Assumes nothing.
use mathlib.Core.Path.{◌≡◌, refl, sym, ap, ◌∙◌}
use mathlib.Core.Logic.{◌≢◌}
use mathlib.Core.Bool.{Bool, true, false}
use mathlib.Core.List.{List, []}
use Prim.Native.Nat.{ℕ}
use lib.ListN.{length, take}
use Rattle.laws.specs.Lists.{eqb_no}
use Rattle.defs.specs.Outcome.{answer_one, answer_two, step_list_outcome}
use Rattle.defs.specs.Replay.{replay_outcome}
use Rattle.defs.specs.Inside.{one_inside, two_inside, list_inside, replay_inside}
use Rattle.verify.specs.Gave.{Gave, gave, list_same, replay_same}
use Rattle.verify.specs.Verified.{unless, agreeing, read_again, packed_gave, built_gave, packed_way, normal_way, lists_way}
use Rattle.verify.specs.Came.{Held, Came}
use Rattle.verify.proofs.AgainLaws.{again_same}
use Rattle.verify.specs.declared.verdict.Stage.TheVariants.{PackedList, PackedRead, NormalList, NormalRead}
use Rattle.verify.specs.declared.verdict.Verdict.{Verdict}
use Rattle.verify.specs.Verdicts.{told}
use Rattle.verify.specs.declared.verdict.Verdict.TheVariants.{Agree, Refused}
use Rattle.verify.specs.declared.walks.Kept.{Kept}
use Rattle.std.specs.Prelude.{Result, Ok, Err}
use Rattle.answers.specs.declared.refusals.Refusal.{Refusal}
use Rattle.answers.specs.Refused.{refusal_number}
use Rattle.verify.specs.declared.verdict.Disagreement.{Disagreement}
use Rattle.verify.specs.declared.verdict.Disagreement.TheVariants as code

-- what a step list gave
list_gave : (w b : List ℕ) (packed : Bool) (work out out' : List ℕ) (n len : ℕ) (works : List (List ℕ)) → answer_one n len works out' ≡ step_list_outcome w b packed false work out
    → gave (step_list_outcome w b packed false work out) ≡ record { number = n; first = take len out'; second = [] }
unfolding gave
list_gave w b packed work out out' n len works answered = sym (ap gave answered)

-- ---- the normal list

module _ (w b built kids work steps entries children steps' : List ℕ) (n len : ℕ) (works : List (List ℕ))
    (answered : answer_one n len works steps' ≡ step_list_outcome w b false false work steps) where
  pub normal_refused : (v : Verdict) → v ≡ Refused NormalList n → n ≢ 0 → v ≡ normal_way w b built kids work steps entries children
  unfolding normal_way unless
  normal_refused v e bad = e ∙ rw (list_gave w b false work steps steps' n len works answered, eqb_no n 0 bad)

  pub normal_read : n ≡ 0 → (work' : List ℕ) → length work' ≡ length work → (v : Verdict)
      → v ≡ read_again NormalRead w b (take len steps') built kids work' entries children → v ≡ normal_way w b built kids work steps entries children
  unfolding normal_way unless
  normal_read fine work' kept v is =
      is ∙ again_same NormalRead w b (take len steps') built kids work work' entries entries children children kept refl refl
      ∙ rw (list_gave w b false work steps steps' n len works answered, fine)

-- ---- the packed list

module _ (w b work packed built kids packed' : List ℕ) (n len : ℕ) (works : List (List ℕ))
    (answered : answer_one n len works packed' ≡ step_list_outcome w b true false work packed) where
  abbrev came : (packed'' built' kids' : List ℕ) → Result Kept Disagreement → Type 0
  came packed'' built' kids' = Came (packed_way w b work packed built kids) (packed_gave w b work packed) (built_gave w b work packed built kids) packed'' built' kids'

  list_is : packed_gave w b work packed ≡ record { number = n; first = take len packed'; second = [] }
  list_is = list_gave w b true work packed packed' n len works answered

  pub packed_refused : (r : Refusal) → n ≡ refusal_number r → n ≢ 0 → (packed'' built' kids' : List ℕ) → came packed'' built' kids' (Err (code.Refused PackedList r))
  unfolding Came packed_way unless
  packed_refused r is bad packed'' built' kids' next = rw (list_is, eqb_no n 0 bad, ← is)

  module _ (fine : n ≡ 0) (work' : List ℕ) (kept : length work' ≡ length work) (m first second : ℕ) (works' : List (List ℕ)) (built' kids' : List ℕ)
      (reads : answer_two m first second works' built' kids' ≡ replay_outcome w b (take len packed') work' built kids) where
    read_is : built_gave w b work packed built kids ≡ record { number = m; first = take first built'; second = take second kids' }
    unfolding gave
    read_is =
        ap (λ (g : Gave). gave (replay_outcome w b g.first work built kids)) list_is
        ∙ sym (replay_same w b (take len packed') work work' built built kids kids kept refl refl)
        ∙ sym (ap gave reads)

    pub packed_unread : (r : Refusal) → m ≡ refusal_number r → m ≢ 0 → (packed'' built'' kids'' : List ℕ) → came packed'' built'' kids'' (Err (code.Refused PackedRead r))
    unfolding Came packed_way unless
    packed_unread r is bad packed'' built'' kids'' next = rw (ap (λ (g : Gave). g.number) list_is, fine, read_is, eqb_no m 0 bad, ← is)

    pub packed_read : m ≡ 0 → (k : Kept) → k.packed ≡ len → k.built ≡ first → k.kids ≡ second → came packed' built' kids' (Ok k)
    unfolding Came packed_way unless
    packed_read good k e₁ e₂ e₃ =
        let fits = two_inside reads (replay_inside w b (take len packed') work' built kids) in
        record {
          goes_on = λ next. rw (ap (λ (g : Gave). g.number) list_is, fine, read_is, good);
          packed_kept = record { fits = rw e₁ (one_inside answered (list_inside w b true false work packed)); holds = rw (e₁, list_is) };
          built_kept = record { fits = rw e₂ fits.0; holds = rw (e₂, read_is) };
          kids_kept = record { fits = rw e₃ fits.1; holds = rw (e₃, read_is) };
        }

-- ---- both

pub held : (way : Verdict → Verdict) (list read : Gave) (packed built kids : List ℕ) (r : Result Kept Disagreement) (k : Kept)
    → Came way list read packed built kids r → r ≡ Ok k → Held way list read packed built kids k
unfolding Came
held way list read packed built kids r k came e = rw e at came

-- a verdict that is not yes stays
stays : (d : Disagreement) (next : Verdict) → agreeing (told d) next ≡ told d
unfolding agreeing
stays (code.Refused stage r) next = refl
stays (code.Differ stage) next = refl

normal_same : (w b built kids work work' steps entries children : List ℕ) → length work' ≡ length work
    → normal_way w b built kids work' steps entries children ≡ normal_way w b built kids work steps entries children
unfolding normal_way
normal_same w b built kids work work' steps entries children e =
    rw (list_same w b false false work work' steps steps e refl)
    (ap (unless NormalList (gave (step_list_outcome w b false false work steps)).number)
    (again_same NormalRead w b (gave (step_list_outcome w b false false work steps)).first built kids work work' entries entries children children e refl refl))

module _ (w b work packed steps built kids entries children : List ℕ) where
  abbrev list : Gave
  list = packed_gave w b work packed

  abbrev read : Gave
  read = built_gave w b work packed built kids

  abbrev way : Verdict → Verdict
  way = packed_way w b work packed built kids

  abbrev ways : Verdict → Verdict
  ways = lists_way w b work packed steps built kids entries children

  pub first_ended : (packed' built' kids' : List ℕ) (r : Result Kept Disagreement) (d : Disagreement) → Came way list read packed' built' kids' r → r ≡ Err d
      → Came ways list read packed' built' kids' (Err d)
  unfolding Came lists_way
  first_ended packed' built' kids' r d came e =
      let ended : (next : Verdict) → way next ≡ told d = rw e at came in
      (λ next. ended (agreeing (normal_way w b read.first read.second work steps entries children) next))

  module _ (packed' built' kids' : List ℕ) (k : Kept) (first : Held way list read packed' built' kids' k) (work' : List ℕ) (kept : length work' ≡ length work) (v : Verdict)
      (normal : v ≡ normal_way w b (take k.built built') (take k.kids kids') work' steps entries children) where
    normal_is : v ≡ normal_way w b read.first read.second work steps entries children
    normal_is =
        normal ∙ rw (first.built_kept.holds, first.kids_kept.holds) (normal_same w b read.first read.second work work' steps entries children kept)

    pub normal_ended : (d : Disagreement) → v ≡ told d → (packed'' built'' kids'' : List ℕ) → Came ways list read packed'' built'' kids'' (Err d)
    unfolding Came lists_way
    normal_ended d is packed'' built'' kids'' next = first.goes_on _ ∙ ap (λ (x : Verdict). agreeing x next) (sym normal_is ∙ is) ∙ stays d next

    pub both_read : v ≡ Agree → Came ways list read packed' built' kids' (Ok k)
    unfolding Came lists_way agreeing
    both_read agrees =
        record {
          goes_on = λ next. first.goes_on _ ∙ ap (λ (x : Verdict). agreeing x next) (sym normal_is ∙ agrees);
          packed_kept = first.packed_kept;
          built_kept = first.built_kept;
          kids_kept = first.kids_kept;
        }
