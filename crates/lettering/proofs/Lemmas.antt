-- The number of a step that words say, the letters of one step, and of the first i steps of a list.
-- Each law is about any step and any lists that the words say.
use mathlib.Core.Path.{◌≡◌, refl, sym, ap, ◌∙◌, subst}
use mathlib.Core.Logic.{◌≢◌}
use mathlib.Core.List.{List, [], ◌∷◌, ◌++◌, append-nil, append_assoc}
use Prim.Native.Nat.{ℕ, ◌+◌, ◌*◌, ◌-◌, ◌≤◌, ◌<◌}
use native.Mathlib.Omega.{arith}
use native.Mathlib.Numerals.{add-one}
use lib.ListN.{length, get_or, take}
use lib.Seq.{take-suc, take-length}
use Rattle.laws.specs.Lists.{all_at, eqb_yes, eqb_no, part_at}
use Rattle.laws.specs.Puts.{Put, Grows, grows_none, grows_one, grows_then, grows_more}
use Rattle.defs.specs.Table.{word, max_word}
use Rattle.defs.specs.Steps.{Step, step_size, step_words}
use Rattle.defs.specs.Laws.{flat_at}
use Rattle.defs.specs.Letters.{code, step_number, step_letters, letters_of}
use Rattle.letters.proofs.Codes.{code_most}
use Rattle.letters.specs.Most.{most_letters}
use Rattle.lettering.specs.Said.{most_step, number_of, Says, StepReady, NumberIs, StepWrote, SaysAll, ListReady, ListWrote}

-- ---- the number

module _ (at numbers both : ℕ) (ws : List ℕ) where
  -- a reference
  pub number_reference : word ws at ≢ 0 → NumberIs at numbers both (both + (word ws at - 1)) ws
  unfolding step_number
  number_reference h thm labels t s = rw (eqb_no t.ref 0 (λ e. h (s.ref_is ∙ e))) (omega (arith, s.lengths, s.ref_is))

  -- a normal step
  pub number_normal : word ws at ≡ 0 → NumberIs at numbers both (word ws (numbers + word ws (at + 2)) - 1) ws
  unfolding step_number number_of
  number_normal h thm labels t s =
      let z : t.ref ≡ 0 = sym s.ref_is ∙ h in
      let n : word ws (numbers + word ws (at + 2)) ≡ number_of thm labels t.stmt + 1 = ap (λ (k : ℕ). word ws (numbers + k)) s.stmt_is ∙ s.number_is z in
      rw (eqb_yes t.ref 0 z) (omega (arith, n))

  module _ (r : StepReady at numbers both ws) where
    -- its number fits
    pub reference_fits : both + word ws at ≤ max_word
    reference_fits = omega (arith, r.few, r.says.ref_is)

    module _ (h : word ws at ≡ 0) where
      pub statement_in : numbers + word ws (at + 2) < length ws
      statement_in = omega (arith, r.says.stmt_is, r.says.number_in (sym r.says.ref_is ∙ h))

      pub number_some : 1 ≤ word ws (numbers + word ws (at + 2))
      number_some =
          omega (arith, ap (λ (k : ℕ). word ws (numbers + k)) r.says.stmt_is ∙ r.says.number_is (sym r.says.ref_is ∙ h))

-- ---- the letters of a step

code_near : (v end next : ℕ) (before after : List ℕ) → v ≤ max_word → Put (code v) end next before after → next ≤ end + most_letters
code_near v end next before after h p = omega (arith, p.ends, code_most v h)

module _ (at numbers both number end next : ℕ) (ws before between : List ℕ) (small : number ≤ max_word) (n : NumberIs at numbers both number ws) (p : Put (code number) end next before between) where
  -- not marked
  pub wrote_plain : word ws (at + 1) ≡ 0 → StepWrote at numbers both end next ws before between
  unfolding step_letters
  wrote_plain h =
      record {
        near = omega (arith, code_near number end next before between small p);
        wrote = λ thm labels t s.
            let text : step_letters thm labels t ≡ code number =
            rw (eqb_yes t.mark 0 (sym s.mark_is ∙ h)) (append-nil (code (step_number thm labels t)) ∙ ap code (sym (n thm labels t s))) in
            subst (λ (x : List ℕ). Grows x end next before between) (sym text) (grows_one p);
      }

  -- marked: `Z` follows
  pub wrote_marked : (end' : ℕ) (after : List ℕ) → word ws (at + 1) ≢ 0 → Put (90 ∷ []) next end' between after → StepWrote at numbers both end end' ws before after
  unfolding step_letters
  wrote_marked end' after h z =
      record {
        near = omega (arith, z.ends, code_near number end next before between small p);
        wrote = λ thm labels t s.
            let text : step_letters thm labels t ≡ code number ++ (90 ∷ []) =
            rw (eqb_no t.mark 0 (λ e. h (s.mark_is ∙ e))) (ap (λ (v : ℕ). code v ++ (90 ∷ [])) (sym (n thm labels t s))) in
            subst (λ (x : List ℕ). Grows x end end' before after) (sym text) (grows_more (grows_one p) z);
      }

  pub near_next : next ≤ end + most_letters
  near_next = code_near number end next before between small p

-- ---- a list of steps

letters_append : (thm labels : List ℕ) (xs ys : List Step) → letters_of thm labels (xs ++ ys) ≡ letters_of thm labels xs ++ letters_of thm labels ys
unfolding letters_of
letters_append thm labels [] ys = refl
letters_append thm labels (t ∷ ts) ys =
    ap (λ (r : List ℕ). step_letters thm labels t ++ r) (letters_append thm labels ts ys) ∙ sym (append_assoc (step_letters thm labels t) (letters_of thm labels ts) (letters_of thm labels ys))

letters_one : (thm labels : List ℕ) (t : Step) → letters_of thm labels (t ∷ []) ≡ step_letters thm labels t
unfolding letters_of
letters_one thm labels t = append-nil (step_letters thm labels t)

abbrev pub any_step : Step
any_step = record { ref = 0; mark = 0; stmt = 0; parent = 0; index = 0 }

-- a loop's turn, from i steps to i + 1
pub letters_next : (thm labels : List ℕ) (ts : List Step) (i : ℕ) → i < length ts
    → letters_of thm labels (take (i + 1) ts) ≡ letters_of thm labels (take i ts) ++ step_letters thm labels (get_or ts i any_step)
letters_next thm labels ts i h =
    let t = get_or ts i any_step in
    let more : take (i + 1) ts ≡ take i ts ++ (t ∷ []) = ap (λ (k : ℕ). take k ts) (add-one i) ∙ take-suc ts i any_step h in
    ap (letters_of thm labels) more ∙ letters_append thm labels (take i ts) (t ∷ []) ∙ ap (λ (x : List ℕ). letters_of thm labels (take i ts) ++ x) (letters_one thm labels t)

-- step i is said
pub step_said : (steps many numbers both i : ℕ) (ws thm labels : List ℕ) (ts : List Step) → SaysAll steps many numbers both ws thm labels ts → i < many
    → Says (steps + step_size * i) numbers both ws thm labels (get_or ts i any_step)
unfolding step_words
step_said steps many numbers both i ws thm labels ts s l =
    let t = get_or ts i any_step in
    let named = all_at (λ x. x.ref ≡ 0 → (numbers + x.stmt < length ws) × (word ws (numbers + x.stmt) ≡ number_of thm labels x.stmt + 1)) ts any_step s.named i (omega (arith, s.as_many)) in
    let at : (j : ℕ) → j < step_size → word ws (steps + step_size * i + j) ≡ get_or (step_words t) j 0 =
    λ j m. ap (word ws) (omega arith)
    ∙ sym (part_at steps (step_size * many) ws (step_size * i + j) 0 (omega arith))
    ∙ ap (λ (x : List ℕ). get_or x (step_size * i + j) 0) s.holds
    ∙ flat_at ts any_step i j (omega (arith, s.as_many)) m in
    record {
      lengths = s.lengths;
      ref_is = ap (word ws) (omega arith) ∙ at 0 (omega arith);
      mark_is = at 1 (omega arith);
      stmt_is = at 2 (omega arith);
      number_in = λ z. (named z).0;
      number_is = λ z. (named z).1;
    }

pub step_ready : (steps many numbers both i : ℕ) (ws : List ℕ) → ListReady steps many numbers both ws → i < many → StepReady (steps + step_size * i) numbers both ws
step_ready steps many numbers both i ws r l =
    record {
      step_in = omega (arith, r.inside);
      thm = r.thm;
      labels = r.labels;
      t = get_or r.ts i any_step;
      says = step_said steps many numbers both i ws r.thm r.labels r.ts r.says l;
      few = all_at (λ x. both + x.ref ≤ max_word) r.ts any_step r.few i (omega (arith, r.says.as_many));
    }

-- the letters of the first i steps are written
pub record WroteTo (steps many numbers both i end : ℕ) (ws before after : List ℕ) : Type 0 where
  pub some_left : i ≤ many
  pub near : end ≤ most_step * i
  pub same_length : length after ≡ length before
  pub wrote : (thm labels : List ℕ) (ts : List Step) → SaysAll steps many numbers both ws thm labels ts → Grows (letters_of thm labels (take i ts)) 0 end before after

pub none_written : (steps many numbers both : ℕ) (ws out : List ℕ) → WroteTo steps many numbers both 0 0 ws out out
unfolding letters_of
none_written steps many numbers both ws out = record { some_left = omega arith; near = omega arith; same_length = refl; wrote = λ thm labels ts s. grows_none 0 out }

pub turn : (steps many numbers both i end end' : ℕ) (ws before between after : List ℕ) → WroteTo steps many numbers both i end ws before between → i < many
    → length after ≡ length between → StepWrote (steps + step_size * i) numbers both end end' ws between after → WroteTo steps many numbers both (i + 1) end' ws before after
turn steps many numbers both i end end' ws before between after w l len one =
    record {
      some_left = omega arith;
      near = omega (arith, w.near, one.near);
      same_length = len ∙ w.same_length;
      wrote = λ thm labels ts s.
          subst (λ (x : List ℕ). Grows x 0 end' before after) (sym (letters_next thm labels ts i (omega (arith, s.as_many))))
          (grows_then (w.wrote thm labels ts s) (one.wrote thm labels (get_or ts i any_step) (step_said steps many numbers both i ws thm labels ts s l)));
    }

pub all_written : (steps many numbers both i end : ℕ) (ws before after : List ℕ) → i ≡ many → WroteTo steps many numbers both i end ws before after
    → ListWrote steps many numbers both end ws before after
all_written steps many numbers both i end ws before after e w =
    record {
      near = omega (arith, w.near);
      wrote = λ thm labels ts s.
          let whole : take i ts ≡ ts = ap (λ (k : ℕ). take k ts) (e ∙ s.as_many) ∙ take-length ts in
          subst (λ (x : List Step). Grows (letters_of thm labels x) 0 end before after) whole (w.wrote thm labels ts s);
    }
