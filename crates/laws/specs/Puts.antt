-- Words put into a slice: what a writer leaves, what it shows at each of its returns, and what its callers read from that.
use Rattle.std.specs.Prelude.{◌≡◌, refl, List, [], ◌∷◌, ◌++◌, ℕ, zero, suc, ◌+◌, ◌-◌, ◌<◌, ◌≤◌, length, get_or, set, take, drop}
use Rattle.std.proofs.Common.{sym, ap, ◌∙◌, append_assoc, append-nil, add-one, arith, length-append, length-drop, take-append-drop, take-suc, take_at, drop_at, drop-drop, length-take-le}
use Rattle.std.proofs.Math.Decide.{dec_lt}
use Rattle.std.proofs.lemmas.List.{set_at, set_split}
use Rattle.std.proofs.Math.Seq.{drop-length, drop-append-add}

-- places from which a word's end is counted lie below this, 2 to the 62nd: so no end wraps
abbrev pub farthest : ℕ
farthest = 4611686018427387904

-- a word stands from `at` to `end`, and all else is as it was before
pub record Placed (word : List ℕ) (at end : ℕ) (before after : List ℕ) : Type 0 where
  pub ends : end ≡ at + length word
  pub holds : after ≡ (take at before ++ word) ++ drop end before

-- a word is put from `at` on where it fits, and nothing is changed where it does not; `end` is its end either way
pub record Put (word : List ℕ) (at end : ℕ) (before after : List ℕ) : Type 0 where
  pub ends : end ≡ at + length word
  pub fits : end ≤ length before → after ≡ (take at before ++ word) ++ drop end before
  pub short : length before < end → after ≡ before

-- ---- a text that grows by pieces, each stored where it fits

-- the end is counted always; where all of the text fits, it stands from `at` to `end`, and all else is as it was before.
-- `Put` says more of one piece that does not fit: nothing is changed then. Of two, the first may stand there
pub record Grows (text : List ℕ) (at end : ℕ) (before after : List ℕ) : Type 0 where
  pub ends : end ≡ at + length text
  pub kept : length after ≡ length before
  pub fits : end ≤ length before → after ≡ (take at before ++ text) ++ drop end before

-- ---- laws of one word

-- the word did not fit, and nothing was changed
pub not_put : (word before : List ℕ) (at end : ℕ) → end ≡ at + length word → length before < end → Put word at end before before
not_put word before at end e h = record { ends = e; fits = λ k. absurd (omega arith); short = λ k. refl }

-- the word fitted
pub is_put : {word before after : List ℕ} {at end : ℕ} → end ≤ length before → Placed word at end before after → Put word at end before after
is_put h b = record { ends = b.ends; fits = λ k. b.holds; short = λ k. absurd (omega arith) }

-- one letter was stored
pub put_one : (before : List ℕ) (at x : ℕ) → at < length before → Placed (x ∷ []) at (at + 1) before (set before at x)
put_one before at x h =
    record { ends = refl; holds = set_split before at x h ∙ rw (add-one at) (sym (append_assoc (take at before) (x ∷ []) (drop (suc at) before))) }

-- ---- a word put in front of `end`, from its last letter to its first

pub placed_none : (before : List ℕ) (end : ℕ) → Placed [] end end before before
placed_none before end = record { ends = omega arith; holds = rw (append-nil (take end before)) (sym (take-append-drop end before)) }

-- one letter more in front of those that stand
put_front : (before tail rest : List ℕ) (k x : ℕ) → k < length before
    → set ((take (suc k) before ++ tail) ++ rest) k x ≡ (take k before ++ x ∷ tail) ++ rest
put_front before tail rest k x h =
    let t : take (suc k) before ≡ take k before ++ (get_or before k 0 ∷ []) = take-suc before k 0 h in
    let l : length (take k before) ≡ k = length-take-le k before (omega arith) in
    let r : ((take k before ++ (get_or before k 0 ∷ [])) ++ tail) ++ rest ≡ take k before ++ (get_or before k 0 ∷ (tail ++ rest)) = simp append_assoc in
    rw (t, r, set_at (take k before) (get_or before k 0) (tail ++ rest) x k l) (simp append_assoc)

pub placed_front : (at x : ℕ) {tail before after : List ℕ} {end : ℕ} → Placed tail at end before after → 0 < at → end ≤ length before
    → Placed (x ∷ tail) (at - 1) end before (set after (at - 1) x)
placed_front zero x p h l = absurd (omega arith)
placed_front (suc k) x {tail} {before} {after} {end} p h l =
    let e : suc k - 1 ≡ k = omega arith in
    rw e (record {
      ends = omega (arith, p.ends);
      holds = ap (λ (y : List ℕ). set y k x) p.holds ∙ put_front before tail (drop end before) k x (omega (arith, p.ends));
    })

-- a word put at the end of a slice is what stands there from its start on
pub placed_last : (word before after : List ℕ) (at : ℕ) → Placed word at (length before) before after → drop at after ≡ word
placed_last word before after at b =
    let l : length (take at before) ≡ at = length-take-le at before (omega (arith, b.ends)) in
    let r : (take at before ++ word) ++ drop (length before) before ≡ take at before ++ word = rw (drop-length before) (append-nil (take at before ++ word)) in
    ap (λ (x : List ℕ). drop at x) (b.holds ∙ r) ∙ drop_at (take at before) word at l

-- ---- laws of a text that grows

-- a text that stands at the front grows by a piece put at its end
pub grow : (text piece start now : List ℕ) (at end : ℕ) → at ≡ length text → end ≡ at + length piece → now ≡ text ++ drop at start
    → (take at now ++ piece) ++ drop end now ≡ (text ++ piece) ++ drop end start
grow text piece start now at end a e h =
    let t : take at now ≡ text = ap (take at) h ∙ take_at text (drop at start) at (sym a) in
    let d : drop end now ≡ drop end start =
    ap (drop end) h
    ∙ rw (e, a) (drop-append-add text (drop (length text) start) (length piece) ∙ drop-drop (length piece) (length text) start) in
    rw (t, d)

-- nothing yet, and one piece
pub grows_none : (at : ℕ) (o : List ℕ) → Grows [] at at o o
grows_none at o = record { ends = omega arith; kept = refl; fits = λ h. sym (rw append-nil (take-append-drop at o)) }

pub grows_one : {piece before after : List ℕ} {at end : ℕ} → Put piece at end before after → Grows piece at end before after
grows_one {piece} {before} {after} {at} {end} p =
    record {
      ends = p.ends;
      kept = elim (dec_lt (length before) end) [
        | yes h ↦ ap length (p.short h)
        | no h ↦
            let t : length (take at before) ≡ at = length-take-le at before (omega (arith, p.ends)) in
            ap length (p.fits (omega arith))
            ∙ omega (arith, p.ends, length-append (take at before ++ piece) (drop end before), length-append (take at before) piece, length-drop end before)
      ];
      fits = p.fits;
    }

-- one text after another; one piece more
pub grows_then : {text piece before between after : List ℕ} {at mid end : ℕ} → Grows text at mid before between → Grows piece mid end between after
    → Grows (text ++ piece) at end before after
grows_then {text} {piece} {before} {between} {after} {at} {mid} {end} a b =
    record {
      ends = omega (arith, a.ends, b.ends, length-append text piece);
      kept = b.kept ∙ a.kept;
      fits = λ h.
          let t : length (take at before) ≡ at = length-take-le at before (omega (arith, a.ends, b.ends)) in
          b.fits (omega (arith, a.kept))
          ∙ grow (take at before ++ text) piece before between mid end (omega (arith, a.ends, length-append (take at before) text)) b.ends (a.fits (omega (arith, b.ends)))
          ∙ rw (append_assoc (take at before) text piece);
    }

pub grows_more : {text piece before between after : List ℕ} {at mid end : ℕ} → Grows text at mid before between → Put piece mid end between after
    → Grows (text ++ piece) at end before after
grows_more a p = grows_then a (grows_one p)
