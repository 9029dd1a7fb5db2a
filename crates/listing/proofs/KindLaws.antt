-- One kind kept from a list, statement by statement: what stands after the first i of them, and what a turn of the loop adds.
-- The kept ones go behind the list, so that the list stays as it was.
use mathlib.Core.Path.{◌≡◌, refl, sym, ap, ◌∙◌, subst}
use mathlib.Core.Logic.{◌≢◌, ◌⊎◌, inl, inr}
use mathlib.Core.Bool.{Bool, true, false, not, beq}
use mathlib.Core.List.{List, [], ◌∷◌, ◌++◌, append-nil}
use Prim.Native.Nat.{ℕ, zero, suc, ◌+◌, ◌≤◌, ◌<◌}
use native.Mathlib.Omega.{arith}
use native.Mathlib.Numerals.{add-one}
use native.Mathlib.Decide.{ℕ_discrete}
use lib.ListN.{length, get_or, set, take, length-append, length-set, get_or-append}
use lib.Seq.{take-suc, take-length, get_or-set_same, get_or-set_other, get_or-append_seam}
use lib.Dec.{eqb}
use Rattle.std.specs.Option.{option_eq}
use Rattle.std.specs.Prelude.{Option, Some}
use Rattle.laws.specs.Tools.{pick, keep}
use Rattle.laws.specs.Lists.{boole, all_at, eqb_no, keep_append}
use Rattle.defs.specs.Table.{word, kind_in}
use Rattle.table.specs.Kinds.{kind_said}
use Rattle.table.specs.declared.kinds.Kind.{Kind}
use Rattle.table.specs.declared.kinds.Kind.TheVariants.{Assertion}
use Rattle.table.specs.contracts.kinds.KindPartialEq.TheImpl.{eq-value}
use Rattle.table.specs.Records.{StatementIn}
use Rattle.listing.specs.Arrays.{OnlyIn}
use Rattle.listing.specs.Kinds.{wanted, OneReady, OneKept, Holds, ListReady, Kept}

-- ---- the test, as the code has it

is_assertion : (k : ℕ) → option_eq eq-value.it (kind_said k) (Some Assertion) ≡ eqb k 0
is_assertion zero = refl
is_assertion (suc zero) = refl
is_assertion (suc (suc zero)) = refl
is_assertion (suc (suc (suc k))) = sym (eqb_no (suc (suc (suc k))) 0 (λ e. omega arith))

picked : (t a : Bool) → pick a t (not t) ≡ beq t a
picked true true = refl
picked true false = refl
picked false true = refl
picked false false = refl

pub wanted_is : (a : Bool) (ss : List ℕ) (k : ℕ) (kind : Option Kind) (is : Bool) → kind ≡ kind_said (kind_in ss k) → is ≡ option_eq eq-value.it kind (Some Assertion)
    → wanted ss a k ≡ beq is a
unfolding wanted
wanted_is a ss k kind is e f = rw (f, e, is_assertion (kind_in ss k)) (picked (eqb (kind_in ss k) 0) a)

-- ---- after the first i of them

pub record KeptTo (ss : List ℕ) (a : Bool) (at many to i end : ℕ) (ws₀ ws : List ℕ) : Type 0 where
  pub some_left : i ≤ many
  pub same_length : length ws ≡ length ws₀
  pub low : to ≤ end
  pub high : end ≤ to + i
  pub kept : (list : List ℕ) → many ≡ length list → Holds at list ws₀
      → (end ≡ to + length (keep (wanted ss a) (take i list))) × Holds to (keep (wanted ss a) (take i list)) ws
  pub only : OnlyIn to (to + many) ws₀ ws

pub none_kept : (ss : List ℕ) (a : Bool) (at many to : ℕ) (ws : List ℕ) → KeptTo ss a at many to 0 to ws ws
unfolding keep
none_kept ss a at many to ws =
    record { some_left = omega arith; same_length = refl; low = omega arith; high = omega arith; kept = λ list e h. (omega arith, λ i l. absurd (omega arith)); only = λ j l. refl }

pub all_kept : (ss : List ℕ) (a : Bool) (at many to i end : ℕ) (ws₀ ws : List ℕ) → i ≡ many → KeptTo ss a at many to i end ws₀ ws → Kept ss a at many to end ws₀ ws
unfolding Kept
all_kept ss a at many to i end ws₀ ws e k = (
  λ list m h.
      let whole : take i list ≡ list = ap (λ (j : ℕ). take j list) (e ∙ m) ∙ take-length list in
      subst (λ (l : List ℕ). (end ≡ to + length (keep (wanted ss a) l)) × Holds to (keep (wanted ss a) l) ws) whole (k.kept list m h),
  k.only,
)

module _ (ss : List ℕ) (a : Bool) (at many to i end : ℕ) (ws₀ ws : List ℕ) (k : KeptTo ss a at many to i end ws₀ ws) (l : i < many) (apart : at + many ≤ to) (room : to + many ≤ length ws₀) where
  -- statement i, as the list has it
  item_is : (list : List ℕ) → many ≡ length list → Holds at list ws₀ → word ws (at + i) ≡ get_or list i 0
  item_is list e h = k.only (at + i) (inl (omega arith)) ∙ h i (omega arith)

  kept_more : (list : List ℕ) → many ≡ length list → Holds at list ws₀
      → keep (wanted ss a) (take (i + 1) list) ≡ keep (wanted ss a) (take i list) ++ keep (wanted ss a) (word ws (at + i) ∷ [])
  kept_more list e h =
      ap (keep (wanted ss a)) (ap (λ (j : ℕ). take j list) (add-one i) ∙ take-suc list i 0 (omega arith) ∙ ap (λ (x : ℕ). take i list ++ (x ∷ [])) (sym (item_is list e h)))
      ∙ keep_append (wanted ss a) (take i list) (word ws (at + i) ∷ [])

  pub turn_left_out : wanted ss a (word ws (at + i)) ≡ false → KeptTo ss a at many to (i + 1) end ws₀ ws
  unfolding keep
  turn_left_out f =
      record {
        some_left = omega arith;
        same_length = k.same_length;
        low = k.low;
        high = omega (arith, k.high);
        kept = λ list e h.
            let same : keep (wanted ss a) (take (i + 1) list) ≡ keep (wanted ss a) (take i list) = kept_more list e h ∙ rw f (append-nil (keep (wanted ss a) (take i list))) in
            subst (λ (xs : List ℕ). (end ≡ to + length xs) × Holds to xs ws) (sym same) (k.kept list e h);
        only = k.only;
      }

  put_end : (xs : List ℕ) (v : ℕ) → end ≡ to + length xs → Holds to xs ws → Holds to (xs ++ (v ∷ [])) (set ws end v)
  put_end xs v e h j m =
      elim (ℕ_discrete j (length xs)) [
        | yes q ↦ ap (λ (y : ℕ). word (set ws end v) (to + y)) q
            ∙ ap (word (set ws end v)) (sym e)
            ∙ get_or-set_same ws end v 0 (omega (arith, k.high, k.same_length))
            ∙ sym (ap (λ (y : ℕ). get_or (xs ++ (v ∷ [])) y 0) q ∙ get_or-append_seam xs v [] 0)
        | no q ↦ (let less : j < length xs = omega (arith, length-append xs (v ∷ [])) in
            get_or-set_other ws end (to + j) v 0 (omega arith) ∙ h j less ∙ sym (get_or-append xs (v ∷ []) 0 j less))
      ]

  pub turn_taken : wanted ss a (word ws (at + i)) ≡ true → KeptTo ss a at many to (i + 1) (end + 1) ws₀ (set ws end (word ws (at + i)))
  unfolding keep
  turn_taken t =
      let v = word ws (at + i) in
      record {
        some_left = omega arith;
        same_length = length-set ws end v ∙ k.same_length;
        low = omega (arith, k.low);
        high = omega (arith, k.high);
        kept = λ list e h.
            let old = k.kept list e h in
            let xs = keep (wanted ss a) (take i list) in
            let longer : keep (wanted ss a) (take (i + 1) list) ≡ xs ++ (v ∷ []) = kept_more list e h ∙ rw t in
            subst (λ (ys : List ℕ). (end + 1 ≡ to + length ys) × Holds to ys (set ws end v)) (sym longer)
            (omega (arith, old.0, length-append xs (v ∷ [])), put_end xs v old.0 old.1);
        only = λ j m. get_or-set_other ws end j v 0 (apart_from j m) ∙ k.only j m;
      }
    where
      apart_from : (j : ℕ) → (j < to) ⊎ (to + many ≤ j) → j ≢ end
      apart_from j (inl m) = omega (arith, k.low)
      apart_from j (inr m) = omega (arith, k.high)

  -- one statement more
  pub turn_kept : (end' : ℕ) (ws' : List ℕ) → OneKept ss a (at + i) end end' ws ws' → KeptTo ss a at many to (i + 1) end' ws₀ ws'
  turn_kept end' ws' o =
      boole (wanted ss a (word ws (at + i)))
      (λ t. rw ((o.taken t).0, (o.taken t).1) (turn_taken t))
      (λ f. rw ((o.left_out f).0, (o.left_out f).1) (turn_left_out f))

-- the statement may be kept
pub one_ready : (ss : List ℕ) (a : Bool) (at many to i end : ℕ) (ws₀ ws : List ℕ) → ListReady ss at many to ws₀ → KeptTo ss a at many to i end ws₀ ws → i < many
    → OneReady ss (at + i) end ws
one_ready ss a at many to i end ws₀ ws r k l =
    record {
      at_in = omega (arith, r.apart, r.room, k.same_length);
      end_in = omega (arith, r.room, k.high, k.same_length);
      inside = subst (StatementIn ss) (sym (k.only (at + i) (inl (omega (arith, r.apart))) ∙ r.holds i (omega (arith, r.as_many))))
          (all_at (StatementIn ss) r.list 0 r.inside i (omega (arith, r.as_many)));
    }
