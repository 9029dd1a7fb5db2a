-- What a yes says: no operation refused, the normal list and the letters were read as the packed list was, and the letters decoded to it.
use Rattle.std.specs.Prelude.{◌≡◌, refl, Bool, true, false, ◌&&◌, List, ℕ, eqb}
use Rattle.std.proofs.Common.{ap, arith, eqb→eq}
use Rattle.laws.specs.Tools.{pick, same}
use Rattle.laws.specs.Lists.{boole, T_of, clash, same_is}
use Rattle.defs.specs.Layout.{Layout}
use Rattle.defs.specs.Outcome.{step_list_outcome}
use Rattle.defs.specs.Replay.{replay_outcome}
use Rattle.verify.specs.Gave.{Gave, gave}
use Rattle.verify.specs.Verified.{unless, agreeing, read_again, packed_gave, built_gave, packed_way, normal_way, lists_way, letters_gave, decoded_gave, spelled_way, decoded_way, letters_way, Lent, verified}
use Rattle.verify.specs.declared.verdict.Stage.{Stage}
use Rattle.verify.specs.declared.verdict.Stage.TheVariants.{PackedList, PackedRead, NormalList, NormalRead, Letters, Decoded, LettersRead}
use Rattle.verify.specs.declared.verdict.Verdict.{Verdict}
use Rattle.verify.specs.declared.verdict.Verdict.TheVariants.{Agree, Refused, Differ}

-- a step list was read, into these entries and children
pub record ReadAs (w b steps built kids work entries children : List ℕ) : Type 0 where
  pub done : (gave (replay_outcome w b steps work entries children)).number ≡ 0
  pub entries_are : (gave (replay_outcome w b steps work entries children)).first ≡ built
  pub children_are : (gave (replay_outcome w b steps work entries children)).second ≡ kids

abbrev pub normal_gave : (w b work steps : List ℕ) → Gave
normal_gave w b work steps = gave (step_list_outcome w b false false work steps)

pub record Agreed (w b : List ℕ) (l : Layout) (m : Lent) : Type 0 where
  pub packed_written : (packed_gave w b m.work m.packed).number ≡ 0
  pub packed_read : (built_gave w b m.work m.packed m.built m.kids).number ≡ 0
  pub normal_written : (normal_gave w b m.work m.steps).number ≡ 0
  pub normal_read : ReadAs w b (normal_gave w b m.work m.steps).first
      (built_gave w b m.work m.packed m.built m.kids).first (built_gave w b m.work m.packed m.built m.kids).second m.work m.entries m.children
  pub letters_written : (letters_gave w b l m.work m.sums m.list m.letters).number ≡ 0
  pub letters_decoded : (decoded_gave w b l m.work m.sums m.list m.letters m.steps).number ≡ 0
  pub decoded_packed : (decoded_gave w b l m.work m.sums m.list m.letters m.steps).first ≡ (packed_gave w b m.work m.packed).first
  pub letters_read : ReadAs w b (decoded_gave w b l m.work m.sums m.list m.letters m.steps).first
      (built_gave w b m.work m.packed m.built m.kids).first (built_gave w b m.work m.packed m.built m.kids).second m.work m.entries m.children

-- ---- a yes at the end was a yes all along

-- 0 for a yes
tag : Verdict → ℕ
tag Agree = 0
tag (Refused stage number) = 1
tag (Differ stage) = 1

no_yes : (v : Verdict) → tag v ≡ 1 → ¬ (v ≡ Agree)
unfolding tag
no_yes v t e = omega (arith, t, ap tag e)

unless_yes : (stage : Stage) (number : ℕ) (next : Verdict) → unless stage number next ≡ Agree → (number ≡ 0) × (next ≡ Agree)
unfolding unless tag
unless_yes stage number next e =
    boole (eqb number 0)
    (λ y. (eqb→eq number 0 (T_of y), rw y at e))
    (λ y. absurd (no_yes (Refused stage number) refl (rw y at e)))

agreeing_yes : (v next : Verdict) → agreeing v next ≡ Agree → (v ≡ Agree) × (next ≡ Agree)
unfolding agreeing tag
agreeing_yes Agree next e = (refl, e)
agreeing_yes (Refused stage number) next e = absurd (no_yes (Refused stage number) refl e)
agreeing_yes (Differ stage) next e = absurd (no_yes (Differ stage) refl e)

pick_yes : (test : Bool) (stage : Stage) (next : Verdict) → pick test next (Differ stage) ≡ Agree → (test ≡ true) × (next ≡ Agree)
unfolding tag
pick_yes true stage next e = (refl, e)
pick_yes false stage next e = absurd (no_yes (Differ stage) refl e)

and_both : (x y : Bool) → (x && y) ≡ true → (x ≡ true) × (y ≡ true)
and_both true y e = (refl, e)
and_both false y e = clash false e refl

again_yes : (stage : Stage) (w b steps built kids work entries children : List ℕ) → read_again stage w b steps built kids work entries children ≡ Agree
    → ReadAs w b steps built kids work entries children
unfolding read_again
again_yes stage w b steps built kids work entries children e =
    let read : Gave = gave (replay_outcome w b steps work entries children) in
    let fine = unless_yes stage read.number (pick (same read.first built && same read.second kids) Agree (Differ stage)) e in
    let both = and_both (same read.first built) (same read.second kids) (pick_yes (same read.first built && same read.second kids) stage Agree fine.1).0 in
    record { done = fine.0; entries_are = same_is _ _ (T_of both.0); children_are = same_is _ _ (T_of both.1) }

pub agreed : (w b : List ℕ) (l : Layout) (m : Lent) → verified w b l m ≡ Agree → Agreed w b l m
unfolding verified lists_way packed_way normal_way letters_way spelled_way decoded_way
agreed w b l m e =
    let list = unless_yes PackedList _ _ e in
    let read = unless_yes PackedRead _ _ list.1 in
    let lists = agreeing_yes _ _ read.1 in
    let normal = unless_yes NormalList _ _ lists.0 in
    let letters = unless_yes Letters _ _ lists.1 in
    let decoded = unless_yes Decoded _ _ letters.1 in
    let equal =
    pick_yes (same (decoded_gave w b l m.work m.sums m.list m.letters m.steps).first (packed_gave w b m.work m.packed).first) Decoded _ decoded.1 in
    record {
      packed_written = list.0;
      packed_read = read.0;
      normal_written = normal.0;
      normal_read = again_yes NormalRead _ _ _ _ _ _ _ _ normal.1;
      letters_written = letters.0;
      letters_decoded = decoded.0;
      decoded_packed = same_is _ _ (T_of equal.0);
      letters_read = again_yes LettersRead _ _ _ _ _ _ _ _ equal.1;
    }
