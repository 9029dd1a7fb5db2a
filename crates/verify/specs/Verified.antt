-- What comparing the three ways answers, over the definitions of the operations.
use Rattle.std.specs.Prelude.{ℕ, true, false, ◌&&◌, List, eqb}
use Rattle.laws.specs.Tools.{pick, same}
use Rattle.defs.specs.Layout.{Layout}
use Rattle.defs.specs.Outcome.{step_list_outcome, letters_outcome}
use Rattle.defs.specs.Decode.{decode_outcome}
use Rattle.defs.specs.Replay.{replay_outcome}
use Rattle.verify.specs.Gave.{Gave, gave}
use Rattle.verify.specs.declared.verdict.Stage.{Stage}
use Rattle.verify.specs.declared.verdict.Stage.TheVariants.{PackedList, PackedRead, NormalList, NormalRead, Letters, Decoded, LettersRead}
use Rattle.verify.specs.declared.verdict.Verdict.{Verdict}
use Rattle.verify.specs.declared.verdict.Verdict.TheVariants.{Agree, Refused, Differ}

-- a stage that refuses ends the comparison
unfoldable pub unless : Stage → ℕ → Verdict → Verdict
unless stage number next = pick (eqb number 0) next (Refused stage number)

-- so does a verdict that is not yes
unfoldable pub agreeing : Verdict → Verdict → Verdict
agreeing Agree next = next
agreeing (Refused stage number) next = Refused stage number
agreeing (Differ stage) next = Differ stage

-- a step list is read, and gives the entries and children that were built before
unfoldable pub read_again : Stage → (w b steps built kids work entries children : List ℕ) → Verdict
read_again stage w b steps built kids work entries children =
    let read : Gave = gave (replay_outcome w b steps work entries children) in
    unless stage read.number (pick (same read.first built && same read.second kids) Agree (Differ stage))

-- ---- the packed list, written and read: what all else is compared with

abbrev pub packed_gave : (w b work packed : List ℕ) → Gave
packed_gave w b work packed = gave (step_list_outcome w b true false work packed)

abbrev pub built_gave : (w b work packed built kids : List ℕ) → Gave
built_gave w b work packed built kids = gave (replay_outcome w b (packed_gave w b work packed).first work built kids)

unfoldable pub packed_way : (w b work packed built kids : List ℕ) → Verdict → Verdict
packed_way w b work packed built kids next =
    unless PackedList (packed_gave w b work packed).number
    (unless PackedRead (built_gave w b work packed built kids).number next)

-- ---- the normal list, written, read and compared

unfoldable pub normal_way : (w b built kids work steps entries children : List ℕ) → Verdict
normal_way w b built kids work steps entries children =
    let list : Gave = gave (step_list_outcome w b false false work steps) in
    unless NormalList list.number (read_again NormalRead w b list.first built kids work entries children)

unfoldable pub lists_way : (w b work packed steps built kids entries children : List ℕ) → Verdict → Verdict
lists_way w b work packed steps built kids entries children next =
    let read : Gave = built_gave w b work packed built kids in
    packed_way w b work packed built kids (agreeing (normal_way w b read.first read.second work steps entries children) next)

-- ---- the letters with their label list, written, decoded, compared with the packed list, read and compared

abbrev pub letters_gave : (w b : List ℕ) (l : Layout) (work sums list letters : List ℕ) → Gave
letters_gave w b l work sums list letters = gave (letters_outcome w b l work sums list letters)

abbrev pub decoded_gave : (w b : List ℕ) (l : Layout) (work sums list letters steps : List ℕ) → Gave
decoded_gave w b l work sums list letters steps =
    let spelled : Gave = letters_gave w b l work sums list letters in gave (decode_outcome w b spelled.first spelled.second steps)

unfoldable pub spelled_way : (w b : List ℕ) (l : Layout) (work sums list letters steps : List ℕ) → Verdict → Verdict
spelled_way w b l work sums list letters steps next =
    unless Letters (letters_gave w b l work sums list letters).number
    (unless Decoded (decoded_gave w b l work sums list letters steps).number next)

unfoldable pub decoded_way : (w b steps packed built kids work entries children : List ℕ) → Verdict
decoded_way w b steps packed built kids work entries children =
    pick (same steps packed) (read_again LettersRead w b steps built kids work entries children) (Differ Decoded)

unfoldable pub letters_way : (w b : List ℕ) (l : Layout) (packed built kids work sums steps list letters entries children : List ℕ) → Verdict
letters_way w b l packed built kids work sums steps list letters entries children =
    spelled_way w b l work sums list letters steps
    (decoded_way w b (decoded_gave w b l work sums list letters steps).first packed built kids work entries children)

-- ---- the slices lent, and the three ways, one after another

pub record Lent : Type 0 where
  pub work : List ℕ
  pub sums : List ℕ
  pub packed : List ℕ
  pub steps : List ℕ
  pub list : List ℕ
  pub letters : List ℕ
  pub built : List ℕ
  pub kids : List ℕ
  pub entries : List ℕ
  pub children : List ℕ

-- as a contract puts them together, in the order in which they are lent
abbrev pub lent : (work sums packed steps list letters built kids entries children : List ℕ) → Lent
lent work sums packed steps list letters built kids entries children =
    record { work = work; sums = sums; packed = packed; steps = steps; list = list; letters = letters; built = built; kids = kids; entries = entries; children = children }

unfoldable pub verified : (w b : List ℕ) (l : Layout) → Lent → Verdict
verified w b l m =
    let list : Gave = packed_gave w b m.work m.packed in
    let read : Gave = built_gave w b m.work m.packed m.built m.kids in
    lists_way w b m.work m.packed m.steps m.built m.kids m.entries m.children
    (letters_way w b l list.first read.first read.second m.work m.sums m.steps m.list m.letters m.entries m.children)
