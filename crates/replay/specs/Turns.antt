-- One step of a replay over the slices: what they hold as a `Replay` of crate defs, and what a step makes of that.
use Rattle.std.specs.Prelude.{◌≡◌, List, [], ◌∷◌, ◌++◌, ℕ, ◌+◌, ◌-◌, ◌≤◌, length, take, drop, eqb, ltb, Result, Ok, Err}
use Rattle.laws.specs.Tools.{pick}
use Rattle.defs.specs.Table.{word, statements, statement_words, hyp_words, hyp_count}
use Rattle.defs.specs.Checked.{HeaderOk}
use Rattle.defs.specs.Sections.{HypsOk}
use Rattle.defs.specs.Replay.{Replay, Turn, refused, going}
use Rattle.store.specs.Places.{Place, no_room, placed, place, StoreOk}
use Rattle.replay.specs.declared.turn.State.{State}
use Rattle.answers.specs.declared.refusals.Refusal.{Refusal}
use Rattle.answers.specs.Refused.{refusal_number}
use Rattle.replay.specs.Stack.{Pushed}

-- what the reader needs of a table: its statements, and so many hypotheses at most
pub record Readable (w : List ℕ) : Type 0 where
  pub header : HeaderOk w
  pub hyps : HypsOk (statement_words w) (hyp_words w) (statements w)

-- ---- the slices as a replay

-- the working slice has a stack of `half` words, then the entry of each mark
abbrev pub standing : (half : ℕ) (work es cs : List ℕ) → State → Replay
standing half work es cs s =
    record {
      built = take s.store.built es;
      kids = take s.store.kids cs;
      stack = take s.height work;
      named = take s.marks (drop half work);
    }

unfoldable pub turn_of : (half : ℕ) (work es cs : List ℕ) → Result State Refusal → Turn
turn_of half work es cs (Err r) = refused (refusal_number r)
turn_of half work es cs (Ok s) = going (standing half work es cs s)

-- a step pushes one item and gives one mark at most, and leaves what is built in order
pub record Grew (before : State) (es cs : List ℕ) (s : State) : Type 0 where
  pub store_ok : StoreOk es cs s.store
  pub height_most : s.height ≤ before.height + 1
  pub marks_most : s.marks ≤ before.marks + 1

unfoldable pub Grown : (before : State) (es cs : List ℕ) → Result State Refusal → Type 0
Grown before es cs (Err r) = Unit {0}
Grown before es cs (Ok s) = Grew before es cs s

-- at the end too
unfoldable pub Ended : (es cs : List ℕ) → Result State Refusal → Type 0
Ended es cs (Err r) = Unit {0}
Ended es cs (Ok s) = StoreOk es cs s.store

-- ---- what a step does once its rules hold

-- entry e pushed on what is left of the stack, and named where the step has a mark
abbrev pub pushed : Replay → (left built kids : List ℕ) (e mark : ℕ) → Replay
pushed r left built kids e mark =
    record { built = built; kids = kids; stack = left ++ e ∷ []; named = pick (eqb mark 0) r.named (r.named ++ e ∷ []) }

unfoldable pub after_place : Replay → (left : List ℕ) (mark : ℕ) → Place → Turn
after_place r left mark no_room = refused 15
after_place r left mark (placed built kids e) = going (pushed r left built kids e mark)

-- a normal step of statement k
unfoldable pub normal_turn : List ℕ → (roomBuilt roomKids : ℕ) → Replay → (k mark : ℕ) → Turn
normal_turn w roomBuilt roomKids r k mark =
    let rest : ℕ = length r.stack - hyp_count w k in
    pick (ltb (length r.stack) (hyp_count w k)) (refused 18)
    (after_place r (take rest r.stack) mark (place r.built r.kids roomBuilt roomKids k (drop rest r.stack)))

-- a reference: the entry that stands at its mark is pushed
pub record Referred (ref mark half : ℕ) (work work' : List ℕ) (before s : State) : Type 0 where
  pub store_is : s.store ≡ before.store
  pub height_is : s.height ≡ before.height + 1
  pub push_is : Pushed half before.height before.marks (word work (half + (ref - 1))) mark work work' s.marks
