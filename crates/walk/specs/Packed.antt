-- The packed walk in the working slice: how many marks are given; one word an entry (its counted parents, or its mark: Marks); then the
-- steps, five words each.
use Rattle.std.specs.Prelude.{◌≡◌, Bool, List, [], ℕ, suc, ◌+◌, ◌*◌, ◌-◌, ◌≤◌, ◌<◌, length, set, replicate, eqb, ltb}
use Rattle.laws.specs.Tools.{pick, part}
use Rattle.defs.specs.Table.{word, max_word, max_child_refs, child_count_in, entry_words, child_words}
use Rattle.defs.specs.Graph.{Graph, graph_in}
use Rattle.defs.specs.Counts.{parents}
use Rattle.defs.specs.Steps.{step_size, flat, Walk, mark_of, visit, packed_steps}
use Rattle.counts.specs.Parents.{Within, Filled}
use Rattle.lengths.proofs.Bound.{after_children}
use Rattle.walk.specs.Entries.{size, Entries}
use Rattle.walk.specs.Marks.{marked}
use Rattle.walk.specs.Steps.{step, with_step}

-- ---- the words, with where the next step goes

pub record Held : Type 0 where
  pub words : List ℕ
  pub end : ℕ

abbrev pub held : List ℕ → ℕ → Held
held w end = record { words = w; end = end }

-- the place of an entry's word, and where the steps of n entries begin
abbrev pub entry_at : ℕ → ℕ
entry_at e = e + 1

abbrev pub steps_from : ℕ → ℕ
steps_from n = n + 1

-- the one step of an entry that lists no children first: a back reference if it has a mark, else its own
unfoldable pub single : (e statement parent index : ℕ) → Held → Held
single e statement parent index h =
    let mark : ℕ = word h.words (entry_at e) - marked in
    held (with_step h.words h.end (step mark 0 (pick (eqb mark 0) statement 0) parent index)) (h.end + step_size)

-- the step of entry e itself: with the next mark, where it gets one
unfoldable pub finishes : (gets : Bool) (e statement parent index : ℕ) → Held → Held
finishes gets e statement parent index h =
    let next : ℕ = word h.words 0 + 1 in
    pick gets
    (held (with_step (set (set h.words 0 next) (entry_at e) (marked + next)) h.end (step 0 next statement parent index)) (h.end + step_size))
    (held (with_step h.words h.end (step 0 0 statement parent index)) (h.end + step_size))

-- what either asks: the entry's word, room for a step and a mark more
pub record Room (e : ℕ) (h : Held) : Type 0 where
  pub entry_in : entry_at e < length h.words
  pub step_in : h.end + step_size ≤ length h.words
  pub mark_fits : marked + (word h.words 0 + 1) ≤ max_word

-- ---- the walk of document 01 that they hold

-- the walk t of n entries
pub record Stands (g : Graph) (counts : List ℕ) (n : ℕ) (h : Held) (t : Walk) : Type 0 where
  pub shared : (e : ℕ) → e < n → ltb 1 (word counts e) ≡ ltb 1 (word h.words (entry_at e))
  pub apart : (e : ℕ) → e < n → max_child_refs < word h.words (entry_at e) → marked < word h.words (entry_at e)
  pub places : length t.marks ≡ n
  pub marks : (e : ℕ) → e < n → mark_of t e ≡ word h.words (entry_at e) - marked
  pub given_is : word h.words 0 ≡ t.given
  pub end_is : h.end ≡ steps_from n + step_size * length t.out
  pub steps : part (steps_from n) (step_size * length t.out) h.words ≡ flat t.out

-- a walk that has room: at most one step more than there are child references, and a mark for each entry
pub record Fits (es cs : List ℕ) (t : Walk) : Type 0 where
  pub few_steps : length t.out ≤ length cs + 1
  pub few_marks : t.given ≤ size es

-- the visit of entry e from t
abbrev pub visit_from : (es cs counts : List ℕ) (explicit : Bool) (e parent index : ℕ) (t : Walk) → Walk
visit_from es cs counts explicit e parent index t = visit (graph_in es cs) counts explicit (suc e) e parent index t

-- the words hold a walk from which entry e can be visited, with the parent and index words that its step is to carry
pub record Visitable (es cs : List ℕ) (explicit : Bool) (e parent index : ℕ) (h : Held) : Type 0 where
  pub entries : Entries es cs
  pub inside : e < size es
  pub long : steps_from (size es) + step_size * (length cs + 1) ≤ length h.words
  pub counts : List ℕ
  pub from : Walk
  pub stands : Stands (graph_in es cs) counts (size es) h from
  pub fits : Fits es cs (visit_from es cs counts explicit e parent index from)

-- and it has no mark yet, so that its children come first
pub record Ready (es cs : List ℕ) (explicit : Bool) (e : ℕ) (h : Held) : Type 0 where
  pub parent : ℕ
  pub index : ℕ
  pub visitable : Visitable es cs explicit e parent index h
  pub new : word h.words (entry_at e) ≤ marked

-- whatever walk the words held, they hold it after the first k children of entry e
unfoldable pub Listed : (es cs : List ℕ) (explicit : Bool) (e k : ℕ) (h h' : Held) → Type 0
Listed es cs explicit e k h h' =
    (counts : List ℕ) (from : Walk) → Stands (graph_in es cs) counts (size es) h from
    → Stands (graph_in es cs) counts (size es) h' (after_children (graph_in es cs) counts explicit e e k from)

-- after all children of entry e of the table w
abbrev pub ListedAll : (w : List ℕ) (explicit : Bool) (e : ℕ) (h h' : Held) → Type 0
ListedAll w explicit e h h' = Listed (entry_words w) (child_words w) explicit e (child_count_in (entry_words w) e) h h'

-- after the visit of entry e
unfoldable pub Visited : (es cs : List ℕ) (explicit : Bool) (e parent index : ℕ) (h h' : Held) → Type 0
Visited es cs explicit e parent index h h' =
    (counts : List ℕ) (from : Walk) → Stands (graph_in es cs) counts (size es) h from
    → Stands (graph_in es cs) counts (size es) h' (visit_from es cs counts explicit e parent index from)

-- ---- the whole walk

-- no marks and no steps
abbrev pub walk_start : ℕ → Walk
walk_start n = record { marks = replicate n 0; given = 0; out = [] }

-- the sections of a table whose child lists fill their section
pub record Packing (es cs : List ℕ) : Type 0 where
  pub entries : Entries es cs
  pub filled : Filled es cs (size es)

-- the words before the walk
pub record Begun (es cs : List ℕ) (h : Held) : Type 0 where
  pub stands : Stands (graph_in es cs) (parents (graph_in es cs) (size es)) (size es) h (walk_start (size es))
  pub unmarked : (e : ℕ) → e < size es → word h.words (entry_at e) ≤ marked

-- references to the entries whose words end at start
pub record Countable (cs : List ℕ) (start room : ℕ) : Type 0 where
  pub some : 1 ≤ start
  pub fits : start ≤ room
  pub within : Within cs (start - 1)

-- the words are right before the walk of any entries that have these children
unfoldable pub Counted : (cs : List ℕ) (start : ℕ) (w : List ℕ) → Type 0
Counted cs start w = (es : List ℕ) → Packing es cs → start ≡ steps_from (size es) → Begun es cs (held w start)

-- room for the packed list in so many words
pub record Packable (es cs : List ℕ) (explicit : Bool) (q room : ℕ) : Type 0 where
  pub packing : Packing es cs
  pub inside : q < size es
  pub long : steps_from (size es) + step_size * (length cs + 1) ≤ room
  pub fits : Fits es cs (visit (graph_in es cs) (parents (graph_in es cs) (size es)) explicit (suc q) q 0 0 (walk_start (size es)))

-- the words hold the packed list from QED
pub record Packed (es cs : List ℕ) (explicit : Bool) (q : ℕ) (h : Held) : Type 0 where
  pub end_is : h.end ≡ steps_from (size es) + length (flat (packed_steps (graph_in es cs) (size es) q explicit))
  pub steps : part (steps_from (size es)) (length (flat (packed_steps (graph_in es cs) (size es) q explicit))) h.words ≡ flat (packed_steps (graph_in es cs) (size es) q explicit)
