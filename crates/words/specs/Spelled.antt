-- A word by its parts: where its labels lie, the numbers of its names, and the bytes that they spell.
use Rattle.std.specs.Prelude.{◌≡◌, Option, Some, None, IfSome, Bool, List, [], ◌∷◌, ◌++◌, ℕ, ◌+◌, ◌-◌, ◌<◌, ◌≤◌, length, eqb}
use Rattle.laws.specs.Tools.{pick, part}
use Rattle.defs.specs.Bytes.{colon, equals_sign}
use Rattle.defs.specs.Table.{word, max_label_length, label_start_in, label_length_in, hyp_start_in}
use Rattle.defs.specs.Names.{digits}
use Rattle.table.specs.Records.{StatementIn}
use Rattle.names.specs.Decimals.{most_digits}
use Rattle.layout.specs.Laid.{most_before}
use Rattle.words.specs.declared.spans.Span.{Span}
use Rattle.words.specs.declared.word.Word.{Word}

-- ---- where labels lie

-- the label of statement k
abbrev pub span_of : List ℕ → ℕ → Span
span_of ss k = record { start = label_start_in ss k; length = label_length_in ss k }

-- it lies among the label bytes, and is no longer than a label
pub record Inside (labels : List ℕ) (s : Span) : Type 0 where
  pub inside : s.start + s.length ≤ length labels
  pub short : s.length ≤ max_label_length

-- ---- the hypothesis that a step stands for, by the parent and index words of an explicit list

-- in the list of its parent; at the root, the theorem
unfoldable pub hyp_statement : (ss hs : List ℕ) (theorem parent index : ℕ) → ℕ
hyp_statement ss hs theorem parent index = pick (eqb parent 0) theorem (word hs (hyp_start_in ss (parent - 1) + index))

-- its label, in an explicit list
unfoldable pub hyp_span : (ss hs : List ℕ) (theorem : ℕ) (explicit : Bool) (parent index : ℕ) → Option Span
hyp_span ss hs theorem explicit parent index = pick explicit (Some (span_of ss (hyp_statement ss hs theorem parent index))) None

-- the parent's record and its list stand in their sections, and so does the record of the hypothesis
pub record HypReady (ss hs : List ℕ) (theorem parent index : ℕ) : Type 0 where
  pub parent_in : ¬ (parent ≡ 0) → StatementIn ss (parent - 1)
  pub index_in : ¬ (parent ≡ 0) → hyp_start_in ss (parent - 1) + index < length hs
  pub hyp_in : StatementIn ss (hyp_statement ss hs theorem parent index)

-- ---- the word

-- of a step with these words, whose mark and reference have these numbers for names
abbrev pub word_of : (ss hs : List ℕ) (theorem : ℕ) (explicit : Bool) (mark reference : Option ℕ) (statement parent index : ℕ) → Word
word_of ss hs theorem explicit mark reference statement parent index =
    record { mark = mark; hyp = hyp_span ss hs theorem explicit parent index; label = span_of ss statement; reference = reference }

-- the mark's name and a colon; a number 0 names no mark
unfoldable pub mark_part : Option ℕ → List ℕ
mark_part None = []
mark_part (Some number) = pick (eqb number 0) [] (digits number ++ colon ∷ [])

-- the hypothesis' label and an equals sign; a label of no bytes is none
unfoldable pub hyp_part : List ℕ → Option Span → List ℕ
hyp_part labels None = []
hyp_part labels (Some hyp) = pick (eqb hyp.length 0) [] (part hyp.start hyp.length labels ++ equals_sign ∷ [])

-- the label, or the referred name; a number 0 refers to no mark
unfoldable pub last_part : List ℕ → Span → Option ℕ → List ℕ
last_part labels label None = part label.start label.length labels
last_part labels label (Some reference) = pick (eqb reference 0) (part label.start label.length labels) (digits reference)

-- all of it
unfoldable pub spelled : List ℕ → Word → List ℕ
spelled labels v = mark_part v.mark ++ hyp_part labels v.hyp ++ last_part labels v.label v.reference

-- ---- how long it is

abbrev pub WordShort : Word → Type 0
WordShort v = IfSome v.hyp (λ s. s.length ≤ max_label_length) × (v.label.length ≤ max_label_length)

pub record WordInside (labels : List ℕ) (v : Word) : Type 0 where
  pub hyp_in : IfSome v.hyp (Inside labels)
  pub label_is_in : Inside labels v.label

-- a name and a colon
abbrev pub most_mark : ℕ
most_mark = most_digits + 1

-- a name and a colon, a label and an equals sign, a label
abbrev pub most_word : ℕ
most_word = most_mark + (max_label_length + 1) + max_label_length

-- and what stands before it
abbrev pub most_laid : ℕ
most_laid = most_before + most_word

-- so long is a part, and a word, whatever the label bytes are in which it lies
pub record HypLong (hyp : Option Span) (r : ℕ) : Type 0 where
  pub most : r ≤ max_label_length + 1
  pub long : (labels : List ℕ) → IfSome hyp (Inside labels) → r ≡ length (hyp_part labels hyp)

pub record LastLong (label : Span) (reference : Option ℕ) (r : ℕ) : Type 0 where
  pub most : r ≤ max_label_length
  pub long : (labels : List ℕ) → Inside labels label → r ≡ length (last_part labels label reference)

pub record WordLong (v : Word) (r : ℕ) : Type 0 where
  pub most : r ≤ most_word
  pub long : (labels : List ℕ) → WordInside labels v → r ≡ length (spelled labels v)
