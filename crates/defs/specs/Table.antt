-- The table of document 01: `w` is the slice of words, `b` the slice of label bytes.
-- These are names for its parts. They say nothing of a table that the tests of module Check refuse.
-- Each record is read from its section, so that code which is lent a section, and the entries that a replay writes, are seen the same way.
-- Names for single words are abbreviations, so that code which reads the word is proved with no help; lists are not.
use Rattle.std.specs.Prelude.{ℕ, ◌+◌, ◌*◌, List, get_or}
use Rattle.laws.specs.Tools.{part}

-- word i (a place past the end reads 0)
abbrev pub word : List ℕ → ℕ → ℕ
word w i = get_or w i 0

-- the greatest number that a word holds
abbrev pub max_word : ℕ
max_word = 4294967295

-- ---- the header, ten words: four counts, four offsets, the theorem, the QED entry

abbrev pub header_size : ℕ
header_size = 10

abbrev pub statements : List ℕ → ℕ
statements w = word w 0

abbrev pub references : List ℕ → ℕ
references w = word w 1

abbrev pub entries : List ℕ → ℕ
entries w = word w 2

abbrev pub child_refs : List ℕ → ℕ
child_refs w = word w 3

abbrev pub theorem : List ℕ → ℕ
theorem w = word w 8

abbrev pub qed : List ℕ → ℕ
qed w = word w 9

-- the limits: s at most 4,096, h at most 65,535, n at most 8,192, c at most 65,535
abbrev pub max_statements : ℕ
max_statements = 4096

abbrev pub max_references : ℕ
max_references = 65535

abbrev pub max_entries : ℕ
max_entries = 8192

abbrev pub max_child_refs : ℕ
max_child_refs = 65535

-- label length 1 to 255
abbrev pub max_label_length : ℕ
max_label_length = 255

-- how many words a statement has, and an entry
abbrev pub stmt_size : ℕ
stmt_size = 5

abbrev pub entry_size : ℕ
entry_size = 3

-- ---- where the sections must start: 10, 10+5s, 10+5s+h, 10+5s+h+3n; the whole is 10+5s+h+3n+c words long

abbrev pub hyps_from : List ℕ → ℕ
hyps_from w = header_size + stmt_size * statements w

abbrev pub entries_from : List ℕ → ℕ
entries_from w = hyps_from w + references w

abbrev pub children_from : List ℕ → ℕ
children_from w = entries_from w + entry_size * entries w

abbrev pub whole_length : List ℕ → ℕ
whole_length w = children_from w + child_refs w

-- ---- the four sections

unfoldable pub statement_words : List ℕ → List ℕ
statement_words w = part header_size (stmt_size * statements w) w

unfoldable pub hyp_words : List ℕ → List ℕ
hyp_words w = part (hyps_from w) (references w) w

unfoldable pub entry_words : List ℕ → List ℕ
entry_words w = part (entries_from w) (entry_size * entries w) w

unfoldable pub child_words : List ℕ → List ℕ
child_words w = part (children_from w) (child_refs w) w

-- ---- statement k of a statement section, five words: kind, label start, label length, hypothesis start, hypothesis count

abbrev pub kind_in : List ℕ → ℕ → ℕ
kind_in ss k = word ss (stmt_size * k)

abbrev pub label_start_in : List ℕ → ℕ → ℕ
label_start_in ss k = word ss (stmt_size * k + 1)

abbrev pub label_length_in : List ℕ → ℕ → ℕ
label_length_in ss k = word ss (stmt_size * k + 2)

abbrev pub hyp_start_in : List ℕ → ℕ → ℕ
hyp_start_in ss k = word ss (stmt_size * k + 3)

abbrev pub hyp_count_in : List ℕ → ℕ → ℕ
hyp_count_in ss k = word ss (stmt_size * k + 4)

-- its label in the label bytes, and its list of hypotheses in a hypothesis section
unfoldable pub label_in : (ss b : List ℕ) → ℕ → List ℕ
label_in ss b k = part (label_start_in ss k) (label_length_in ss k) b

unfoldable pub hyps_in : (ss hs : List ℕ) → ℕ → List ℕ
hyps_in ss hs k = part (hyp_start_in ss k) (hyp_count_in ss k) hs

-- ---- entry e of an entry section, three words: statement, child start, child count; its children in a child section

abbrev pub entry_stmt_in : List ℕ → ℕ → ℕ
entry_stmt_in es e = word es (entry_size * e)

abbrev pub child_start_in : List ℕ → ℕ → ℕ
child_start_in es e = word es (entry_size * e + 1)

abbrev pub child_count_in : List ℕ → ℕ → ℕ
child_count_in es e = word es (entry_size * e + 2)

unfoldable pub children_in : (es cs : List ℕ) → ℕ → List ℕ
children_in es cs e = part (child_start_in es e) (child_count_in es e) cs

-- ---- the same of a table

abbrev pub kind : List ℕ → ℕ → ℕ
kind w = kind_in (statement_words w)

abbrev pub label_start : List ℕ → ℕ → ℕ
label_start w = label_start_in (statement_words w)

abbrev pub label_length : List ℕ → ℕ → ℕ
label_length w = label_length_in (statement_words w)

abbrev pub hyp_start : List ℕ → ℕ → ℕ
hyp_start w = hyp_start_in (statement_words w)

abbrev pub hyp_count : List ℕ → ℕ → ℕ
hyp_count w = hyp_count_in (statement_words w)

abbrev pub label : List ℕ → List ℕ → ℕ → List ℕ
label w = label_in (statement_words w)

abbrev pub hyps : List ℕ → ℕ → List ℕ
hyps w = hyps_in (statement_words w) (hyp_words w)

-- hypothesis reference i of the whole section
abbrev pub hyp_ref : List ℕ → ℕ → ℕ
hyp_ref w = word (hyp_words w)

-- the theorem's list
unfoldable pub mandatory : List ℕ → List ℕ
mandatory w = hyps w (theorem w)

abbrev pub entry_stmt : List ℕ → ℕ → ℕ
entry_stmt w = entry_stmt_in (entry_words w)

abbrev pub child_start : List ℕ → ℕ → ℕ
child_start w = child_start_in (entry_words w)

abbrev pub child_count : List ℕ → ℕ → ℕ
child_count w = child_count_in (entry_words w)

abbrev pub children : List ℕ → ℕ → List ℕ
children w = children_in (entry_words w) (child_words w)
