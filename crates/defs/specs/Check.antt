-- Refusals 1 to 7 of document 01, each a test written from its line of the refusal table, and which number is given.
use Rattle.std.specs.Prelude.{ℕ, zero, suc, ◌+◌, Bool, not, ◌&&◌, ◌||◌, List, [], ◌∷◌, length, eqb, leb, ltb}
use Rattle.laws.specs.Tools.{pick, all_of, all_below, some_below, sum_below, all, same, repeats}
use Rattle.defs.specs.Table.{word, header_size, statements, references, entries, child_refs, max_statements, max_references, max_entries, max_child_refs, max_label_length, theorem, qed, hyps_from, entries_from, children_from, whole_length, statement_words, hyp_words, entry_words, child_words, kind_in, label_start_in, label_length_in, hyp_start_in, hyp_count_in, label_in, hyps_in, entry_stmt_in, child_start_in, child_count_in, children_in, kind}

-- a refusal number with its test; true means: refuse
pub record Test : Type 0 where
  pub number : ℕ
  pub fails : Bool

infix 70 ◌when◌
abbrev pub ◌when◌ : ℕ → Bool → Test
k when bad = record { number = k; fails = bad }

-- the number of the first test that refuses, 0 if none does: `the lowest place in that order is given`
unfoldable pub first_of : List Test → ℕ
first_of [] = 0
first_of (t ∷ ts) = pick t.fails t.number (first_of ts)

-- a first answer, or the next one where the first is 0: tests that follow other tests
unfoldable pub or_else : ℕ → ℕ → ℕ
or_else zero next = next
or_else (suc k) next = suc k

-- the header's rules: at least 10 words, counts within their limits, the offsets and the length as they must be
unfoldable pub header_rules : List ℕ → List Bool
header_rules w =
    leb header_size (length w)
    ∷ leb (statements w) max_statements
    ∷ leb (references w) max_references
    ∷ leb (entries w) max_entries
    ∷ leb (child_refs w) max_child_refs
    ∷ eqb (word w 4) header_size
    ∷ eqb (word w 5) (hyps_from w)
    ∷ eqb (word w 6) (entries_from w)
    ∷ eqb (word w 7) (children_from w)
    ∷ eqb (length w) (whole_length w)
    ∷ []

-- 1: fewer than 10 words, a count over its limit, a wrong offset or length
unfoldable pub bad1 : List ℕ → Bool
bad1 w = not (all_of (header_rules w))

-- the line of statement k: kind 0, 1 or 2; label start a running sum, label length 1 to 255; hypothesis start a running sum,
-- hypothesis count 0 for kinds 1 and 2; neither label nor hypotheses past their place's end (h references, so many label bytes)
unfoldable pub statement_rules : (ss : List ℕ) (h bytes k : ℕ) → List Bool
statement_rules ss h bytes k =
    leb (kind_in ss k) 2
    ∷ eqb (label_start_in ss k) (sum_below (label_length_in ss) k)
    ∷ leb 1 (label_length_in ss k)
    ∷ leb (label_length_in ss k) max_label_length
    ∷ eqb (hyp_start_in ss k) (sum_below (hyp_count_in ss) k)
    ∷ (eqb (kind_in ss k) 0 || eqb (hyp_count_in ss k) 0)
    ∷ leb (label_start_in ss k + label_length_in ss k) bytes
    ∷ leb (hyp_start_in ss k + hyp_count_in ss k) h
    ∷ []

-- all s statements keep their line; labels and hypotheses fill their places exactly
unfoldable pub statements_rules : (ss : List ℕ) (s h bytes : ℕ) → List Bool
statements_rules ss s h bytes =
    all_below (λ k. all_of (statement_rules ss h bytes k)) s
    ∷ eqb (sum_below (label_length_in ss) s) bytes
    ∷ eqb (sum_below (hyp_count_in ss) s) h
    ∷ []

-- 2: a statement record breaks its line, or labels or hypotheses are not filled exactly
unfoldable pub bad2 : List ℕ → List ℕ → Bool
bad2 w b = not (all_of (statements_rules (statement_words w) (statements w) (references w) (length b)))

-- letter, digit, `.`, `-`, `_`
unfoldable pub label_byte : ℕ → Bool
label_byte x =
    (leb 65 x && leb x 90) || (leb 97 x && leb x 122) || (leb 48 x && leb x 57) || eqb x 46 || eqb x 45 || eqb x 95

-- the label of statement k has another byte
unfoldable pub label_wrong : (ss b : List ℕ) → ℕ → Bool
label_wrong ss b k = not (all label_byte (label_in ss b k))

-- statement k has the label of an earlier statement
unfoldable pub label_again : (ss b : List ℕ) → ℕ → Bool
label_again ss b k = some_below (λ j. same (label_in ss b j) (label_in ss b k)) k

-- 3: another label byte, or two equal labels
unfoldable pub bad3 : List ℕ → List ℕ → Bool
bad3 w b = some_below (label_wrong (statement_words w) b) (statements w) || some_below (label_again (statement_words w) b) (statements w)

-- hypothesis reference i names one of s statements, of kind 1 or 2
unfoldable pub reference_ok : (ss hs : List ℕ) (s i : ℕ) → Bool
reference_ok ss hs s i = ltb (word hs i) s && not (eqb (kind_in ss (word hs i)) 0)

-- the list of statement k has a hypothesis twice
unfoldable pub hyps_repeat : (ss hs : List ℕ) → ℕ → Bool
hyps_repeat ss hs k = repeats (hyps_in ss hs k)

-- 4: a hypothesis reference out of range, of kind 0, or repeated in its list
unfoldable pub bad4 : List ℕ → Bool
bad4 w =
    not (all_below (reference_ok (statement_words w) (hyp_words w) (statements w)) (references w))
    || some_below (hyps_repeat (statement_words w) (hyp_words w)) (statements w)

-- the line of entry e: one of s statements; child start a running sum; as many children as the statement has hypotheses;
-- children not past the end of their place, c references
unfoldable pub entry_rules : (ss es : List ℕ) (s c e : ℕ) → List Bool
entry_rules ss es s c e =
    ltb (entry_stmt_in es e) s
    ∷ eqb (child_start_in es e) (sum_below (child_count_in es) e)
    ∷ eqb (child_count_in es e) (hyp_count_in ss (entry_stmt_in es e))
    ∷ leb (child_start_in es e + child_count_in es e) c
    ∷ []

-- all n entries keep their line; children fill c exactly
unfoldable pub entries_rules : (ss es : List ℕ) (s n c : ℕ) → List Bool
entries_rules ss es s n c = all_below (λ e. all_of (entry_rules ss es s c e)) n ∷ eqb (sum_below (child_count_in es) n) c ∷ []

-- 5: an entry record breaks its line, or c is not filled exactly
unfoldable pub bad5 : List ℕ → Bool
bad5 w = not (all_of (entries_rules (statement_words w) (entry_words w) (statements w) (entries w) (child_refs w)))

-- every child of entry e is below it
unfoldable pub children_below : (es cs : List ℕ) → ℕ → Bool
children_below es cs e = all (λ c. ltb c e) (children_in es cs e)

-- 6: a child not below its parent
unfoldable pub bad6 : List ℕ → Bool
bad6 w = not (all_below (children_below (entry_words w) (child_words w)) (entries w))

-- the theorem is a statement, of kind 0; QED is an entry
unfoldable pub goal_rules : List ℕ → List Bool
goal_rules w = ltb (theorem w) (statements w) ∷ eqb (kind w (theorem w)) 0 ∷ ltb (qed w) (entries w) ∷ []

-- 7: theorem not a statement of kind 0, or QED not below n
unfoldable pub bad7 : List ℕ → Bool
bad7 w = not (all_of (goal_rules w))

-- the number with which a table is refused, 0 for a good one: the tests 1 to 7, in order
unfoldable pub table_refusal : List ℕ → List ℕ → ℕ
table_refusal w b =
    first_of (1 when bad1 w
    ∷ 2 when bad2 w b
    ∷ 3 when bad3 w b
    ∷ 4 when bad4 w
    ∷ 5 when bad5 w
    ∷ 6 when bad6 w
    ∷ 7 when bad7 w
    ∷ [])
