-- `header_wrong` is test 1: each early return lacks one fact of `HeaderOk`, and the last test has all the others.
-- The sums cannot wrap, since the counts were compared with their limits first. Assumes nothing.
use Prim.Native.Nat.{◌+◌, ◌*◌}
use mathlib.Core.Bool.{not}
use mathlib.Core.Path.{sym, ap}
use native.Mathlib.Omega.{arith}
use lib.ListN.{length}
use Rattle.defs.specs.Check.{bad1}
use Rattle.defs.specs.Table.{word, header_size, stmt_size, entry_size}
use Rattle.laws.specs.Decides.{last_differs}
use Rattle.table_check.proofs.HeaderLaws.{header_decides}
use Rattle.table_check.proofs.header.header_wrong.Goals as goal

pub returns-then-words-lt-HEADER_WORDS : goal.returns-then-words-lt-HEADER_WORDS
unfolding bad1
returns-then-words-lt-HEADER_WORDS c = sym (ap not ((header_decides _).no (λ ok. omega arith)))

pub returns-then-words-gt-MAX_STATEMENTS : goal.returns-then-words-gt-MAX_STATEMENTS
unfolding bad1
returns-then-words-gt-MAX_STATEMENTS c = sym (ap not ((header_decides _).no (λ ok. omega arith)))

pub returns-then-words-gt-MAX_REFERENCES : goal.returns-then-words-gt-MAX_REFERENCES
unfolding bad1
returns-then-words-gt-MAX_REFERENCES c = sym (ap not ((header_decides _).no (λ ok. omega arith)))

pub returns-then-words-gt-MAX_ENTRIES : goal.returns-then-words-gt-MAX_ENTRIES
unfolding bad1
returns-then-words-gt-MAX_ENTRIES c = sym (ap not ((header_decides _).no (λ ok. omega arith)))

pub returns-then-words-gt-MAX_CHILD_REFS : goal.returns-then-words-gt-MAX_CHILD_REFS
unfolding bad1
returns-then-words-gt-MAX_CHILD_REFS c = sym (ap not ((header_decides _).no (λ ok. omega arith)))

pub returns-then-words-ne-HEADER_WORDS : goal.returns-then-words-ne-HEADER_WORDS
unfolding bad1
returns-then-words-ne-HEADER_WORDS c = sym (ap not ((header_decides _).no (λ ok. omega arith)))

pub returns-then-words-hyps_from : goal.returns-then-words-hyps_from
unfolding bad1
returns-then-words-hyps_from c = sym (ap not ((header_decides _).no (λ ok. omega arith)))

pub returns-then-words-entries_from : goal.returns-then-words-entries_from
unfolding bad1
returns-then-words-entries_from c = sym (ap not ((header_decides _).no (λ ok. omega arith)))

pub returns-then-words-children_from : goal.returns-then-words-children_from
unfolding bad1
returns-then-words-children_from c = sym (ap not ((header_decides _).no (λ ok. omega arith)))

pub returns : goal.returns
unfolding bad1
returns c =
    let w = c.args.words.now in
    let whole = header_size + stmt_size * word w 0 + word w 1 + entry_size * word w 2 + word w 3 in
    last_differs (header_decides w) (length w) whole
    (λ e. record {
      ten = omega arith;
      s_most = omega arith;
      h_most = omega arith;
      n_most = omega arith;
      c_most = omega arith;
      at4 = omega arith;
      at5 = omega arith;
      at6 = omega arith;
      at7 = omega arith;
      whole = omega arith;
    })
    (λ ok. omega arith)
