-- `theorem_list` meets its contract. The theorem's record says where its list starts and how long it is,
-- and a table that is right has that part inside its hypothesis section.
use mathlib.Core.Path.{◌≡◌, ap, ◌∙◌}
use Prim.Native.Nat.{ℕ, ◌+◌}
use Rattle.defs.specs.Table.{hyp_start_in, hyp_count_in, statement_words, theorem}
use Rattle.theorem.proofs.Goals.{list_is}
use Rattle.theorem.proofs.hypotheses.theorem_list.Goals.{After-hyp_count}
use Rattle.theorem.proofs.hypotheses.theorem_list.Goals as goal

-- where the list starts, and how long it is
start_is : (c : After-hyp_count) → c.hyp_start-start.result ≡ hyp_start_in (statement_words c.args.words.now) (theorem c.args.words.now)
start_is c = c.hyp_start-start.ensures ∙ rw (c.statement_section-statements.ensures, c.read_header.ensures.theorem_is)

count_is : (c : After-hyp_count) → c.hyp_count.result ≡ hyp_count_in (statement_words c.args.words.now) (theorem c.args.words.now)
count_is c = c.hyp_count.ensures ∙ rw (c.statement_section-statements.ensures, c.read_header.ensures.theorem_is)

pub returns : goal.returns
returns c =
    rw c.hyp_section-hyps.ensures
    (list_is _ c.requires _ _ (start_is (goal.at.returns c).After-hyp_count) (ap (λ (n : ℕ). c.hyp_start-start.result + n) (count_is (goal.at.returns c).After-hyp_count)))
