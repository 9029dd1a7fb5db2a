-- `normal_text` meets its contract: at each turn the steps already laid and those left in the stack are all of the walk's.
-- Each turn takes the next step and lays its word; where none is left, the last word ends the text.
use mathlib.Core.Path.{refl, ◌∙◌}
use native.Mathlib.Omega.{arith}
use lib.ListN.{length}
use Rattle.table.specs.Headers.{header_ok}
use Rattle.walk.specs.Normal.{left, Stepped, came_step, came_end}
use Rattle.steptexts.proofs.Lent.{Entered}
use Rattle.steptexts.proofs.NormalLaws.{start, may_walk, Here, near, word_ready, word_in, turn, fewer, printed}
use Rattle.steptexts.proofs.normal.normal_text.Goals.{After-child_section-children, At-loop-taken, In-Some}
use Rattle.steptexts.proofs.normal.normal_text.Goals as goal

-- ---- where the sections are cut, and the head of the loop
entered : (s : After-child_section-children) →
    Entered s.args.words.now s.entry_section-entries.result.now s.child_section-children.result.now s.read_header-header.result.qed.0
entered s =
    record {
      entries_are = s.entry_section-entries.ensures;
      children_are = s.child_section-children.ensures;
      qed_is = s.read_header-header.ensures.qed_is;
    }

-- what stands when the loop begins
here : (p : At-loop-taken) → Here p.args.words.now p.args.labels.now (length p.args.stack.now) p.statement_section-statements.result.now
    p.hyp_section-hyps.result.now p.read_header-header.result.theorem.0 p.entry_section-entries.result.now p.child_section-children.result.now
    p.read_header-header.result.qed.0 p.begin.new.stack
here p =
    record {
      ready = p.requires.normal_ready;
      lent = record {
        statements_are = p.statement_section-statements.ensures;
        hyps_are = p.hyp_section-hyps.ensures;
        theorem_is = p.read_header-header.ensures.theorem_is;
      };
      entered = record {
        entries_are = p.entry_section-entries.ensures;
        children_are = p.child_section-children.ensures;
        qed_is = p.read_header-header.ensures.qed_is;
      };
      begins = p.begin.ensures;
    }

-- ---- a turn
stepped : (c : In-Some) → Stepped c.entry_section-entries.result.now c.child_section-children.result.now c.args.explicit
    (left c.entry_section-entries.result.now c.child_section-children.result.now c.args.explicit c.loop-taken.stack c.loop-taken.depth)
    c.next.new.stack c.in-Some.taken.statement.0 c.in-Some.taken.hyp c.in-Some.taken.depth
stepped c = came_step _ _ _ _ _ _ _ c.next.ensures c.in-Some.is

-- ---- the goals
pub read_header-header-requires : goal.read_header-header-requires
read_header-header-requires c = (header_ok _ _ c.requires.normal_ready.ok).ten

pub statement_section-statements-requires : goal.statement_section-statements-requires
statement_section-statements-requires c = header_ok _ _ c.requires.normal_ready.ok

pub hyp_section-hyps-requires : goal.hyp_section-hyps-requires
hyp_section-hyps-requires c = header_ok _ _ c.requires.normal_ready.ok

pub entry_section-entries-requires : goal.entry_section-entries-requires
entry_section-entries-requires c = header_ok _ _ c.requires.normal_ready.ok

pub child_section-children-requires : goal.child_section-children-requires
child_section-children-requires c = header_ok _ _ c.requires.normal_ready.ok

pub begin-requires : goal.begin-requires
begin-requires c =
    let walks = may_walk c.requires.normal_ready (entered (goal.at.begin-requires c).After-child_section-children) in
    record { entries = walks.0; root_bound = walks.1 }

pub loop-taken-init : goal.loop-taken-init
loop-taken-init c = (start _ _ _ _ c.begin.ensures.stacked, refl)

pub next-requires : goal.next-requires
next-requires c = record { entries = (may_walk c.requires.normal_ready (entered (goal.at.next-requires c).After-child_section-children)).0; stacked = c.loop-taken.invariant.0.stacked }

pub close-last-requires : goal.close-last-requires
close-last-requires c = record {
  layout_value = c.requires.layout_value;
  near = omega (
    arith,
    near (here (goal.at.close-last-requires c).At-loop-taken) c.loop-taken.invariant.0 c.begin-line.ensures.1,
  );
}

pub returns : goal.returns
returns c =
    printed (here (goal.at.returns c).At-loop-taken) c.loop-taken.invariant.0 (came_end _ _ _ _ _ _ c.next.ensures c.in_default.is) (omega arith)
    c.begin-line.ensures.0 c.close-last.ensures

pub plain_word-word-requires : goal.plain_word-word-requires
plain_word-word-requires c =
    let ready =
    word_ready (here (goal.at.plain_word-word-requires c).At-loop-taken) c.loop-taken.invariant.0
    (stepped (goal.at.plain_word-word-requires c).In-Some) in
    record { statement_in = ready.0; hyp_ready = ready.1 }

pub put_step_word-line-requires : goal.put_step_word-line-requires
put_step_word-line-requires c =
    let h = here (goal.at.put_step_word-line-requires c).At-loop-taken in
    record {
      layout_value = c.requires.layout_value;
      word_inside = word_in h c.loop-taken.invariant.0 (stepped (goal.at.put_step_word-line-requires c).In-Some) c.plain_word-word.ensures;
      most_laid_bound = near h c.loop-taken.invariant.0 c.begin-line.ensures.1;
    }

pub loop-taken-smaller : goal.loop-taken-smaller
loop-taken-smaller c = fewer (stepped (goal.at.loop-taken-smaller c).In-Some)

pub loop-taken-preserved : goal.loop-taken-preserved
loop-taken-preserved c = (
  turn (here (goal.at.loop-taken-preserved c).At-loop-taken) c.loop-taken.invariant.0 (stepped (goal.at.loop-taken-preserved c).In-Some)
      c.plain_word-word.ensures c.put_step_word-line.ensures,
  c.next.auto.stack ∙ c.loop-taken.invariant.1,
)
