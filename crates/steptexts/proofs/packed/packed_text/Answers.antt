-- `packed_text` meets its contract: at turn i the words of the first i steps are laid. Every step is one of the table's,
-- so what its word asks for is there.
use native.Mathlib.Omega.{arith}
use Rattle.table.specs.Headers.{header_ok}
use Rattle.steptexts.proofs.Lent.{Lent}
use Rattle.steptexts.proofs.PackedLaws.{word_ready, word_in, near, turn, printed, start}
use Rattle.steptexts.proofs.packed.packed_text.Goals.{At-loop-i}
use Rattle.steptexts.proofs.packed.packed_text.Goals as goal

-- the sections are the table's
lent : (p : At-loop-i) → Lent p.args.words.now p.statement_section-statements.result.now p.hyp_section-hyps.result.now p.read_header-header.result.theorem.0
lent p =
    record {
      statements_are = p.statement_section-statements.ensures;
      hyps_are = p.hyp_section-hyps.ensures;
      theorem_is = p.read_header-header.ensures.theorem_is;
    }

pub read_header-header-requires : goal.read_header-header-requires
read_header-header-requires c = (header_ok _ _ c.requires.packed_ready.ok).ten

pub statement_section-statements-requires : goal.statement_section-statements-requires
statement_section-statements-requires c = header_ok _ _ c.requires.packed_ready.ok

pub hyp_section-hyps-requires : goal.hyp_section-hyps-requires
hyp_section-hyps-requires c = header_ok _ _ c.requires.packed_ready.ok

pub loop-i-init : goal.loop-i-init
loop-i-init c = start c.requires.packed_ready _ _

pub packed_word-word-requires : goal.packed_word-word-requires
packed_word-word-requires c = word_ready c.requires.packed_ready (lent (goal.at.packed_word-word-requires c).At-loop-i) _ (omega arith)

pub put_step_word-line-requires : goal.put_step_word-line-requires
put_step_word-line-requires c =
    let p : At-loop-i = (goal.at.put_step_word-line-requires c).At-loop-i in
    let r = c.requires.packed_ready in record {
      layout_value = c.requires.layout_value;
      word_inside = word_in r (lent p) _ (omega arith) c.packed_word-word.ensures;
      most_laid_bound = near r (lent p) _ c.loop-i.invariant (omega arith) c.begin-line.ensures.1;
    }

pub loop-i-preserved : goal.loop-i-preserved
loop-i-preserved c =
    let p : At-loop-i = (goal.at.loop-i-preserved c).At-loop-i in
    turn c.requires.packed_ready (lent p) _ c.loop-i.invariant c.packed_word-word.ensures c.put_step_word-line.ensures

pub close-last-requires : goal.close-last-requires
close-last-requires c =
    let p : At-loop-i = (goal.at.close-last-requires c).At-loop-i in
    record { layout_value = c.requires.layout_value; near = omega (arith, near c.requires.packed_ready (lent p) _ c.loop-i.invariant (omega arith) c.begin-line.ensures.1) }

pub returns : goal.returns
returns c =
    let p : At-loop-i = (goal.at.returns c).At-loop-i in
    printed c.requires.packed_ready (lent p) _ c.loop-i.invariant (omega arith) (omega arith) c.begin-line.ensures.0 c.close-last.ensures
