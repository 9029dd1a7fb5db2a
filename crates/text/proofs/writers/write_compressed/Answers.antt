-- `write_compressed` meets its contract: module Endings says the answer at each return.
-- All that is written from stands in the working slice (crate order); measuring is lent no bytes.
use Rattle.text.proofs.Endings.{no_room, fits, refused_first, compressed_late, over_both}
use Rattle.compressed.specs.declared.places.Places.{Places}
use Rattle.order.specs.declared.arranged.Arranged.{Arranged}
use Rattle.compressed.specs.OfTables.{text_ready, ends_style, fits_style}
use Rattle.compressed.specs.Texts.{TextReady}
use Rattle.order.specs.Arrangement.{Arrangement}
use Rattle.layout.proofs.Free.{none_lent}
use Rattle.layout.specs.Layouts.{layout_of}
use Rattle.defs.specs.Outcome.{compressed_tests}
use Rattle.defs.specs.Text.{text_of}
use Rattle.defs.specs.Table.{statement_words}
use Rattle.defs.specs.Laws.{good}
use Rattle.defs.specs.Checked.{header}
use Rattle.defs.specs.Check.{first_of}
use lib.ListN.{length}
use native.Mathlib.Omega.{arith}
use mathlib.Core.List.{◌++◌}
use mathlib.Core.Path.{◌≡◌, refl, ap}
use Rattle.text.proofs.writers.write_compressed.Goals.{After-compressed_text-length, In_ok-arranged}
use Rattle.std.specs.Prelude.{Err}
use Rattle.std.proofs.Common.{rules}
use Rattle.answers.specs.Refused.{refusal_some}
use Rattle.text.proofs.writers.write_compressed.Goals as goal

-- no test up to 12 refused, so all stands in the working slice, where the writer's places say
fine : (c : In_ok-arranged) → 0 ≡ first_of (compressed_tests c.args.words.now (layout_of c.args.layout))
fine c = c.in_ok-arranged.ensures.number_is

arranged : (c : In_ok-arranged) → Arrangement c.args.words.now (layout_of c.args.layout) c.in_ok-arranged.arranged c.arrange.new.work
arranged c = c.in_ok-arranged.ensures.done

abbrev places : Arranged → Places
places a =
    record { list = a.labels; listed = a.listed; steps = a.start; many = a.steps; numbers = a.numbers; both = a.both }

ready : (c : In_ok-arranged) → TextReady (statement_words c.args.words.now) c.args.labels.now (places c.in_ok-arranged.arranged) c.arrange.new.work
ready c =
    let h = header _ (good _ _ c.requires.writable.ok).ok1 in
    text_ready _ _ c.requires.writable.ok (places c.in_ok-arranged.arranged) _ _ (arranged c).list (arranged c).labels_in (arranged c).labels_below
    (omega (arith, (arranged c).few_listed, h.s_most)) (omega (arith, (arranged c).few_steps, h.c_most)) (arranged c).ready

-- measuring leaves the output as it was, and gives the length
unlent : (c : After-compressed_text-length) → c.compressed_text-length.new.out ++ c.args.out.now ≡ c.args.out.now
unlent c = none_lent c.compressed_text-length.new.out c.args.out.now c.compressed_text-length.auto.out

measured : (c : After-compressed_text-length) → c.compressed_text-length.result ≡ length (text_of c.args.words.now c.args.labels.now 0 (layout_of c.args.layout))
measured c =
    ends_style _ _ _ _ (rw c.statement_section-statements.ensures at c.compressed_text-length.ensures) c.in_ok-arranged.ensures.done.list c.in_ok-arranged.ensures.done.says

pub arrange-requires : goal.arrange-requires
arrange-requires c = record {
  listable = record { b = c.args.labels.now; ok = c.requires.writable.ok; enough = c.requires.writable.enough };
  right = c.requires.writable.right;
  cells_enough = c.requires.writable_sums;
}

pub returns-in_err-arranged : goal.returns-in_err-arranged
returns-in_err-arranged c =
    let is : c.from_residual.result ≡ Err c.in_err-arranged.field-0.0 = search rules in
    rw is (refused_first _ _ _ _ _ _ _ refl c.in_err-arranged.ensures.number_is (refusal_some c.in_err-arranged.field-0.0) refl)

pub statement_section-statements-requires : goal.statement_section-statements-requires
statement_section-statements-requires c = header _ (good _ _ c.requires.writable.ok).ok1

pub compressed_text-length-requires : goal.compressed_text-length-requires
compressed_text-length-requires c = record {
  layout_value = c.requires.writable.right;
  text_ready = rw c.statement_section-statements.ensures (ready (goal.at.compressed_text-length-requires c).In_ok-arranged);
}

pub returns-then-out-length : goal.returns-then-out-length
returns-then-out-length c = no_room _ _ _ _ _ (compressed_late _ _ _ _ (fine (goal.at.returns-then-out-length c).In_ok-arranged)) _ _ _ refl refl (unlent (goal.at.returns-then-out-length c).After-compressed_text-length) (omega (arith, c.if-out-length.true, ap length (unlent (goal.at.returns-then-out-length c).After-compressed_text-length), measured (goal.at.returns-then-out-length c).After-compressed_text-length))

pub compressed_text-requires : goal.compressed_text-requires
compressed_text-requires c = record { layout_value = c.requires.writable.right; text_ready = rw c.statement_section-statements.ensures (ready (goal.at.compressed_text-requires c).In_ok-arranged) }

pub returns : goal.returns
returns c =
    fits _ _ _ _ _ (compressed_late _ _ _ _ (fine (goal.at.returns c).In_ok-arranged)) _ _ (measured (goal.at.returns c).After-compressed_text-length) (omega (
      arith,
      c.if-out-length.false,
      ap length (unlent (goal.at.returns c).After-compressed_text-length),
      measured (goal.at.returns c).After-compressed_text-length,
    ))
    (over_both _ (text_of c.args.words.now c.args.labels.now 0 (layout_of c.args.layout)) _ _ _ (fits_style c.args.words.now c.args.labels.now (layout_of c.args.layout) (places c.in_ok-arranged.arranged) (rw c.statement_section-statements.ensures at c.compressed_text.ensures) (arranged (goal.at.returns c).In_ok-arranged).list (arranged (goal.at.returns c).In_ok-arranged).says (omega (arith, c.if-out-length.false, measured (goal.at.returns c).After-compressed_text-length, ends_style c.args.words.now c.args.labels.now (layout_of c.args.layout) (places c.in_ok-arranged.arranged) (rw c.statement_section-statements.ensures at c.compressed_text.ensures) (arranged (goal.at.returns c).In_ok-arranged).list (arranged (goal.at.returns c).In_ok-arranged).says))) refl (unlent (goal.at.returns c).After-compressed_text-length))
