-- `write_both` meets its contract: module Answers says the answer at each return.
-- Measuring is lent no bytes, so it leaves the letters as they were.
use Rattle.std.proofs.Common.{rules, Err}
use Rattle.answers.specs.Refused.{refusal_some}
use Rattle.order.proofs.Answers.{refused_first, list_short, letters_short, both_written, from_front}
use Rattle.order.specs.Arrangement.{Arrangement}
use Rattle.lists.proofs.ListLaws.{copied}
use Rattle.layout.proofs.Free.{none_lent}
use Rattle.layout.specs.Layouts.{layout_of}
use Rattle.defs.specs.Text.{labels_of, letters_for}
use Rattle.laws.specs.Tools.{part, over}
use lib.ListN.{length}
use native.Mathlib.Omega.{arith}
use Prim.Native.Nat.{◌+◌, ◌-◌}
use mathlib.Core.List.{◌++◌}
use mathlib.Core.Path.{◌≡◌, ap, ◌∙◌}
use Rattle.order.proofs.answer.write_both.Goals.{After-put_letters-length, In_ok-arranged, then-list-listed-via-then-list-listed, then-list-listed-via-else-list-listed+then-letters-length}
use Rattle.order.proofs.answer.write_both.Goals as goal

-- no test up to 12 refused, so all stands in the working slice
arranged : (c : In_ok-arranged) → Arrangement c.args.words.now (layout_of c.args.layout) c.in_ok-arranged.arranged c.arrange.new.work
arranged c = c.in_ok-arranged.ensures.done

-- measuring leaves the letters as they were, and gives how many there are
unlent : (c : After-put_letters-length) → c.put_letters-length.new.out ++ c.args.letters.now ≡ c.args.letters.now
unlent c = none_lent c.put_letters-length.new.out c.args.letters.now c.put_letters-length.auto.out

measured : (c : After-put_letters-length) → c.put_letters-length.result ≡ length (letters_for c.args.words.now (layout_of c.args.layout))
unfolding letters_for
measured c =
    let a : Arrangement c.args.words.now (layout_of c.args.layout) c.in_ok-arranged.arranged c.arrange.new.work = c.in_ok-arranged.ensures.done in
    omega (arith, (c.put_letters-length.ensures.wrote _ _ _ a.says).ends)

-- what is copied is the label list
list-there : (c : In_ok-arranged) → let a = c.in_ok-arranged.arranged in part a.labels (a.labels + a.listed - a.labels) c.arrange.new.work ≡ labels_of c.args.words.now (layout_of c.args.layout)
list-there c =
    let a = c.in_ok-arranged.arranged in
    let n : a.labels + a.listed - a.labels ≡ a.listed = omega arith in
    rw n (arranged c).list

pub returns-in_err-arranged : goal.returns-in_err-arranged
returns-in_err-arranged c =
    let is : c.from_residual.result ≡ Err c.in_err-arranged.field-0.0 = search rules in
    rw is (refused_first _ _ _ _ _ c.in_err-arranged.ensures.number_is (refusal_some c.in_err-arranged.field-0.0))

pub returns-then-list-listed : goal.returns-then-list-listed
returns-then-list-listed c =
    let fine = c.in_ok-arranged.ensures.number_is in
    let at = (goal.at.returns-then-list-listed c).After-put_letters-length in
    let a = arranged (goal.at.returns-then-list-listed c).In_ok-arranged in
    elim c.then-list-listed.branch [
      | then-list-listed-via-then-list-listed w ↦ list_short _ _ _ _ fine _ (unlent at) (omega (arith, w.if-list-listed.true, a.listed_is))
      | then-list-listed-via-else-list-listed+then-letters-length w ↦
          letters_short _ _ _ _ fine _ (unlent at) (omega (arith, w.if-letters-length.true, ap length (unlent at), measured at))
    ]

pub returns : goal.returns
unfolding letters_for
returns c =
    let at = (goal.at.returns c).After-put_letters-length in
    let a = arranged (goal.at.returns c).In_ok-arranged in
    both_written _ _ _ _ c.in_ok-arranged.ensures.number_is _ _ _ _ a.listed_is (measured at)
    (omega (arith, a.listed_is, c.if-list-listed.false))
    (omega (arith, measured at, ap length (unlent at), c.if-letters-length.false))
    (copied _ _ _ _ (c.copy.ensures ∙ list-there (goal.at.returns c).In_ok-arranged) a.listed_is)
    (from_front _ _ _ _ (c.put_letters.ensures.wrote _ _ _ a.says)
    (omega (arith, c.if-letters-length.false, (c.put_letters-length.ensures.wrote _ _ _ a.says).ends, (c.put_letters.ensures.wrote _ _ _ a.says).ends))
    ∙ ap (over (letters_for c.args.words.now (layout_of c.args.layout))) (unlent at))
