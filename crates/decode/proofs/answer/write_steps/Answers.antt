-- `write_steps` meets its contract. The first reading is lent no room and says 17 or how many steps there are;
-- the second, which is lent the output, says the same and writes them.
use mathlib.Core.Path.{◌≡◌, ap, ◌∙◌}
use native.Mathlib.Omega.{arith}
use Rattle.std.proofs.Common.{rules}
use Rattle.std.specs.Prelude.{Err}
use Rattle.std.specs.Result.{result_ok}
use Rattle.answers.specs.declared.refusals.Refusal.TheVariants.{BadLetters}
use Rattle.decode.proofs.Answers.{read_17, read_15, read_0}
use Rattle.decode.proofs.answer.write_steps.Goals as goal

pub returns-in_err-steps : goal.returns-in_err-steps
returns-in_err-steps c =
    let first = c.all_letters-measured in
    let is : c.from_residual.result ≡ Err BadLetters = search rules in
    rw is (read_17 c.args.out.now first.new.out first.auto.out _ _ _ _ first.ensures _ (omega arith) (c.ok_or.ensures.ok_part ∙ ap result_ok c.in_err-steps.was))

pub returns-then-out-steps : goal.returns-then-out-steps
returns-then-out-steps c =
    let first = c.all_letters-measured in
    read_15 c.args.out.now first.new.out first.auto.out _ _ _ _ first.ensures _ _ (omega arith) (c.ok_or.ensures.ok_part ∙ ap result_ok c.in_ok-steps.was) (omega arith)

pub returns : goal.returns
returns c =
    let first = c.all_letters-measured in
    read_0 c.args.out.now first.new.out first.auto.out _ _ _ _ first.ensures _ _ _ (c.ok_or.ensures.ok_part ∙ ap result_ok c.in_ok-steps.was) (omega arith) c.all_letters.ensures
