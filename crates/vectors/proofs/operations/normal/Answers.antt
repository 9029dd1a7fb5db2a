-- What is hashed was written, as a law of the outcome says; the answer is that of the outcome.
-- C's form of the answer has its number and its length.
use Rattle.defs.specs.Inside.{list_inside}
use Rattle.vectors.specs.Answers.{list_answer}
use Rattle.vectors.proofs.AnswerLaws.{one_answer, one_fits}
use Rattle.vectors.proofs.operations.normal.Goals as goal

pub of_output-requires : goal.of_output-requires
of_output-requires c = one_fits _ c.from-answer.ensures c.normal_list.ensures (list_inside _ _ _ _ _ _)

pub returns : goal.returns
unfolding list_answer
returns c = one_answer _ c.from-answer.ensures c.of_output.ensures c.normal_list.ensures
