-- What is hashed was written, as a law of the outcome says; the answers are those of the outcome.
-- C's form of the answer has its number and its lengths.
use Rattle.defs.specs.Inside.{letters_inside}
use Rattle.vectors.specs.Answers.{letters_answers}
use Rattle.vectors.proofs.AnswerLaws.{two_answers, two_fit}
use Rattle.vectors.proofs.operations.label_letters.Goals as goal

pub of_output-labels-requires : goal.of_output-labels-requires
of_output-labels-requires c = (two_fit _ c.from-answer.ensures c.label_letters.ensures (letters_inside _ _ _ _ _ _ _)).0

pub of_output-letters-requires : goal.of_output-letters-requires
of_output-letters-requires c = (two_fit _ c.from-answer.ensures c.label_letters.ensures (letters_inside _ _ _ _ _ _ _)).1

pub returns : goal.returns
unfolding letters_answers
returns c = two_answers _ c.from-answer.ensures c.of_output-labels.ensures c.of_output-letters.ensures c.label_letters.ensures
