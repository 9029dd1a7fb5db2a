-- What was written stands inside the output, as a law of the outcome says; the list is the definition's.
use Rattle.defs.specs.Inside.{letters_inside}
use Rattle.bulonkeri.proofs.Fits.{first_count, second_count}
use Rattle.bulonkeri.proofs.Lists.{letters_listed}
use Rattle.bulonkeri.proofs.spelling.label_letters.Goals as goal

pub returns-clause-prefix_len : goal.returns-clause-prefix_len
returns-clause-prefix_len c = first_count _ c.label_letters.ensures (letters_inside _ _ _ _ _ _ _)

pub returns-clause-prefix_len_2 : goal.returns-clause-prefix_len_2
returns-clause-prefix_len_2 c = second_count _ c.label_letters.ensures (letters_inside _ _ _ _ _ _ _)

pub returns-clause-listed : goal.returns-clause-listed
returns-clause-listed c = letters_listed _ _ _ _ _ _ _ _ c.label_letters.ensures
