-- `put_bytes` meets its contract: the parts are put one after the other, in the order of document 01.
-- Each part is short, so each end is near enough for the next.
use native.Mathlib.Omega.{arith}
use Rattle.words.proofs.PartLaws.{hyp_most}
use Rattle.words.proofs.WordLaws.{spelled_put}
use Rattle.words.proofs.word.put_bytes.Goals as goal

pub put_last-requires : goal.put_last-requires
put_last-requires c =
    record {
      inside = c.requires.word_inside.label_is_in;
      max_label_length_bound =
          omega (arith, c.requires.most_word_bound, c.put_mark-hyp.ensures.1, c.put_hyp-last.ensures.ends, hyp_most _ _ c.requires.word_inside.hyp_in);
    }

pub returns : goal.returns
returns c = spelled_put _ _ c.put_mark-hyp.ensures.0 c.put_hyp-last.ensures c.put_last.ensures
