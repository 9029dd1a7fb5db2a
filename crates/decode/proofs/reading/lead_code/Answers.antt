-- `lead_code` meets its contract: what is kept of the next value is the next value of what is kept.
-- No step is added and no word is written.
use Rattle.decode.proofs.ReadingLaws.{leads}
use Rattle.decode.proofs.reading.lead_code.Goals as goal

pub returns : goal.returns
returns c = λ reading x before after e k. leads reading x _ _ before after _ _ e k (cc) c.lead.ensures
