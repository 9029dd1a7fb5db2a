-- `put_refusal` meets its contract: four pieces, one behind another.
-- They are few bytes, whatever the number.
use Rattle.answers_said.specs.Bytes.{bytes}
use Rattle.names.proofs.Decimals.{digits_most}
use native.Mathlib.Omega.{arith}
use Rattle.answers_said.proofs.SaidLaws.{refusal_put, refusal_most}
use Rattle.answers_said.proofs.refusals.put_refusal.Goals as goal

pub put_piece-parted-requires : goal.put_piece-parted-requires
put_piece-parted-requires c = omega (arith, c.put_decimal-numbered.ensures.ends, c.put_piece-begun.ensures.ends, digits_most c.args.number (omega arith))

pub put_reason-requires : goal.put_reason-requires
put_reason-requires c = omega (arith, c.put_piece-parted.ensures.ends, c.put_decimal-numbered.ensures.ends, c.put_piece-begun.ensures.ends, digits_most c.args.number (omega arith))

pub returns : goal.returns
unfolding bytes
returns c =
    let g = refusal_put c.args.number c.put_piece-begun.ensures c.put_decimal-numbered.ensures c.put_piece-parted.ensures c.put_reason.ensures in record {
      grows = g;
      upper_bound = omega (arith, g.ends, refusal_most c.args.number (omega arith));
    }
