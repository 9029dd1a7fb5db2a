-- `fill_line` meets its contract: the laws of module Lines say what the choice, its emission and its removal leave.
-- What each callee needs follows from `Ready` and from what the choice is.
use native.Mathlib.Omega.{arith}
use Rattle.blocks.proofs.Lines.{upward, few_places, in_slice, fits_line, in_lent, lent_once, line_done}
use Rattle.blocks.proofs.line.fill_line.Goals as goal

pub put_members-requires : goal.put_members-requires
put_members-requires c =
    let ch = c.choose_for-choice.ensures in
    record {
      places_bound = omega (arith, few_places _ _ _ _ _ _ _ _ _ c.requires _ _ ch, c.requires.before);
      all = in_slice _ _ _ _ _ _ _ _ _ c.requires _ _ ch;
    }

pub remove-left-requires : goal.remove-left-requires
remove-left-requires c =
    let r = c.requires in
    let ch = c.choose_for-choice.ensures in
    let placed = c.put_members.ensures in record { all = (in_lent _ _ _ _ _ _ _ _ _ r _ _ ch _ placed, upward _ _ _ _ _ _ _ _ _ r _ _ ch); once = lent_once _ _ _ _ _ _ _ _ _ r _ _ ch _ placed }

pub overflow_add-line : goal.overflow_add-line
overflow_add-line c =
    omega (arith, fits_line _ _ _ _ _ _ _ _ _ c.requires _ _ c.choose_for-choice.ensures)

pub returns : goal.returns
returns c =
    let r = c.requires in
    let ch = c.choose_for-choice.ensures in
    let placed = c.put_members.ensures in
    let left = c.remove-left in
    rw c.position_after-position.ensures
    (line_done _ _ _ _ _ _ _ _ _ r _ _ ch _ placed c.put_members.auto.work _ _ left.ensures.0 left.auto.block left.ensures.1)
