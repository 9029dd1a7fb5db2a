-- `replay::settle` meets its contract: both outputs zeroed, or what lies behind what is built.
-- Assumes nothing.
use native.Mathlib.Omega.{arith}
use Rattle.replay.proofs.AnswerLaws.{ended_store, settle_refused, settle_done}
use Rattle.replay.proofs.answer.settle.Goals as goal

-- what is built stands in the outputs
pub offset_bounds-entries-built : goal.offset_bounds-entries-built
offset_bounds-entries-built c = let ended = ended_store _ _ _ _ c.in-Ok.is c.requires in omega arith

pub slice_bounds-fill-start : goal.slice_bounds-fill-start
slice_bounds-fill-start c = (ended_store _ _ _ _ c.in-Ok.is c.requires).built_room

pub slice_bounds-fill-count : goal.slice_bounds-fill-count
slice_bounds-fill-count c = (ended_store _ _ _ _ c.in-Ok.is c.requires).built_room

pub offset_bounds-children-kids : goal.offset_bounds-children-kids
offset_bounds-children-kids c = let ended = ended_store _ _ _ _ c.in-Ok.is c.requires in omega arith

pub slice_bounds-fill-start-in-Ok : goal.slice_bounds-fill-start-in-Ok
slice_bounds-fill-start-in-Ok c = (ended_store _ _ _ _ c.in-Ok.is c.requires).kids_room

pub slice_bounds-fill-count-in-Ok : goal.slice_bounds-fill-count-in-Ok
slice_bounds-fill-count-in-Ok c = (ended_store _ _ _ _ c.in-Ok.is c.requires).kids_room

pub returns-in-Err : goal.returns-in-Err
returns-in-Err c = λ half stack work.
    settle_refused _ _ c.args.turn half stack work _ _ _ c.in-Err.is (c.fill.ensures.after (λ y e. e)) (c.fill-in-Err.ensures.after (λ y e. e))

pub returns-in-Ok : goal.returns-in-Ok
returns-in-Ok c = λ half stack work.
    settle_done _ _ c.args.turn half stack work _ _ _ c.in-Ok.is (ended_store _ _ _ _ c.in-Ok.is c.requires) (c.fill-in-Ok.ensures.after (λ y e. e)) (c.fill-in-Ok-2.ensures.after (λ y e. e))
