-- `list_statements` meets its contract: the numbers and use counts start from zero, the theorem's list is numbered, and all steps are used.
-- The statements by first appearance are then taken twice, first those that are no assertions. Assumes nothing.
use Rattle.listing.proofs.ListLaws.{steps_ready, first_ready, second_ready, all_listed}
use Rattle.listing.proofs.list.list_statements.Goals as goal

pub use_steps-listed-requires : goal.use_steps-listed-requires
use_steps-listed-requires c = steps_ready _ _ _ _ _ _ _ c.requires _ c.clear.auto.work c.clear.ensures _ c.number_theorem.auto.work c.number_theorem.ensures

pub keep_kind-middle-requires : goal.keep_kind-middle-requires
keep_kind-middle-requires c =
    first_ready _ _ _ _ _ _ _ c.requires _ c.clear.auto.work c.clear.ensures _ c.number_theorem.auto.work c.number_theorem.ensures _ _ c.use_steps-listed.auto.work c.use_steps-listed.ensures

pub keep_kind-requires : goal.keep_kind-requires
keep_kind-requires c =
    second_ready _ _ _ _ _ _ _ c.requires _ c.clear.auto.work c.clear.ensures _ c.number_theorem.auto.work c.number_theorem.ensures _ _
    c.use_steps-listed.auto.work c.use_steps-listed.ensures _ _ c.keep_kind-middle.auto.work c.keep_kind-middle.ensures

pub returns : goal.returns
returns c =
    all_listed _ _ _ _ _ _ _ c.requires _ c.clear.auto.work c.clear.ensures _ c.number_theorem.auto.work c.number_theorem.ensures _ _
    c.use_steps-listed.auto.work c.use_steps-listed.ensures _ _ c.keep_kind-middle.auto.work c.keep_kind-middle.ensures _ _ c.keep_kind.ensures
