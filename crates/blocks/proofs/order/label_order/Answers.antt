-- `label_order` meets its contract: the laws of module Ordering say what numbering, sorting and filling leave.
-- Costs and use counts stand in the front part, which nothing writes.
use mathlib.Core.Path.{◌∙◌}
use Rattle.blocks.proofs.Ordering.{can_sort, can_fill, order_is}
use Rattle.blocks.proofs.order.label_order.Goals as goal

pub sort_by_use-requires : goal.sort_by_use-requires
sort_by_use-requires c = can_sort _ _ _ _ _ _ _ c.requires c.split_at_mut-counts.ensures.front c.split_at_mut-counts.ensures.back_len _ c.number.ensures

pub fill_blocks-requires : goal.fill_blocks-requires
fill_blocks-requires c = can_fill _ _ _ _ _ _ _ c.requires c.split_at_mut-counts.ensures.front c.split_at_mut-counts.ensures.back_len _ _ c.number.ensures c.sort_by_use.ensures

pub returns : goal.returns
returns c =
    c.fill_blocks.ensures
    ∙ order_is _ _ _ _ _ _ _ c.requires c.split_at_mut-counts.ensures.front c.split_at_mut-counts.ensures.back_len _ _ c.number.ensures c.sort_by_use.ensures
