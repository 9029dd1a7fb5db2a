-- `store::find_or_append` meets its contract: each return is one case of `place`, and what is built stays in order.
-- Assumes nothing.
use mathlib.Core.Path.{sym, ◌∙◌}
use borrow.Author.Tests.{not-true, not-false}
use Rattle.store.proofs.PlaceLaws.{at_found, at_none, at_end}
use Rattle.store.proofs.place.find_or_append.Goals as goal

pub returns-in-Some : goal.returns-in-Some
returns-in-Some c = at_found _ _ c.args.store c.requires.store_ok _ _ _ c.in-Some.ensures

pub returns-then-not-has_room : goal.returns-then-not-has_room
returns-then-not-has_room c =
    at_none _ _ c.args.store c.requires.store_ok _ _ (sym c.in_default.is ∙ c.find_entry.ensures) (not-false _ (sym c.has_room.ensures ∙ c.if-not-has_room.true))

pub returns : goal.returns
returns c =
    let w = c.append-more in
    at_end _ _ c.args.store c.requires.store_ok _ _ (sym c.in_default.is ∙ c.find_entry.ensures)
    (not-true _ (sym c.has_room.ensures ∙ c.if-not-has_room.false)) _ _ w.result w.ensures w.auto.entries w.auto.children
