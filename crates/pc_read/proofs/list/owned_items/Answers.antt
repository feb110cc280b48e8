use Rattle.std.proofs.Common.{sym, subst}
use Rattle.pc_read.proofs.Owned.{IsReadSoFar, one_read}
use Rattle.pc_read.proofs.list.owned_items.Goals as goal

pub items-preserved : goal.items-preserved
items-preserved g c =
    subst (λ xs. IsReadSoFar g.K.Kept.read c.args.byte c.args.bytes.now xs c.in-Some.behind.now) (sym c.in_ok-add-in-Some.ensures.ok)
    (one_read g.K.Kept.read c.args.byte c.args.bytes.now c.items.items c.items.rest.now c.in-Some.text.now c.in-Some.behind.now c.in_ok-item-in-Some.field-0 c.items.invariant (sym c.in-Some.ensures) c.in_ok-item-in-Some.ensures)
