use Rattle.std.proofs.Common.{Some, ap, sym, ◌∙◌}
use Rattle.std.proofs.lemmas.Result.{IfOk-weaker}
use Rattle.pc_read.proofs.Owned.{more_splits, no_splits}
use Rattle.pc_read.proofs.splits.owned_splits.Goals as goal

pub owned_items-requires : goal.owned_items-requires
owned_items-requires c = (more_splits c.args.bytes.now c.in-Some.field-0-0.now c.in-Some.keys.now c.requires (sym c.in-Some.ensures)).0

pub returns-in-None : goal.returns-in-None
returns-in-None c = no_splits c.args.bytes.now c.requires (sym c.in-None.ensures) ∙ ap Some (sym c.new.ensures)

pub returns-in-Some : goal.returns-in-Some
returns-in-Some c =
    IfOk-weaker c.owned_items.result _ _ (λ keys h. (more_splits c.args.bytes.now c.in-Some.field-0-0.now c.in-Some.keys.now c.requires (sym c.in-Some.ensures)).1 ∙ h) c.owned_items.ensures
