use Rattle.std.proofs.Common.{◌≡◌, ℕ, ap, subst, ◌∙◌}
use Rattle.std.proofs.lemmas.Result.{IfOk-weaker}
use Rattle.pc_desk.proofs.Making.{may_send_there}
use Rattle.pc_desk.proofs.Stopping.{ends_as}
use Rattle.pc_proto.specs.declared.event.Event.TheVariants as events
use Rattle.pc_world.specs.RangeOf.{GoesTo}
use Rattle.pc_desk.proofs.desk.Desk.send.Goals as goal

pub send_to-requires-clause-may : goal.send_to-requires-clause-may
send_to-requires-clause-may g c =
    may_send_there c.args.self.now.log c.range_for-range.result c.args.request c.requires.may
    (subst (λ s. GoesTo s c.args.request c.range_for-range.result) (c.splits.ensures ∙ (c.self.invariant.0.same ∙ ap (λ d. d.log.head.splits) c.self.view_is)) c.range_for-range.ensures)

pub returns-clause-ok : goal.returns-clause-ok
returns-clause-ok g c = IfOk-weaker c.send_to.result _ _ (λ number sent. sent.sent) c.send_to.ensures.ok

pub returns-clause-ended : goal.returns-clause-ended
returns-clause-ended g c =
    ends_as c.send_to.result (λ event. (n : ℕ) × (event ≡ events.Send n c.range_for-range.result c.args.request)) (λ event. (n : ℕ) × (range : ℕ) × (event ≡ events.Send n range c.args.request)) c.args.self.now c.send_to.new.self
    (λ event is. (is.0, c.range_for-range.result, is.1)) c.send_to.ensures.ended
